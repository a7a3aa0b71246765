use Rattle.std.proofs.Common.{◌≡◌, ◌≢◌, ap₂, ◌∙◌, sym, true, false, Bool, List, ℕ, Option, Some, None}
use Rattle.std.proofs.lemmas.Result.{err_from_is_err_and}
use Rattle.std.specs.List.{list_all}
use Rattle.fc_types.specs.Ids.{is_distinct}
use Rattle.fc_types.specs.Libraries.{first_broken, first_fault, class_rules, is_known, same_instance}
use Rattle.fc_types.specs.declared.class.Class.{Class}
use Rattle.fc_types.specs.declared.fault.CheckFault.{CheckFault}
use Rattle.fc_types.specs.declared.fault.CheckFault.TheVariants as fault
use Rattle.fc_types.proofs.Faults.{fault_of_classes, fault_unknown, fault_repeated, no_fault, library_of_rules, own_of_rules, short_of_rules, known_moved}
use Rattle.fc_types.proofs.library.Library.check.Goals as goal

-- what a call answered of slices that hold the two lists
of_rules : (classes held : List Class) (pairs kept : List (ℕ × ℕ)) (answer o : Option CheckFault)
    → held ≡ classes → kept ≡ pairs → answer ≡ first_broken (class_rules held kept) → answer ≡ o → first_broken (class_rules classes pairs) ≡ o
of_rules classes held pairs kept answer o h k e is = ap₂ (λ a b. first_broken (class_rules a b)) (sym h) (sym k) ∙ sym e ∙ is

of_known : (classes held : List Class) (pairs kept : List (ℕ × ℕ)) (answer b : Bool)
    → held ≡ classes → kept ≡ pairs → answer ≡ list_all (is_known held) kept → answer ≡ b → list_all (is_known classes) pairs ≡ b
of_known classes held pairs kept answer b h k e is = ap₂ (λ a b. list_all (is_known a) b) (sym h) (sym k) ∙ sym e ∙ is

-- a fault of the instances that was passed on
passed : (classes : List Class) (pairs : List (ℕ × ℕ)) (e : CheckFault) → first_broken (class_rules classes pairs) ≡ None
    → list_all (is_known classes) pairs ≡ true → (e ≢ fault.Memory → e ≡ fault.DuplicateId)
    → (e ≢ fault.Memory → is_distinct same_instance pairs ≡ false) → e ≢ fault.Memory → first_fault classes pairs ≡ Some e
passed classes pairs e none known is repeats other = rw (is other) (fault_repeated classes pairs none known (repeats other))

pub returns-in-Some-clause-refused : goal.returns-in-Some-clause-refused
returns-in-Some-clause-refused c = λ _.
    fault_of_classes c.args.classes.items c.args.instances.items c.in-Some.fault
    (of_rules _ _ _ _ _ _ c.deref.ensures.value c.deref-2.ensures.value c.class_fault.ensures c.in-Some.is)

pub returns-then-not-are_known-clause-refused : goal.returns-then-not-are_known-clause-refused
returns-then-not-are_known-clause-refused c = λ _.
    fault_unknown c.args.classes.items c.args.instances.items
    (of_rules _ _ _ _ _ _ c.deref.ensures.value c.deref-2.ensures.value c.class_fault.ensures c.in_default.is)
    (of_known _ _ _ _ _ _ c.deref-3.ensures.value c.deref-4.ensures.value c.are_known.ensures c.if-not-are_known.true)

pub returns-in_err-instances-clause-refused : goal.returns-in_err-instances-clause-refused
returns-in_err-instances-clause-refused c =
    let p = err_from_is_err_and c.from_residual.result c.from_residual.ensures.1 in
    rw (p.1, p.2)
    (passed c.args.classes.items c.args.instances.items c.in_err-instances.field-0.0
    (of_rules _ _ _ _ _ _ c.deref.ensures.value c.deref-2.ensures.value c.class_fault.ensures c.in_default.is)
    (of_known _ _ _ _ _ _ c.deref-3.ensures.value c.deref-4.ensures.value c.are_known.ensures c.if-not-are_known.false)
    c.in_err-instances.ensures.repeated c.in_err-instances.ensures.repeats)

pub of-requires : goal.of-requires
of-requires c =
    short_of_rules c.args.classes.items c.args.instances.items
    (of_rules _ _ _ _ _ _ c.deref.ensures.value c.deref-2.ensures.value c.class_fault.ensures c.in_default.is)

pub of-requires-2 : goal.of-requires-2
of-requires-2 c =
    library_of_rules c.args.classes.items c.args.instances.items
    (of_rules _ _ _ _ _ _ c.deref.ensures.value c.deref-2.ensures.value c.class_fault.ensures c.in_default.is)

pub returns-clause-accepted : goal.returns-clause-accepted
returns-clause-accepted c =
    no_fault c.args.classes.items c.args.instances.items
    (of_rules _ _ _ _ _ _ c.deref.ensures.value c.deref-2.ensures.value c.class_fault.ensures c.in_default.is)
    (of_known _ _ _ _ _ _ c.deref-3.ensures.value c.deref-4.ensures.value c.are_known.ensures c.if-not-are_known.false)
    c.in_ok-instances.ensures.distinct

pub returns-clause-known : goal.returns-clause-known
returns-clause-known c =
    rw c.of-2.ensures
    (known_moved c.args.classes.items c.args.instances.items c.in_ok-instances.instances
    (of_known _ _ _ _ _ _ c.deref-3.ensures.value c.deref-4.ensures.value c.are_known.ensures c.if-not-are_known.false)
    c.in_ok-instances.ensures.same)

pub returns-clause-own : goal.returns-clause-own
returns-clause-own c =
    rw c.of-2.ensures
    (own_of_rules c.args.classes.items c.args.instances.items
    (of_rules _ _ _ _ _ _ c.deref.ensures.value c.deref-2.ensures.value c.class_fault.ensures c.in_default.is))
