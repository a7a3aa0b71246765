-- The scopes of participants, and why parts are no plan.
use Rattle.std.proofs.Common.{◌≡◌, ℕ, ◌≤◌, Bool, true, false, not, ◌&&◌, nat_lt, cond, List, [], ◌∷◌, map, length, Option, Some, None, IfSome, IfNone, refl, sym, ap, ◌∙◌, subst, arith}
use Rattle.std.specs.List.{list_all}
use Rattle.fc_path.specs.declared.oper.Select.{Select}
use Rattle.fc_protocol.specs.Collections.{or_next}
use Rattle.fc_protocol.specs.Scopes.{Scope, stands_before}
use Rattle.fc_plans.specs.Plans.{entered, entered_all, entered_by, whole, scoped, rescoped, rises_after, has_changes, has_scope, order_fault, scope_fault, plan_fault}
use Rattle.fc_plans.specs.declared.fault.PlanFault.{PlanFault}
use Rattle.fc_plans.specs.declared.fault.PlanFault.TheVariants as fault
use Rattle.fc_plans.specs.declared.plan.Part.{Part}

-- what is entered makes no scope shorter
longer_if : (a b : Bool) (i j : ℕ × ℕ) (js ks : Scope) → length js ≤ length ks → length (j ∷ js) ≤ length (cond a (i ∷ j ∷ js) (cond b (j ∷ ks) (j ∷ js)))
longer_if true b i j js ks l = omega arith
longer_if false true i j js ks l = omega (arith, l)
longer_if false false i j js ks l = omega arith

longer : (i : ℕ × ℕ) (is : Scope) → length is ≤ length (entered i is)
longer i [] = omega arith
longer i (j ∷ js) = longer_if (stands_before i j) (stands_before j i) i j js (entered i js) (longer i js)

all_longer : (ss : List Select) (is : Scope) → length is ≤ length (entered_all ss is)
all_longer [] is = omega arith
all_longer (s ∷ ss) is = let a = longer (s.class, s.instance) is in let b = all_longer ss (entered (s.class, s.instance) is) in omega (arith, a, b)

pub by_longer : (cs : List (List Select)) (is : Scope) → length is ≤ length (entered_by cs is)
by_longer [] is = omega arith
by_longer (c ∷ cs) is = let a = all_longer c is in let b = by_longer cs (entered_all c is) in omega (arith, a, b)

whole_scopes : (ps : List (ℕ × List (List Select))) → list_all has_scope (map whole ps) ≡ true
whole_scopes [] = refl
whole_scopes (p ∷ ps) = whole_scopes ps

or_none : (o : Option PlanFault) → or_next o None ≡ o
or_none None = refl
or_none (Some f) = refl

-- where everything may be changed the order alone can be wrong
pub whole_fault_is : (ps : List (ℕ × List (List Select))) → order_fault (map whole ps) ≡ plan_fault (map whole ps)
whole_fault_is ps = sym (ap (λ b. or_next (order_fault (map whole ps)) (cond b None (Some fault.Changes))) (whole_scopes ps) ∙ or_none (order_fault (map whole ps)))

pub scoped_again : (ps : List (ℕ × List (List Select))) → map rescoped (map whole ps) ≡ map scoped ps
scoped_again [] = refl
scoped_again (p ∷ ps) = ap (λ (qs : List Part). scoped p ∷ qs) (scoped_again ps)

same_rising : (n : ℕ) (ps : List (ℕ × List (List Select))) → rises_after n (map scoped ps) ≡ rises_after n (map whole ps)
same_rising n [] = refl
same_rising n (p ∷ ps) = ap (λ b. nat_lt n p.0 && b) (same_rising p.0 ps)

same_changes : (ps : List (ℕ × List (List Select))) → list_all has_changes (map scoped ps) ≡ list_all has_changes (map whole ps)
same_changes [] = refl
same_changes (p ∷ ps) = ap (λ b. has_changes (whole p) && b) (same_changes ps)

pub same_order : (ps : List (ℕ × List (List Select))) → order_fault (map scoped ps) ≡ order_fault (map whole ps)
same_order [] = refl
same_order (p ∷ ps) =
    ap (λ b. cond (not b) (Some fault.Order) (cond (list_all has_changes (map scoped (p ∷ ps))) None (Some fault.Changes))) (same_rising p.0 ps)
    ∙ ap (λ b. cond (not (rises_after p.0 (map whole ps))) (Some fault.Order) (cond b None (Some fault.Changes))) (same_changes (p ∷ ps))

-- faults in their order
pub first_told : (ps : List Part) (f : PlanFault) → order_fault ps ≡ Some f → plan_fault ps ≡ Some f
first_told ps f e = ap (λ o. or_next o (scope_fault ps)) e

later_told : (ps : List Part) (b : Bool) → order_fault ps ≡ None → list_all has_scope ps ≡ b → plan_fault ps ≡ cond b None (Some fault.Changes)
later_told ps b e h = ap (λ o. or_next o (scope_fault ps)) e ∙ ap (λ c. cond c None (Some fault.Changes)) h

-- what was tested of parts that may change everything
module _ (raw : List (ℕ × List (List Select))) (ps slice : List Part) (r o : Option PlanFault) (w : ps ≡ map whole raw) (v : slice ≡ ps) (f : r ≡ order_fault slice) (n : r ≡ o) where
  tested : order_fault (map whole raw) ≡ o
  tested = ap order_fault (sym (v ∙ w)) ∙ (sym f ∙ n)

  pub tested_scoped : order_fault (map scoped raw) ≡ o
  tested_scoped = same_order raw ∙ tested

  pub tested_whole : order_fault (map whole raw) ≡ o
  tested_whole = tested

pub whole_is_plan : (raw : List (ℕ × List (List Select))) → order_fault (map whole raw) ≡ None → plan_fault (map whole raw) ≡ None
whole_is_plan raw e = later_told (map whole raw) true e (whole_scopes raw)

-- what was found of scopes
module _ (raw : List (ℕ × List (List Select))) (ps : List Part) (o : Option (List Part)) (w : ps ≡ map whole raw) (e : order_fault (map scoped raw) ≡ None) where
  scopes_are : map rescoped ps ≡ map scoped raw
  scopes_are = ap (map rescoped) w ∙ scoped_again raw

  pub scoped_is : (out : List Part) → o ≡ Some out → IfSome o (λ others. (others ≡ map rescoped ps) × (list_all has_scope (map rescoped ps) ≡ true)) → out ≡ map scoped raw
  scoped_is out s h = (subst (λ t. IfSome t (λ others. (others ≡ map rescoped ps) × (list_all has_scope (map rescoped ps) ≡ true))) s h).0 ∙ scopes_are

  pub scoped_is_plan : (out : List Part) → o ≡ Some out → IfSome o (λ others. (others ≡ map rescoped ps) × (list_all has_scope (map rescoped ps) ≡ true)) → plan_fault (map scoped raw) ≡ None
  scoped_is_plan out s h =
      later_told (map scoped raw) true e (ap (list_all has_scope) (sym scopes_are) ∙ (subst (λ t. IfSome t (λ others. (others ≡ map rescoped ps) × (list_all has_scope (map rescoped ps) ≡ true))) s h).1)

  pub scoped_is_none : o ≡ None → IfNone o (list_all has_scope (map rescoped ps) ≡ false) → plan_fault (map scoped raw) ≡ Some fault.Changes
  scoped_is_none s h = later_told (map scoped raw) false e (ap (list_all has_scope) (sym scopes_are) ∙ subst (λ t. IfNone t (list_all has_scope (map rescoped ps) ≡ false)) s h)
