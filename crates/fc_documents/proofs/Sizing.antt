-- Of what is read of a transaction only too many participants or too large a scope keeps it from being begun.
use Rattle.std.proofs.Common.{◌≡◌, ◌≤◌, ℕ, ◌==◌, nat_le, nat_lt, ◌&&◌, ◌||◌, Bool, true, false, not, cond, List, [], ◌∷◌, map, length, Option, Some, None, is_none, Ok, refl, sym, ap, ap₂, ◌∙◌, subst, arith}
use Rattle.std.proofs.lemmas.Bool.{and_parts, le-leb, leb-true}
use Rattle.std.proofs.lemmas.List.Folds.{list_all-map}
use Rattle.std.specs.List.{list_all, list_any}
use Rattle.fc_path.specs.declared.oper.Select.{Select}
use Rattle.fc_plans.specs.Plans.{whole, scoped, rises_after, is_rising, has_changes, has_scope, order_fault, scope_fault, plan_fault}
use Rattle.fc_plans.specs.declared.fault.PlanFault.TheVariants as fault
use Rattle.fc_plans.specs.declared.plan.Part.{Part}
use Rattle.fc_plans.proofs.Scoping.{same_order}
use Rattle.fc_protocol.specs.Collections.{or_next}
use Rattle.fc_documents.specs.Rules.{is_of, entered, entered_by, participants, bodies_at, is_few, has_few}
use Rattle.fc_documents.specs.Parts.{each_of, change_of, part_of, transaction_of, makes_plan, can_begin}
use Rattle.fc_documents.specs.Causes.{is_small_scope, has_small_scopes}
use Rattle.fc_documents.specs.declared.tables.ChangeTable.{ChangeTable}
use Rattle.fc_documents.specs.declared.tables.TransactionTable.{TransactionTable}
use Rattle.fc_documents.specs.declared.transaction.PlanTxn.{PlanTxn}
use Rattle.fc_documents.proofs.Chains.{both, read_first, each_step, nothing_read, all_made, same_length}
use Rattle.fc_documents.proofs.Grouping.{of_element, of_each}
use Rattle.fc_documents.proofs.Entering.{all_entered}
use Rattle.fc_documents.proofs.Keeping.{Parts, part_is, parts_are, transaction_is}
use Rattle.fc_documents.proofs.Ordering.{own_made}

-- numbers that rise
abbrev rises : ℕ → List ℕ → Bool
rises n [] = true
rises n (e ∷ es) = nat_lt n e && rises e es

abbrev rising : List ℕ → Bool
rising [] = true
rising (e ∷ es) = rises e es

rises_if : (a b : Bool) (n e d : ℕ) (ds es : List ℕ) → nat_lt e d ≡ a → nat_lt d e ≡ b → nat_lt n e ≡ true → (nat_lt n d && rises d ds) ≡ true → (nat_lt d e ≡ true → rises d es ≡ true)
    → rises n (cond a (e ∷ d ∷ ds) (cond b (d ∷ es) (d ∷ ds))) ≡ true
rises_if true b n e d ds es lower upper h k more =
    both (nat_lt n e) (nat_lt e d && rises d ds) h (both (nat_lt e d) (rises d ds) lower (and_parts (nat_lt n d) (rises d ds) k).1)
rises_if false true n e d ds es lower upper h k more = both (nat_lt n d) (rises d es) (and_parts (nat_lt n d) (rises d ds) k).0 (more upper)
rises_if false false n e d ds es lower upper h k more = k

rises_entered : (n e : ℕ) (ds : List ℕ) → nat_lt n e ≡ true → rises n ds ≡ true → rises n (entered e ds) ≡ true
rises_entered n e [] h k = both (nat_lt n e) true h refl
rises_entered n e (d ∷ ds) h k =
    rises_if (nat_lt e d) (nat_lt d e) n e d ds (entered e ds) refl refl h k (λ above. rises_entered d e ds above (and_parts (nat_lt n d) (rises d ds) k).1)

rising_if : (a b : Bool) (e d : ℕ) (ds es : List ℕ) → nat_lt e d ≡ a → nat_lt d e ≡ b → rises d ds ≡ true → (nat_lt d e ≡ true → rises d es ≡ true)
    → rising (cond a (e ∷ d ∷ ds) (cond b (d ∷ es) (d ∷ ds))) ≡ true
rising_if true b e d ds es lower upper k more = both (nat_lt e d) (rises d ds) lower k
rising_if false true e d ds es lower upper k more = more upper
rising_if false false e d ds es lower upper k more = k

rising_entered : (e : ℕ) (ds : List ℕ) → rising ds ≡ true → rising (entered e ds) ≡ true
rising_entered e [] k = refl
rising_entered e (d ∷ ds) k = rising_if (nat_lt e d) (nat_lt d e) e d ds (entered e ds) refl refl k (λ above. rises_entered d e ds above k)

rising_by : (cs : List ChangeTable) (es : List ℕ) → rising es ≡ true → rising (entered_by cs es) ≡ true
rising_by [] es k = k
rising_by (c ∷ cs) es k = rising_by cs (entered c.element es) (rising_entered c.element es k)

-- and so do the parts
parts_rise : (cs : List ChangeTable) (n : ℕ) (es : List ℕ) (ps : Parts) → each_of (part_of cs) es ≡ Ok ps → rises n es ≡ true → rises_after n (map whole ps) ≡ true
parts_rise cs n [] ps e h = subst (λ (qs : Parts). rises_after n (map whole qs) ≡ true) (sym (nothing_read (part_of cs) ps e)) refl
parts_rise cs n (d ∷ es) zs e h =
    let (p, ps, first, rest, is) = each_step (part_of cs) d es zs e in
    let (here, there) = and_parts (nat_lt n d) (rises d es) h in
    let own = part_is cs d p first in
    subst (λ (qs : Parts). rises_after n (map whole qs) ≡ true) (sym is)
    (both (nat_lt n p.0) (rises_after p.0 (map whole ps)) (ap (nat_lt n) own ∙ here) (ap (λ (k : ℕ). rises_after k (map whole ps)) own ∙ parts_rise cs d es ps rest there))

are_rising : (cs : List ChangeTable) (es : List ℕ) (ps : Parts) → each_of (part_of cs) es ≡ Ok ps → rising es ≡ true → is_rising (map whole ps) ≡ true
are_rising cs [] ps e h = subst (λ (qs : Parts). is_rising (map whole qs) ≡ true) (sym (nothing_read (part_of cs) ps e)) refl
are_rising cs (d ∷ es) zs e h =
    let (p, ps, first, rest, is) = each_step (part_of cs) d es zs e in
    let own = part_is cs d p first in
    subst (λ (qs : Parts). is_rising (map whole qs) ≡ true) (sym is) (ap (λ (k : ℕ). rises_after k (map whole ps)) own ∙ parts_rise cs d es ps rest h)

-- there is one
longer_if : (a b : Bool) (e d : ℕ) (ds es : List ℕ) → length ds ≤ length es → length (d ∷ ds) ≤ length (cond a (e ∷ d ∷ ds) (cond b (d ∷ es) (d ∷ ds)))
longer_if true b e d ds es l = omega arith
longer_if false true e d ds es l = omega (arith, l)
longer_if false false e d ds es l = omega arith

longer : (e : ℕ) (ds : List ℕ) → length ds ≤ length (entered e ds)
longer e [] = omega arith
longer e (d ∷ ds) = longer_if (nat_lt e d) (nat_lt d e) e d ds (entered e ds) (longer e ds)

by_longer : (cs : List ChangeTable) (es : List ℕ) → length es ≤ length (entered_by cs es)
by_longer [] es = omega arith
by_longer (c ∷ cs) es = let a = longer c.element es in let b = by_longer cs (entered c.element es) in omega (arith, a, b)

some_participant : (cs : List ChangeTable) → not (length cs == 0) ≡ true → 1 ≤ length (participants cs)
some_participant [] h = cc
some_participant (c ∷ cs) h = by_longer cs (c.element ∷ [])

-- each has changes
some_if : (b more : Bool) (body : List ℕ) (bodies : List (List ℕ)) → (more ≡ true → nat_le 1 (length bodies) ≡ true) → (b || more) ≡ true → nat_le 1 (length (cond b (body ∷ bodies) bodies)) ≡ true
some_if true more body bodies h k = le-leb 1 (length (body ∷ bodies)) (omega arith)
some_if false more body bodies h k = h k

abbrev has_some : List ChangeTable → ℕ → Bool
has_some cs e = nat_le 1 (length (bodies_at e cs))

some_bodies : (cs : List ChangeTable) (e : ℕ) → list_any (is_of e) cs ≡ true → has_some cs e ≡ true
some_bodies [] e h = cc
some_bodies (c ∷ cs) e h = some_if (is_of e c) (list_any (is_of e) cs) c.body (bodies_at e cs) (some_bodies cs e) h

all_some : (cs : List ChangeTable) → list_all (has_some cs) (participants cs) ≡ true
all_some cs = all_entered (has_some cs) cs [] (of_each (has_some cs) cs (some_bodies cs)) refl

abbrev has_enough : List ChangeTable → ℕ → Bool
has_enough cs e = has_some cs e && is_few cs e

all_enough : (cs : List ChangeTable) (es : List ℕ) → list_all (has_some cs) es ≡ true → list_all (is_few cs) es ≡ true → list_all (has_enough cs) es ≡ true
all_enough cs [] h k = refl
all_enough cs (e ∷ es) h k =
    let (some, more) = and_parts (has_some cs e) (list_all (has_some cs) es) h in
    let (few, less) = and_parts (is_few cs e) (list_all (is_few cs) es) k in
    both (has_enough cs e) (list_all (has_enough cs) es) (both (has_some cs e) (is_few cs e) some few) (all_enough cs es more less)

abbrev changed : ℕ × List (List Select) → Bool
changed p = has_changes (whole p)

part_changed : (cs : List ChangeTable) (e : ℕ) (p : ℕ × List (List Select)) → part_of cs e ≡ Ok p → has_enough cs e ≡ true → changed p ≡ true
part_changed cs e p h k =
    let own = own_made cs e p h in
    let same = same_length change_of (bodies_at p.0 cs) p.1 own ∙ ap (λ (d : ℕ). length (bodies_at d cs)) (part_is cs e p h) in
    ap (λ (n : ℕ). nat_le 1 n && nat_le n 256) same ∙ k

-- so its parts are those of a plan, but for the scopes
order_kept : (qs : List Part) → 1 ≤ length qs → is_rising qs ≡ true → list_all has_changes qs ≡ true → order_fault qs ≡ None
order_kept [] some h k = absurd (omega (arith, some))
order_kept (q ∷ qs) some h k = ap₂ (λ (a b : Bool). cond (not a) (Some fault.Order) (cond b None (Some fault.Changes))) h k

mapped_length : (ps : Parts) → length (map whole ps) ≡ length ps
mapped_length [] = refl
mapped_length (p ∷ ps) = let more = mapped_length ps in omega (arith, more)

in_order : (t : TransactionTable) (x : PlanTxn) → has_few t ≡ true → transaction_of t ≡ Ok x → order_fault (map whole x.parts) ≡ None
in_order t x few e =
    let (ps, read, is) = transaction_is t x e in
    let (some, parts) = parts_are t.changes ps read in
    let long = some_participant t.changes some in
    let same = same_length (part_of t.changes) (participants t.changes) ps parts in
    let mapped = mapped_length ps in
    subst (λ (y : PlanTxn). order_fault (map whole y.parts) ≡ None) (sym is)
    (order_kept (map whole ps) (omega (arith, long, same, mapped)) (are_rising t.changes (participants t.changes) ps parts (rising_by t.changes [] refl))
    (list_all-map has_changes whole ps
    ∙ all_made (part_of t.changes) (has_enough t.changes) changed (part_changed t.changes) (participants t.changes) ps parts
    (all_enough t.changes (participants t.changes) (all_some t.changes) few)))

-- and only the scopes are left
whole_scopes : (ps : Parts) → list_all has_scope (map whole ps) ≡ true
whole_scopes [] = refl
whole_scopes (p ∷ ps) = whole_scopes ps

told_by : (b : Bool) → is_none (cond b None (Some fault.Changes)) ≡ b
told_by true = refl
told_by false = refl

scope_left : (qs : List Part) → order_fault qs ≡ None → is_none (plan_fault qs) ≡ list_all has_scope qs
scope_left qs h = ap (λ o. is_none (or_next o (scope_fault qs))) h ∙ told_by (list_all has_scope qs)

scopes_by : (b : Bool) (ps : Parts) → order_fault (map whole ps) ≡ None → is_none (plan_fault (cond b (map scoped ps) (map whole ps))) ≡ (not b || list_all is_small_scope ps)
scopes_by true ps h = scope_left (map scoped ps) (same_order ps ∙ h) ∙ list_all-map has_scope scoped ps
scopes_by false ps h = scope_left (map whole ps) h ∙ whole_scopes ps

pub plan_where : (t : TransactionTable) (x : PlanTxn) → has_few t ≡ true → transaction_of t ≡ Ok x → makes_plan x ≡ has_small_scopes x
plan_where t x few e = scopes_by x.scoped x.parts (in_order t x few e)

pub begun_where : (t : TransactionTable) (x : PlanTxn) → has_few t ≡ true → transaction_of t ≡ Ok x → can_begin x ≡ (has_small_scopes x && nat_le (length x.parts) 64)
begun_where t x few e = ap (λ (b : Bool). b && nat_le (length x.parts) 64) (plan_where t x few e)
