-- What is done while a mark stands over the instances of a scope, and then taken back or kept.
use Rattle.std.proofs.Common.{◌≡◌, ℕ, Bool, true, false, cond, List, [], ◌∷◌, map, refl, sym, ap, ap₂, ◌∙◌, Option, Some, None, slice_get, Result, Ok, Err}
use Rattle.std.specs.Prelude.{IfOk, OnOk}
use Rattle.fc_base.specs.declared.faults.Memory.{Memory}
use Rattle.fc_exec.specs.Operations.{applied, at_marks, is_inside, operations, place_of, within}
use Rattle.fc_exec.specs.Running.{all_marked, lies_in, named, stands}
use Rattle.fc_exec.specs.declared.operations.Operation.{Operation}
use Rattle.fc_exec.specs.declared.operations.Operation.TheVariants as operation
use Rattle.fc_exec.proofs.Applying.{applied_less, at_marks_stay, back_stays, instances_stay}
use Rattle.fc_exec.proofs.Framed.{within_stays}
use Rattle.fc_exec.proofs.Marking.{all_have, set_at, set_unmarked}
use Rattle.fc_exec.proofs.Places.{over_scope}
use Rattle.fc_modes.specs.Modes.{folded, first_refused, outcome_by}
use Rattle.fc_modes.specs.declared.mode.Mode.TheVariants.{AllOrNone}
use Rattle.fc_path.specs.declared.oper.Select.{Select}
use Rattle.fc_protocol.specs.Scopes.{Scope}
use Rattle.fc_store.specs.Stores.{Components, IsWhole, Stored, Tree, gone_back, mark_of, marks_of, over_mark, places_in, with_mark, without_mark}
use Rattle.fc_performing.specs.Beside.{IsBeside}
use Rattle.fc_performing.proofs.Undoing.{library_stays, outcome_codes_as, outcome_keeps, rolled, state_as}
use Rattle.fc_transactions.specs.Phases.{marked, rest_outcome}

-- ---- a mark that is set
pub set_marked : (r : Result (List (ℕ × ℕ)) Memory) (scope : Scope) (old new : Stored) → IfOk r (λ mark. mark ≡ mark_of scope old) → IfOk r (λ mark. new ≡ over_mark with_mark mark old) → OnOk r (new ≡ marked scope old)
set_marked (Ok mark) scope old new e f = f ∙ ap (λ m. over_mark with_mark m old) e
set_marked (Err memory) scope old new e f = tt

-- ---- an operation within a scope
-- it keeps what every operation keeps
module _ {A : Type 0} (part : Stored → A) (kept : (s : Stored) (op : Operation) → part (applied s op).0 ≡ part s) (scope : Scope) where
  within_keeps : (s : Stored) (op : Operation) → part (within scope s op).0 ≡ part s
  within_keeps s op = by (is_inside scope (place_of op))
    where
      by : (b : Bool) → part (cond {A = Stored × ℕ} b (applied s op) (s, 16)).0 ≡ part s
      by true = kept s op
      by false = refl

-- what a rest leaves beside what the instances hold now
rest_beside : (scope : Scope) (set : Stored) (rest : List Select) → IsBeside set (rest_outcome scope set rest).state
rest_beside scope set rest = record {
  library = outcome_keeps (within scope) (λ (u : Stored). u.library) (within_keeps (λ (u : Stored). u.library) library_stays scope) AllOrNone set (operations rest);
  instances = outcome_keeps (within scope) (λ (u : Stored). u.instances) (within_keeps (λ (u : Stored). u.instances) instances_stay scope) AllOrNone set (operations rest);
  marks = within_stays scope AllOrNone set (operations rest);
}

-- ---- a mark over a scope
places_are : (d : ℕ → ℕ) (ns : List ℕ) → map (λ (m : ℕ × ℕ). m.0) (map (λ i. (i, d i)) ns) ≡ ns
places_are d [] = refl
places_are d (n ∷ ns) = ap (λ ms. n ∷ ms) (places_are d ns)

marked_places : (scope : Scope) (s : Stored) → map (λ (m : ℕ × ℕ). m.0) (mark_of scope s) ≡ places_in scope 0 s.instances
marked_places scope s = places_are (λ i. marks_of (slice_get s.trees i)) (places_in scope 0 s.instances)

abbrev holds : Tree → List Components
holds t = t.held

all_stand : (scope : Scope) (s : Stored) → all_marked scope s.instances (at_marks (marked scope s)) ≡ true
all_stand scope s =
    ap (λ ts. all_marked scope s.instances (map holds ts)) (over_scope with_mark scope s.instances (mark_of scope s) s.trees (marked_places scope s)) ∙ all_have scope s.instances s.trees

-- a mark that was just set gives back what stood
set_by : (b : Bool) (t old : Stored) → named 0 (cond b (t ∷ []) []) ≡ (0, old) ∷ [] → t ≡ old
set_by true t old e = ap (λ (x : ℕ × Stored). x.1) (head_is (0, t) (0, old) [] [] e)
  where
    head_is : (x y : ℕ × Stored) (xs ys : List (ℕ × Stored)) → x ∷ xs ≡ y ∷ ys → x ≡ y
    head_is x y xs ys e = cc
set_by false t old e = absurd cc

pub set_back : (scope : Scope) (old : Stored) → over_mark gone_back (mark_of scope old) (marked scope old) ≡ old
set_back scope old = set_by (stands scope (mark_of scope old) (marked scope old)) (over_mark gone_back (mark_of scope old) (marked scope old)) old (set_at 0 scope (mark_of scope old) old (marked scope old) refl refl)

pub set_undone : (scope : Scope) (mark : List (ℕ × ℕ)) (old now : Stored) → mark ≡ mark_of scope old → now ≡ marked scope old → over_mark gone_back mark now ≡ old
set_undone scope mark old now m e = ap₂ (λ (k : List (ℕ × ℕ)) (s : Stored). over_mark gone_back k s) m e ∙ set_back scope old

pub set_less : (scope : Scope) (old : Stored) → over_mark without_mark (mark_of scope old) (marked scope old) ≡ old
set_less scope old = ap (λ (x : ℕ × Stored). x.1) (set_unmarked 0 scope (mark_of scope old) old (marked scope old) refl refl)

-- ---- what is done within a scope is taken back with a mark over it
lies : (i : ℕ × ℕ) (is : Scope) (op : Operation) → is_inside (i ∷ is) (place_of op) ≡ true → lies_in (i ∷ is) op ≡ true
lies i is (operation.Leaf l) e = e
lies i is operation.Commit e = refl
lies i is operation.Trcomp e = refl

back_by : (i : ℕ × ℕ) (is : Scope) (mark : List (ℕ × ℕ)) (s : Stored) (op : Operation) (b : Bool) → is_inside (i ∷ is) (place_of op) ≡ b → map (λ (m : ℕ × ℕ). m.0) mark ≡ places_in (i ∷ is) 0 s.instances
    → all_marked (i ∷ is) s.instances (at_marks s) ≡ true → over_mark gone_back mark (cond {A = Stored × ℕ} b (applied s op) (s, 16)).0 ≡ over_mark gone_back mark s
back_by i is mark s op true e p a = back_stays (i ∷ is) mark s op (lies i is op e) p a
back_by i is mark s op false e p a = refl

folded_back : (i : ℕ × ℕ) (is : Scope) (mark : List (ℕ × ℕ)) (s : Stored) (ops : List Operation) → map (λ (m : ℕ × ℕ). m.0) mark ≡ places_in (i ∷ is) 0 s.instances
    → all_marked (i ∷ is) s.instances (at_marks s) ≡ true → over_mark gone_back mark (folded (within (i ∷ is)) s ops) ≡ over_mark gone_back mark s
folded_back i is mark s [] p a = refl
folded_back i is mark s (op ∷ ops) p a =
    let instances : (within (i ∷ is) s op).0.instances ≡ s.instances = within_keeps (λ (u : Stored). u.instances) instances_stay (i ∷ is) s op in
    let marks : at_marks (within (i ∷ is) s op).0 ≡ at_marks s = within_keeps at_marks at_marks_stay (i ∷ is) s op in
    folded_back i is mark (within (i ∷ is) s op).0 ops (p ∙ sym (ap (places_in (i ∷ is) 0) instances))
    (ap (λ pairs. all_marked (i ∷ is) pairs (at_marks (within (i ∷ is) s op).0)) instances ∙ ap (all_marked (i ∷ is) s.instances) marks ∙ a)
    ∙ back_by i is mark s op (is_inside (i ∷ is) (place_of op)) refl p a

outcome_back : (i : ℕ × ℕ) (is : Scope) (mark : List (ℕ × ℕ)) (s : Stored) (ops : List Operation) (o : Option ℕ) → map (λ (m : ℕ × ℕ). m.0) mark ≡ places_in (i ∷ is) 0 s.instances
    → all_marked (i ∷ is) s.instances (at_marks s) ≡ true → over_mark gone_back mark (outcome_by (within (i ∷ is)) o AllOrNone s ops).state ≡ over_mark gone_back mark s
outcome_back i is mark s ops None p a = folded_back i is mark s ops p a
outcome_back i is mark s ops (Some at) p a = refl

pub rest_back : (scope : Scope) (old : Stored) (rest : List Select) → IsWhole old → over_mark gone_back (mark_of scope old) (rest_outcome scope (marked scope old) rest).state ≡ old
rest_back [] old rest whole = rolled (mark_of [] old) old (marked [] old) (rest_outcome [] (marked [] old) rest).state whole refl refl (rest_beside [] (marked [] old) rest)
rest_back (i ∷ is) old rest whole =
    outcome_back i is (mark_of (i ∷ is) old) (marked (i ∷ is) old) (operations rest) (first_refused (within (i ∷ is)) (marked (i ∷ is) old) (operations rest)) (marked_places (i ∷ is) old) (all_stand (i ∷ is) old)
    ∙ set_back (i ∷ is) old

-- ---- and kept without the mark it is what it is without one
within_less : (scope : Scope) (mark : List (ℕ × ℕ)) (s : Stored) (op : Operation)
    → ◌≡◌ {A = Stored × ℕ} (within scope (over_mark without_mark mark s) op) (over_mark without_mark mark (within scope s op).0, (within scope s op).1)
within_less scope mark s op = by (is_inside scope (place_of op))
  where
    by : (b : Bool)
        → ◌≡◌ {A = Stored × ℕ} (cond {A = Stored × ℕ} b (applied (over_mark without_mark mark s) op) (over_mark without_mark mark s, 16))
        (over_mark without_mark mark (cond {A = Stored × ℕ} b (applied s op) (s, 16)).0, (cond {A = Stored × ℕ} b (applied s op) (s, 16)).1)
    by true = applied_less op mark s
    by false = refl

pub rest_less : (scope : Scope) (old : Stored) (rest : List Select) → over_mark without_mark (mark_of scope old) (rest_outcome scope (marked scope old) rest).state ≡ (rest_outcome scope old rest).state
rest_less scope old rest =
    sym (state_as (within scope) (over_mark without_mark (mark_of scope old)) (within_less scope (mark_of scope old)) AllOrNone (marked scope old) (operations rest))
    ∙ ap (λ s. (rest_outcome scope s rest).state) (set_less scope old)

pub rest_codes : (scope : Scope) (old : Stored) (rest : List Select) → (rest_outcome scope (marked scope old) rest).codes ≡ (rest_outcome scope old rest).codes
rest_codes scope old rest =
    sym (outcome_codes_as (within scope) (over_mark without_mark (mark_of scope old)) (within_less scope (mark_of scope old)) AllOrNone (marked scope old) (operations rest))
    ∙ ap (λ s. (rest_outcome scope s rest).codes) (set_less scope old)
