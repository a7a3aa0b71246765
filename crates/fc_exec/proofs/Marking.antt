-- A mark over the instances of a scope, and how it ends.
use Rattle.std.proofs.Common.{◌≡◌, ℕ, ◌+◌, ◌==◌, Bool, true, false, not, ◌&&◌, ◌||◌, List, [], ◌∷◌, ◌++◌, length, map, drop, slice_get, refl, ap, ◌∙◌, arith, Option, Some, None, Result, Ok, Err, IfOk, OnErr, if◌then◌else◌}
use Rattle.std.proofs.lemmas.Bool.Decides.{nat_tests}
use Rattle.std.specs.Option.{is_some}
use Rattle.fc_base.specs.declared.faults.Memory.{Memory}
use Rattle.fc_store.specs.Scopes.{each_at}
use Rattle.fc_store.specs.Stores.{Components, Stored, Tree, gone_back, is_in, mark_of, marks_of, over_mark, places_in, with_mark, without_mark}
use Rattle.fc_store.proofs.Doing.{same_tree}
use Rattle.fc_store.proofs.Scoped.{front_of, last_of}
use Rattle.fc_exec.specs.Operations.{applied, at_marks}
use Rattle.fc_exec.specs.Running.{Named, all_marked, applied_to, at_mark, is_marked, lies_in, named, same_numbers, stands, unmarked}
use Rattle.fc_exec.specs.declared.operations.Operation.{Operation}
use Rattle.fc_exec.proofs.Applying.{at_marks_stay, back_stays, effect_is, instances_stay}
use Rattle.fc_exec.proofs.Places.{changed_if, over_scope, within, within_undone}

-- ---- the places of a mark
places_of : (d : ℕ → ℕ) (ns : List ℕ) → map (λ (m : ℕ × ℕ). m.0) (map (λ i. (i, d i)) ns) ≡ ns
places_of d [] = refl
places_of d (n ∷ ns) = ap (λ ms. n ∷ ms) (places_of d ns)

marked_places : (scope : List (ℕ × ℕ)) (s : Stored) → map (λ (m : ℕ × ℕ). m.0) (mark_of scope s) ≡ places_in scope 0 s.instances
marked_places scope s = places_of (λ i. marks_of (slice_get s.trees i)) (places_in scope 0 s.instances)

is_same : (n : ℕ) → (n == n) ≡ true
is_same n = grind (arith, nat_tests)

both : (a b : Bool) → a ≡ true → b ≡ true → (a && b) ≡ true
both true b e f = f
both false b e f = absurd cc

and_parts : (a b : Bool) → (a && b) ≡ true → (a ≡ true) × (b ≡ true)
and_parts true b e = (refl, e)
and_parts false b e = absurd cc

numbers_same : (ns : List ℕ) → same_numbers ns ns ≡ true
numbers_same [] = refl
numbers_same (n ∷ ns) = both (n == n) (same_numbers ns ns) (is_same n) (numbers_same ns)

numbers_are : (ns ms : List ℕ) → same_numbers ns ms ≡ true → ns ≡ ms
numbers_are [] [] e = refl
numbers_are [] (m ∷ ms) e = absurd cc
numbers_are (n ∷ ns) [] e = absurd cc
numbers_are (n ∷ ns) (m ∷ ms) e =
    let p = and_parts (n == m) (same_numbers ns ms) e in
    let q : n ≡ m = grind (arith, nat_tests, p.0) in
    ap (λ k. k ∷ ns) q ∙ ap (λ ks. m ∷ ks) (numbers_are ns ms p.1)

-- ---- a mark is set
abbrev holds : Tree → List Components
holds t = t.held

one_more : (hs : List Components) (x : Components) → is_marked (hs ++ x ∷ []) ≡ true
one_more [] x = refl
one_more (h ∷ hs) x = refl

has_mark : (b : Bool) (t : Tree) → (not b || is_marked (changed_if with_mark b t).held) ≡ true
has_mark true t = one_more t.held t.now
has_mark false t = refl

pub all_have : (scope pairs : List (ℕ × ℕ)) (ts : List Tree) → all_marked scope pairs (map holds (within with_mark scope pairs ts)) ≡ true
all_have scope [] ts = refl
all_have scope (p ∷ pairs) [] = refl
all_have scope (p ∷ pairs) (t ∷ ts) =
    both (not (is_in scope p) || is_marked (changed_if with_mark (is_in scope p) t).held) (all_marked scope pairs (map holds (within with_mark scope pairs ts))) (has_mark (is_in scope p) t) (all_have scope pairs ts)

abbrev set : List (ℕ × ℕ) → Stored → Stored
set scope s = over_mark with_mark (mark_of scope s) s

set_within : (scope : List (ℕ × ℕ)) (s : Stored) → (set scope s).trees ≡ within with_mark scope s.instances s.trees
set_within scope s = over_scope with_mark scope s.instances (mark_of scope s) s.trees (marked_places scope s)

set_stands : (scope : List (ℕ × ℕ)) (s : Stored) → stands scope (mark_of scope s) (set scope s) ≡ true
set_stands scope s =
    both (same_numbers (map (λ (m : ℕ × ℕ). m.0) (mark_of scope s)) (places_in scope 0 s.instances)) (all_marked scope s.instances (at_marks (set scope s)))
    (ap (λ ns. same_numbers ns (places_in scope 0 s.instances)) (marked_places scope s) ∙ numbers_same (places_in scope 0 s.instances))
    (ap (λ ts. all_marked scope s.instances (map holds ts)) (set_within scope s) ∙ all_have scope s.instances s.trees)

undone : (change : Tree → Tree) → ((t : Tree) → change (with_mark t) ≡ t) → (scope : List (ℕ × ℕ)) (s : Stored) → over_mark change (mark_of scope s) (set scope s) ≡ s
undone change e scope s =
    let p : each_at change (mark_of scope s) (set scope s).trees ≡ s.trees =
    over_scope change scope s.instances (mark_of scope s) (set scope s).trees (marked_places scope s)
    ∙ ap (within change scope s.instances) (set_within scope s) ∙ within_undone with_mark change e scope s.instances s.trees in
    λ i. record { library = s.library; instances = s.instances; trees = p i }

pub less_one : (t : Tree) → without_mark (with_mark t) ≡ t
less_one t = same_tree (without_mark (with_mark t)) t refl (front_of t.held t.now (t.held ++ t.now ∷ []) refl)

pub back_one : (t : Tree) → gone_back (with_mark t) ≡ t
back_one t = same_tree (gone_back (with_mark t)) t (last_of t.held t.now (t.held ++ t.now ∷ []) t.now refl) (front_of t.held t.now (t.held ++ t.now ∷ []) refl)

-- a mark that is set changes nothing of the store without it
pub set_unmarked : (n : ℕ) (scope mark : List (ℕ × ℕ)) (old new : Stored) → mark ≡ mark_of scope old → new ≡ over_mark with_mark mark old → ◌≡◌ {A = Named} (n, unmarked (Some mark) new) (n, old)
set_unmarked n scope mark old new m e =
    ap (λ s. (n, over_mark without_mark mark s)) e ∙ ap (λ k. (n, over_mark without_mark k (over_mark with_mark k old))) m ∙ ap (λ s. (n, s)) (undone without_mark less_one scope old)

abbrev if_stands : Bool → Stored → List Stored
if_stands b s = if b then s ∷ [] else []

-- and the store at it is what the store was
pub set_at : (n : ℕ) (scope mark : List (ℕ × ℕ)) (old new : Stored) → mark ≡ mark_of scope old → new ≡ over_mark with_mark mark old → named n (at_mark scope (Some mark) new) ≡ (n, old) ∷ []
set_at n scope mark old new m e =
    ap (λ s. named n (at_mark scope (Some mark) s)) e ∙ ap (λ k. named n (at_mark scope (Some k) (over_mark with_mark k old))) m
    ∙ ap (λ b. named n (if_stands b (over_mark gone_back (mark_of scope old) (set scope old)))) (set_stands scope old) ∙ ap (λ s. (n, s) ∷ []) (undone gone_back back_one scope old)

pub begins_unmarked : (n : ℕ) (scope mark : List (ℕ × ℕ)) (before : Option (List (ℕ × ℕ))) (old new : Stored) → is_some before ≡ false → mark ≡ mark_of scope old → new ≡ over_mark with_mark mark old
    → ◌≡◌ {A = Named} (n, unmarked (Some mark) new) (n, unmarked before old)
begins_unmarked n scope mark None old new none m e = set_unmarked n scope mark old new m e
begins_unmarked n scope mark (Some other) old new none m e = absurd cc

pub begins_at : (n : ℕ) (scope mark : List (ℕ × ℕ)) (before : Option (List (ℕ × ℕ))) (old new : Stored) → is_some before ≡ false → mark ≡ mark_of scope old → new ≡ over_mark with_mark mark old
    → named n (at_mark scope (Some mark) new) ≡ (n, unmarked before old) ∷ named n (at_mark scope before old)
begins_at n scope mark None old new none m e = set_at n scope mark old new m e
begins_at n scope mark (Some other) old new none m e = absurd cc

-- ---- operations, while it stands
stays_by : (scope mark : List (ℕ × ℕ)) (s : Stored) (op : Operation) (b : Bool) → lies_in scope op ≡ true → stands scope mark s ≡ b
    → if_stands b (over_mark gone_back mark (applied s op).0) ≡ if_stands b (over_mark gone_back mark s)
stays_by scope mark s op true lies e =
    let p = and_parts (same_numbers (map (λ (m : ℕ × ℕ). m.0) mark) (places_in scope 0 s.instances)) (all_marked scope s.instances (at_marks s)) e in
    ap (λ t. t ∷ []) (back_stays scope mark s op lies (numbers_are (map (λ (m : ℕ × ℕ). m.0) mark) (places_in scope 0 s.instances) p.0) p.1)
stays_by scope mark s op false lies e = refl

abbrev stands_in : List (ℕ × ℕ) → List (ℕ × ℕ) → List (ℕ × ℕ) → List (List Components) → Bool
stands_in scope mark pairs hs = same_numbers (map (λ m. m.0) mark) (places_in scope 0 pairs) && all_marked scope pairs hs

stands_still : (scope mark : List (ℕ × ℕ)) (s : Stored) (op : Operation) → stands scope mark (applied s op).0 ≡ stands scope mark s
stands_still scope mark s op =
    ap (λ pairs. stands_in scope mark pairs (at_marks (applied s op).0)) (instances_stay s op) ∙ ap (stands_in scope mark s.instances) (at_marks_stay s op)

at_stays : (scope : List (ℕ × ℕ)) (mark : Option (List (ℕ × ℕ))) (s : Stored) (op : Operation) → lies_in scope op ≡ true → at_mark scope mark (applied s op).0 ≡ at_mark scope mark s
at_stays scope None s op lies = refl
at_stays scope (Some mark) s op lies =
    ap (λ b. if_stands b (over_mark gone_back mark (applied s op).0)) (stands_still scope mark s op) ∙ stays_by scope mark s op (stands scope mark s) lies refl

-- an operation at an instance of the scope changes nothing at the mark
pub mark_stays : (n : ℕ) (scope : List (ℕ × ℕ)) (mark : Option (List (ℕ × ℕ))) (old new : Stored) (op : Operation) (code : ℕ) → lies_in scope op ≡ true → ◌≡◌ {A = Stored × ℕ} (new, code) (applied old op)
    → named n (at_mark scope mark new) ≡ named n (at_mark scope mark old)
mark_stays n scope mark old new op code lies e =
    ap (λ (x : Stored × ℕ). named n (at_mark scope mark x.0)) e ∙ ap (named n) (at_stays scope mark old op lies)

-- the same for what a call answers, which after an error has changed nothing
pub apply_stays : (n : ℕ) (scope : List (ℕ × ℕ)) (mark : Option (List (ℕ × ℕ))) (old new : Stored) (op : Operation) (result : Result ℕ Memory) → lies_in scope op ≡ true
    → IfOk result (λ code. ◌≡◌ {A = Stored × ℕ} (new, code) (applied old op)) → OnErr result (new ≡ old) → named n (at_mark scope mark new) ≡ named n (at_mark scope mark old)
apply_stays n scope mark old new op (Ok code) lies e err = mark_stays n scope mark old new op code lies e
apply_stays n scope mark old new op (Err memory) lies e err = ap (λ s. named n (at_mark scope mark s)) err

pub if_effect : (n : ℕ) (mark : Option (List (ℕ × ℕ))) (old new : Stored) (op : Operation) (result : Result ℕ Memory) → IfOk result (λ code. ◌≡◌ {A = Stored × ℕ} (new, code) (applied old op))
    → IfOk result (λ code. ◌≡◌ {A = Named × ℕ} ((n, unmarked mark new), code) (applied_to (n, unmarked mark old) op))
if_effect n mark old new op (Ok code) e = effect_is n mark old new op code e
if_effect n mark old new op (Err memory) e = tt

-- ---- it ends
rolled_by : (n : ℕ) (s : Stored) (b : Bool) → 0 + 1 ≡ length (named n (if_stands b s)) → (n, s) ∷ [] ≡ named n (if_stands b s)
rolled_by n s true e = refl
rolled_by n s false e = absurd (omega (arith, e))

-- going back gives the store at the mark
pub rolled : (n : ℕ) (scope mark : List (ℕ × ℕ)) (old new : Stored) → 0 + 1 ≡ length (named n (at_mark scope (Some mark) old)) → new ≡ over_mark gone_back mark old
    → (n, new) ∷ [] ≡ named n (at_mark scope (Some mark) old)
rolled n scope mark old new one e = ap (λ s. (n, s) ∷ []) e ∙ rolled_by n (over_mark gone_back mark old) (stands scope mark old) one

none_left_by : (n : ℕ) (s : Stored) (b : Bool) → [] ≡ drop 1 (named n (if_stands b s))
none_left_by n s true = refl
none_left_by n s false = refl

pub none_left : (n : ℕ) (scope mark : List (ℕ × ℕ)) (old : Stored) → [] ≡ drop 1 (named n (at_mark scope (Some mark) old))
none_left n scope mark old = none_left_by n (over_mark gone_back mark old) (stands scope mark old)
