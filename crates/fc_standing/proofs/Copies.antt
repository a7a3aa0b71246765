-- Copies of a store on which transactions are held.
use Rattle.std.proofs.Common.{◌≡◌, ℕ, zero, suc, ◌+◌, Bool, true, false, List, [], ◌∷◌, ◌++◌, length, map, slice_get, refl, sym, ap, subst, ◌∙◌, arith, Some, if◌then◌else◌}
use Rattle.std.proofs.lemmas.Grind.{fold-append}
use Rattle.std.specs.List.{AllByRecursion}
use Rattle.fc_configuration.specs.Marking.{Marking, bare, marks_of_all}
use Rattle.fc_configuration.specs.Marking as configuration
use Rattle.fc_configuration.proofs.Settling.{copy_goes_back, copy_leaves}
use Rattle.fc_exec.specs.Operations.{applied, is_inside, place_of}
use Rattle.fc_exec.specs.Operations as exec
use Rattle.fc_exec.specs.declared.operations.Operation.{Operation}
use Rattle.fc_exec.proofs.Places.{each_id}
use Rattle.fc_events.specs.declared.subscriptions.Notice.{Notice}
use Rattle.fc_events.specs.declared.subscriptions.Subscription.{Subscription}
use Rattle.fc_machine.specs.ElementState.{Element, Entry, ops_of, working}
use Rattle.fc_machine.specs.ElementState as machine
use Rattle.fc_modes.specs.Modes.{folded, outcome}
use Rattle.fc_modes.specs.declared.mode.Mode.{Mode}
use Rattle.fc_protocol.specs.Records.{is_held}
use Rattle.fc_protocol.specs.Scopes.{Scope}
use Rattle.fc_store.specs.Scopes.{each_at}
use Rattle.fc_store.specs.Stores.{IsWhole, IsWholeTree, Pairwise, Stored, Tree, is_in, map_from, over_mark, settled, settled_tree, with_mark}
use Rattle.fc_store.proofs.Lists.{map_append, map_each, none_some, some_is}
use Rattle.fc_value.specs.Outcomes.{invalid_parameters}
use Rattle.fc_standing.specs.Basis.{store_basis}
use Rattle.fc_standing.specs.Holding.{AreHeld, Holding, IsSettled, held_on, held_ops, holdings, holdings_by, marking, standing}
use Rattle.fc_standing.proofs.Along.{Goes, folded_goes, outcome_codes, state_goes}
use Rattle.fc_standing.proofs.Over.{bare_from, goes_bare, over, with_trees}
use Rattle.fc_standing.proofs.Places.{IsBeside, all_beside, first_marks, standing_leaves, standing_length, standing_marks}
use Rattle.fc_standing.proofs.Standing.{IsWithin, held_undone, lie_in, standing_instances}

-- ---- what is held now
all_bare : (ops : List Operation) → AllByRecursion (Goes applied (settled [])) ops
all_bare [] = tt
all_bare (op ∷ ops) = (goes_bare op, all_bare ops)

abbrev same : Tree → Tree
same t = t

each_same : (ms : List (ℕ × ℕ)) (ts : List Tree) → map bare (each_at with_mark ms ts) ≡ map bare ts
each_same ms ts = map_each bare with_mark same ms ts (λ t. refl) ∙ each_id ms (map bare ts)

mark_unseen : (mark : List (ℕ × ℕ)) (s : Stored) → settled [] (over_mark with_mark mark s) ≡ settled [] s
mark_unseen mark s =
    with_trees s (map_from (settled_tree []) 0 (each_at with_mark mark s.trees)) (map_from (settled_tree []) 0 s.trees)
    (bare_from 0 (each_at with_mark mark s.trees) ∙ each_same mark s.trees ∙ sym (bare_from 0 s.trees))

held_unseen : (s : Stored) (h : Holding) → settled [] (held_on s h) ≡ folded applied (settled [] s) h.ops
held_unseen s h = sym (folded_goes applied (settled []) h.ops (all_bare h.ops) (over with_mark h.scope s)) ∙ ap (λ t. folded applied t h.ops) (mark_unseen (marking h.scope s.instances) s)

copied : (s : Stored) (hs : List Holding) → settled [] (standing s hs) ≡ folded applied (settled [] s) (held_ops hs)
copied s [] = refl
copied s (h ∷ hs) =
    copied (held_on s h) hs ∙ ap (λ t. folded applied t (held_ops hs)) (held_unseen s h) ∙ sym (fold-append (λ t op. (applied t op).0) (settled [] s) h.ops (held_ops hs))

bare_same : (ts : List Tree) → AllByRecursion (λ (t : Tree). t.held ≡ []) ts → map bare ts ≡ ts
bare_same [] a = refl
bare_same (t ∷ ts) a = λ i. record { now = t.now; held = sym a.0 i } ∷ bare_same ts a.1 i

pub settled_same : (c : Stored) → IsSettled c → settled [] c ≡ c
settled_same c a = with_trees c (map_from (settled_tree []) 0 c.trees) c.trees (bare_from 0 c.trees ∙ bare_same c.trees a)

pub working_is : (c : Stored) (hs : List Holding) → IsSettled c → settled [] (standing c hs) ≡ folded applied c (held_ops hs)
working_is c hs a = copied c hs ∙ ap (λ t. folded applied t (held_ops hs)) (settled_same c a)

abbrev machine_by : Bool → Entry Operation → List Operation → List Operation
machine_by b n ops = if b then ops_of n ++ ops else ops

ops_by : (n : Entry Operation) (ns : List (Entry Operation)) (b : Bool) → held_ops (holdings ns) ≡ machine.held_ops ns → held_ops (holdings_by b n (holdings ns)) ≡ machine_by b n (machine.held_ops ns)
ops_by n ns true e = ap (λ ops. ops_of n ++ ops) e
ops_by n ns false e = e

ops_are : (ns : List (Entry Operation)) → held_ops (holdings ns) ≡ machine.held_ops ns
ops_are [] = refl
ops_are (n ∷ ns) = ops_by n ns (is_held n.state) (ops_are ns)

-- what an element works on is what its store holds now
pub element_works : (told : Notice → ℕ) (gone : ℕ) (instances : List (ℕ × ℕ)) (el : Element Stored Operation (List Subscription)) → IsSettled el.settled
    → settled [] (standing el.settled (holdings el.records)) ≡ working (store_basis told gone instances) el
element_works told gone instances el a = working_is el.settled (holdings el.records) a ∙ ap (folded applied el.settled) (ops_are el.records)

abbrev or_refused : Stored → Stored × ℕ → Bool → Stored × ℕ
or_refused s r inside = if inside then r else (s, invalid_parameters)

goes_within : (scope : Scope) (op : Operation) → Goes (exec.within scope) (settled []) op
goes_within scope op s = by (is_inside scope (place_of op))
  where
    by : (b : Bool) → or_refused (settled [] s) (applied (settled [] s) op) b ≡ (settled [] (or_refused s (applied s op) b).0, (or_refused s (applied s op) b).1)
    by true = goes_bare op s
    by false = refl

all_within : (scope : Scope) (ops : List Operation) → AllByRecursion (Goes (exec.within scope) (settled [])) ops
all_within scope [] = tt
all_within scope (op ∷ ops) = (goes_within scope op, all_within scope ops)

pub copied_state : (scope : Scope) (mode : Mode) (s : Stored) (ops : List Operation) → settled [] (outcome (exec.within scope) mode s ops).state ≡ (outcome (exec.within scope) mode (settled [] s) ops).state
copied_state scope mode s ops = sym (state_goes (exec.within scope) (settled []) mode ops (all_within scope ops) s)

pub copied_codes : (scope : Scope) (mode : Mode) (s : Stored) (ops : List Operation) → (outcome (exec.within scope) mode s ops).codes ≡ (outcome (exec.within scope) mode (settled [] s) ops).codes
copied_codes scope mode s ops = sym (outcome_codes (exec.within scope) (settled []) mode ops (all_within scope ops) s)

-- ---- what was held at the marks
suc_is : (m n : ℕ) → suc m ≡ suc n → m ≡ n
suc_is m n e = omega (arith, e)

-- lists of one length that have the same at each place
pub same_places : {A : Type 0} (xs ys : List A) → length xs ≡ length ys → ((i : ℕ) (y : A) → slice_get ys i ≡ Some y → slice_get xs i ≡ Some y) → xs ≡ ys
same_places [] [] e f = refl
same_places [] (y ∷ ys) e f = absurd (none_some y (f 0 y refl))
same_places (x ∷ xs) [] e f = absurd (omega (arith, e))
same_places (x ∷ xs) (y ∷ ys) e f = ap (λ z. z ∷ xs) (some_is x y (f 0 y refl)) ∙ ap (λ zs. y ∷ zs) (same_places xs ys (suc_is (length xs) (length ys) e) (λ i z g. f (suc i) z g))

from_length : {A B : Type 0} (f : ℕ → A → B) (n : ℕ) (xs : List A) → length (map_from f n xs) ≡ length xs
from_length f n [] = refl
from_length f n (x ∷ xs) = ap suc (from_length f (n + 1) xs)

has_pair : {A B : Type 0} (R : A → B → Type 0) (xs : List A) (ys : List B) (i : ℕ) (y : B) → Pairwise R xs ys → slice_get ys i ≡ Some y → (x : A) × (slice_get xs i ≡ Some x)
has_pair R [] [] i y p e = absurd (none_some y e)
has_pair R [] (z ∷ ys) i y p e = absurd p
has_pair R (x ∷ xs) [] i y p e = absurd p
has_pair R (x ∷ xs) (z ∷ ys) zero y p e = (x, refl)
has_pair R (x ∷ xs) (z ∷ ys) (suc i) y p e = has_pair R xs ys i y p.1 e

-- the first transaction that has an instance in its scope, or none
record Split (pair : ℕ × ℕ) (hs : List Holding) : Type 0 where
  before : List Holding
  h : Holding
  more : List Holding
  is : hs ≡ before ++ h ∷ more
  beside : AllByRecursion (IsBeside pair) before
  inside : is_in h.scope pair ≡ true

first_by : {G : Type 0} (pair : ℕ × ℕ) (h : Holding) (hs : List Holding) (b : Bool) → is_in h.scope pair ≡ b → (Split pair (h ∷ hs) → G) → (is_in h.scope pair ≡ false → G) → G
first_by pair h hs true e here later = here (record { before = []; h = h; more = hs; is = refl; beside = tt; inside = e })
first_by pair h hs false e here later = later e

behind : (pair : ℕ × ℕ) (h : Holding) (hs : List Holding) → is_in h.scope pair ≡ false → Split pair hs → Split pair (h ∷ hs)
behind pair h hs e s = record { before = h ∷ s.before; h = s.h; more = s.more; is = ap (λ gs. h ∷ gs) s.is; beside = (e, s.beside); inside = s.inside }

by_first : {G : Type 0} (pair : ℕ × ℕ) (hs : List Holding) → (AllByRecursion (IsBeside pair) hs → G) → (Split pair hs → G) → G
by_first pair [] nowhere here = nowhere tt
by_first pair (h ∷ hs) nowhere here = first_by pair h hs (is_in h.scope pair) refl here (λ e. by_first pair hs (λ a. nowhere (e, a)) (λ s. here (behind pair h hs e s)))

abbrev at_first : Stored → Holding → Marking
at_first c h = record { scope = h.scope; store = c }

marks_are : (c : Stored) (hs : List Holding) → IsSettled c → map (λ (h : Holding). marking h.scope c.instances) hs ≡ marks_of_all (map (at_first c) hs)
marks_are c [] a = refl
marks_are c (h ∷ hs) a = λ i. sym (first_marks c c h.scope a refl (λ j p e f. refl)) i ∷ marks_are c hs a i

beside_marks : (c : Stored) (i : ℕ) (pair : ℕ × ℕ) (hs : List Holding) → slice_get c.instances i ≡ Some pair → AllByRecursion (IsBeside pair) hs → AllByRecursion (configuration.IsBeside i pair) (map (at_first c) hs)
beside_marks c i pair [] e a = tt
beside_marks c i pair (h ∷ hs) e a = ((e, a.0), beside_marks c i pair hs e a.1)

no_marks : (ts : List Tree) (i : ℕ) (t : Tree) → AllByRecursion (λ (u : Tree). u.held ≡ []) ts → slice_get ts i ≡ Some t → t.held ≡ []
no_marks [] i t a e = absurd (none_some t e)
no_marks (u ∷ ts) zero t a e = ap (λ (x : Tree). x.held) (sym (some_is u t e)) ∙ a.0
no_marks (u ∷ ts) (suc i) t a e = no_marks ts i t a.1 e

is_bare : (t : Tree) → t.held ≡ [] → bare t ≡ t
is_bare t e = λ i. record { now = t.now; held = sym e i }

standing_library : (s : Stored) (hs : List Holding) → AllByRecursion IsWithin hs → (standing s hs).library ≡ s.library
standing_library s [] a = refl
standing_library s (h ∷ hs) a = standing_library (held_on s h) hs a.1 ∙ ap (λ (t : Stored). t.library) (held_undone s h a.0)

lie_behind : (before more : List Holding) (h : Holding) → AreHeld (before ++ h ∷ more) → AllByRecursion IsWithin before × AllByRecursion IsWithin more
lie_behind [] more h a = (tt, lie_in more a.1.1)
lie_behind (g ∷ before) more h a = let p = lie_behind before more h a.1.1 in ((a.0, p.0), p.1)

apart_behind : (before more : List Holding) (h : Holding) (pair : ℕ × ℕ) → AreHeld (before ++ h ∷ more) → is_in h.scope pair ≡ true → AllByRecursion (IsBeside pair) more
apart_behind [] more h pair a e = all_beside h more pair a.1.0 e
apart_behind (g ∷ before) more h pair a e = apart_behind before more h pair a.1.1 e

module _ (c : Stored) (hs : List Holding) (held : AreHeld hs) (unmarked : IsSettled c) (whole : IsWhole c) where
  abbrev copy : List Tree
  copy = (settled (marks_of_all (map (at_first c) hs)) (standing c hs)).trees

  at_none : (i : ℕ) (pair : ℕ × ℕ) (t : Tree) → slice_get c.trees i ≡ Some t → slice_get c.instances i ≡ Some pair → AllByRecursion (IsBeside pair) hs → slice_get copy i ≡ Some t
  at_none i pair t e p a =
      copy_leaves (standing c hs) (map (at_first c) hs) i pair t (beside_marks c i pair hs p a) (standing_leaves c hs i pair (lie_in hs held) p a ∙ e)
      ∙ ap Some (is_bare t (no_marks c.trees i t unmarked e))

  at_one : (i : ℕ) (pair : ℕ × ℕ) (t : Tree) → slice_get c.trees i ≡ Some t → slice_get c.instances i ≡ Some pair → Split pair hs → slice_get copy i ≡ Some t
  at_one i pair t e p s =
      let are : AreHeld (s.before ++ s.h ∷ s.more) = subst AreHeld s.is held in
      let l = lie_behind s.before s.more s.h are in
      let m = standing_marks c s.before s.more s.h i pair t l.0 l.1 p s.inside s.beside (apart_behind s.before s.more s.h pair are s.inside) e in
      let split : map (at_first c) hs ≡ map (at_first c) s.before ++ at_first c s.h ∷ map (at_first c) s.more = ap (map (at_first c)) s.is ∙ map_append (at_first c) s.before (s.h ∷ s.more) in
      ap (λ ms. slice_get (settled (marks_of_all ms) (standing c hs)).trees i) split
      ∙ copy_goes_back (standing c hs) (map (at_first c) s.before) (map (at_first c) s.more) (at_first c s.h) i pair t m.0 [] (beside_marks c i pair s.before p s.beside) p s.inside e
      (ap (λ gs. slice_get (standing c gs).trees i) s.is ∙ m.1.0) m.1.1
      ∙ ap Some (is_bare t (no_marks c.trees i t unmarked e))

  at_each : (i : ℕ) (t : Tree) → slice_get c.trees i ≡ Some t → slice_get copy i ≡ Some t
  at_each i t e =
      let p = has_pair (IsWholeTree c.library) c.instances c.trees i t whole e in
      by_first p.0 hs (at_none i p.0 t e p.1) (at_one i p.0 t e p.1)

  trees_are : copy ≡ c.trees
  trees_are = same_places copy c.trees (from_length (settled_tree (marks_of_all (map (at_first c) hs))) 0 (standing c hs).trees ∙ standing_length c hs (lie_in hs held)) at_each

  pub settled_is : settled (map (λ (h : Holding). marking h.scope c.instances) hs) (standing c hs) ≡ c
  settled_is =
      ap (λ ms. settled ms (standing c hs)) (marks_are c hs unmarked)
      ∙ λ i. record { library = standing_library c hs (lie_in hs held) i; instances = standing_instances c hs i; trees = trees_are i }
