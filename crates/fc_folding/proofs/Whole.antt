-- What operations leave of a store: no mark more than stood, and a value, or none, for each component.
use Rattle.std.proofs.Common.{◌≡◌, ℕ, zero, suc, List, [], ◌∷◌, length, map, slice_set, Option, Result, Ok, Err, refl, sym, ap, ◌∙◌, subst}
use Rattle.std.specs.List.{AllByRecursion}
use Rattle.fc_exec.proofs.Applying.{Touched, leaf_touched}
use Rattle.fc_exec.proofs.Named.{folded_stay}
use Rattle.fc_exec.proofs.Places.{at_next, at_nil}
use Rattle.fc_exec.specs.Operations.{applied, coded, leaf_made}
use Rattle.fc_exec.specs.declared.operations.Operation.{Operation}
use Rattle.fc_exec.specs.declared.operations.Operation.TheVariants as operation
use Rattle.fc_modes.specs.Modes.{folded}
use Rattle.fc_path.specs.declared.oper.Spot.{Spot}
use Rattle.fc_standing.specs.Holding.{IsSettled}
use Rattle.fc_store.specs.Scopes.{at}
use Rattle.fc_store.specs.Stores.{Components, IsWhole, IsWholeTree, Pairwise, Stored, Tree, with_component, with_value}
use Rattle.fc_value.specs.declared.value.Value.{Value}

-- ---- values
pairs_at : {A B : Type 0} (R : A → B → Type 0) (f : B → B) → ((x : A) (y : B) → R x y → R x (f y)) → (i : ℕ) (xs : List A) (ys : List B) → Pairwise R xs ys → Pairwise R xs (at f i ys)
pairs_at R f k i [] [] h = subst (Pairwise R []) (sym (at_nil f i)) tt
pairs_at R f k i [] (y ∷ ys) h = absurd h
pairs_at R f k i (x ∷ xs) [] h = absurd h
pairs_at R f k zero (x ∷ xs) (y ∷ ys) h = (k x y h.0, h.1)
pairs_at R f k (suc i) (x ∷ xs) (y ∷ ys) h = subst (Pairwise R (x ∷ xs)) (sym (at_next f i y ys)) (h.0, pairs_at R f k i xs ys h.1)

same_length : {A : Type 0} (xs : List A) (i : ℕ) (x : A) → length (slice_set xs i x) ≡ length xs
same_length [] i x = refl
same_length (y ∷ ys) zero x = refl
same_length (y ∷ ys) (suc i) x = let l : length (slice_set ys i x) ≡ length ys = same_length ys i x in ap suc l

value_whole : (s : Stored) (place : ℕ × ℕ) (v : Option Value) → IsWhole s → IsWhole (with_value s place v)
value_whole s place v w =
    pairs_at (IsWholeTree s.library) (with_component place.1 v) (λ pair t e. same_length t.now place.1 v ∙ e) place.0 s.instances s.trees w

coded_whole : (spot : Spot) (s : Stored) (r : Result Stored ℕ) → ((t : Stored) → r ≡ Ok t → Touched spot s t) → IsWhole s → IsWhole (coded s r).0
coded_whole spot s (Ok t) m w = let u = m t refl in subst IsWhole (sym u.is) (value_whole s u.place u.v w)
coded_whole spot s (Err code) m w = w

applied_whole : (s : Stored) (op : Operation) → IsWhole s → IsWhole (applied s op).0
applied_whole s (operation.Leaf l) w = coded_whole l.spot s (leaf_made l.kind l.spot l.body s) (λ t g. leaf_touched l.kind l.spot l.body s t g) w
applied_whole s operation.Commit w = w
applied_whole s operation.Trcomp w = w

pub folded_whole : (s : Stored) (ops : List Operation) → IsWhole s → IsWhole (folded applied s ops)
folded_whole s [] w = w
folded_whole s (op ∷ ops) w = folded_whole (applied s op).0 ops (applied_whole s op w)

-- ---- marks
abbrev NoneOf : List (List Components) → Type 0
NoneOf ms = AllByRecursion (λ (m : List Components). m ≡ []) ms

to_marks : (ts : List Tree) → AllByRecursion (λ (t : Tree). t.held ≡ []) ts → NoneOf (map (λ (t : Tree). t.held) ts)
to_marks [] a = tt
to_marks (t ∷ ts) a = (a.0, to_marks ts a.1)

from_marks : (ts : List Tree) → NoneOf (map (λ (t : Tree). t.held) ts) → AllByRecursion (λ (t : Tree). t.held ≡ []) ts
from_marks [] a = tt
from_marks (t ∷ ts) a = (a.0, from_marks ts a.1)

pub folded_settled : (s : Stored) (ops : List Operation) → IsSettled s → IsSettled (folded applied s ops)
folded_settled s ops a = from_marks (folded applied s ops).trees (subst NoneOf (sym (folded_stay s ops)) (to_marks s.trees a))
