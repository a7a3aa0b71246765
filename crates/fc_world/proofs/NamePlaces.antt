-- The index of the names of transactions, and what stands at the places that it gives.
use Rattle.std.proofs.Common.{◌≡◌, ◌<◌, ◌+◌, ◌++◌, ◌∷◌, ◌∙◌, [], ℕ, suc, Bool, true, false, not, is_some, if◌then◌else◌, cond, List, length, take, get_or, slice_get, Option, Some, None, option_map, Bor, refl, sym, ap, subst, arith, add-one, length-take-le}
use Rattle.std.specs.FinMap.{contains_key, get, get-insert, insert}
use Rattle.std.specs.Option.{option_copied}
use Rattle.std.specs.Str.{bytes_eq}
use Rattle.std.proofs.Math.Seq.{take-suc}
use Rattle.std.proofs.lemmas.Cmp.{nat_list_cmp_total}
use Rattle.std.proofs.lemmas.Map.Text.{is_eq-slice_cmp}
use Rattle.std.proofs.lemmas.Slice.Eq.{bytes_eq-Decides}
use Rattle.fc_documents.specs.declared.transaction.PlanTxn.{PlanTxn}
use Rattle.fc_keys.specs.Keys.{KeyMap}
use Rattle.fc_world.specs.Lookups.{IsIndex, is_named, place_in, transaction_in}

-- ---- what stands at a place
abbrev pub at_place : List PlanTxn → Option ℕ → Option PlanTxn
at_place ts None = None
at_place ts (Some i) = slice_get ts i

found_by : (t : PlanTxn) (ts : List PlanTxn) (b : Bool) (o : Option ℕ) (x : Option PlanTxn) → at_place ts o ≡ x → at_place (t ∷ ts) (if b then Some 0 else option_map suc o) ≡ (if b then Some t else x)
found_by t ts true o x e = refl
found_by t ts false None x e = e
found_by t ts false (Some i) x e = e

pub found : (name : List ℕ) (ts : List PlanTxn) → at_place ts (place_in (is_named name) ts) ≡ transaction_in name ts
found name [] = refl
found name (t ∷ ts) = found_by t ts (is_named name t) (place_in (is_named name) ts) (transaction_in name ts) (found name ts)

-- ---- one transaction more
abbrev last_place : {A : Type 0} → (A → Bool) → List A → A → Option ℕ → Option ℕ
last_place is xs x (Some i) = Some i
last_place is xs x None = if is x then Some (length xs) else None

last_by : {A : Type 0} (is : A → Bool) (y x : A) (ys : List A) (b : Bool) (o : Option ℕ) (p : Bool) → is x ≡ p
    → (if b then Some 0 else option_map suc (last_place is ys x o)) ≡ last_place is (y ∷ ys) x (if b then Some 0 else option_map suc o)
last_by is y x ys true o p e = refl
last_by is y x ys false (Some i) p e = refl
last_by is y x ys false None true e = ap (λ q. option_map suc (if q then Some (length ys) else None)) e ∙ sym (ap (λ q. if q then Some (suc (length ys)) else None) e)
last_by is y x ys false None false e = ap (λ q. option_map suc (if q then Some (length ys) else None)) e ∙ sym (ap (λ q. if q then Some (suc (length ys)) else None) e)

pub placed_last : {A : Type 0} (is : A → Bool) (xs : List A) (x : A) → place_in is (xs ++ x ∷ []) ≡ last_place is xs x (place_in is xs)
placed_last is [] x = refl
placed_last is (y ∷ ys) x = ap (λ o. if is y then Some 0 else option_map suc o) (placed_last is ys x) ∙ last_by is y x ys (is y) (place_in is ys) (is x) refl

-- ---- its name in the index
placed_by : (xs : List PlanTxn) (t : PlanTxn) (is : PlanTxn → Bool) (q : Bool) (held o : Option ℕ) (b : Bool) → is t ≡ q → (q ≡ true → held ≡ o) → b ≡ not (is_some held)
    → (if b then cond q (Some (length xs)) o else o) ≡ last_place is xs t o
placed_by xs t is q (Some j) o true e h f = absurd cc
placed_by xs t is q None o false e h f = absurd cc
placed_by xs t is true None None true e h f = sym (ap (λ p. if p then Some (length xs) else None) e)
placed_by xs t is true None (Some i) true e h f = absurd (let g = h refl in cc)
placed_by xs t is false None None true e h f = sym (ap (λ p. if p then Some (length xs) else None) e)
placed_by xs t is false None (Some i) true e h f = refl
placed_by xs t is true (Some j) None false e h f = absurd (let g = h refl in cc)
placed_by xs t is true (Some j) (Some i) false e h f = refl
placed_by xs t is false (Some j) None false e h f = sym (ap (λ p. if p then Some (length xs) else None) e)
placed_by xs t is false (Some j) (Some i) false e h f = refl

get_if : (b : Bool) (more names : KeyMap) (name : List ℕ) → get (if b then more else names) name ≡ (if b then get more name else get names name)
get_if true more names name = refl
get_if false more names name = refl

-- the name of a transaction that stands behind all others is entered, unless one of them has it
pub enters : (names more : KeyMap) (ts : List PlanTxn) (t : PlanTxn) (place : ℕ) (b : Bool) → IsIndex names ts → place ≡ length ts → b ≡ not (contains_key names t.name)
    → more ≡ (if b then insert names t.name place else names) → IsIndex more (ts ++ t ∷ [])
enters names more ts t place b is at new made name =
    ap (λ m. get m name) made
    ∙ get_if b (insert names t.name place) names name
    ∙ ap (λ x. if b then x else get names name) (get-insert nat_list_cmp_total names t.name place name ∙ ap (λ q. cond q (Some place) (get names name)) (is_eq-slice_cmp name t.name))
    ∙ ap (λ n. if b then cond (bytes_eq name t.name) (Some n) (get names name) else get names name) at
    ∙ placed_by ts t (is_named name) (bytes_eq name t.name) (get names t.name) (get names name) b refl (λ e. ap (get names) (sym ((bytes_eq-Decides name t.name).0 e))) new
    ∙ ap (last_place (is_named name) ts t) (is name)
    ∙ sym (placed_last (is_named name) ts t)

-- ---- the loop over all transactions
taken_next : (ts : List PlanTxn) (i : ℕ) (t : PlanTxn) → i < length ts → get_or ts i t ≡ t → take (i + 1) ts ≡ take i ts ++ t ∷ []
taken_next ts i t less there = ap (λ k. take k ts) (add-one i) ∙ take-suc ts i t less ∙ ap (λ x. take i ts ++ x ∷ []) there

pub enters_next : (names more : KeyMap) (ts : List PlanTxn) (t : PlanTxn) (i place : ℕ) (key : List ℕ) (b : Bool) → IsIndex names (take i ts) → i < length ts → get_or ts i t ≡ t → place ≡ i → key ≡ t.name
    → b ≡ not (contains_key names key) → more ≡ (if b then insert names key place else names) → IsIndex more (take (i + 1) ts)
enters_next names more ts t i place key b is less there at own new made =
    subst (IsIndex more) (sym (taken_next ts i t less there))
    (enters names more (take i ts) t place b is (at ∙ sym (length-take-le i ts (omega (arith, less)))) (new ∙ ap (λ k. not (contains_key names k)) own) (made ∙ ap (λ k. if b then insert names k place else names) own))

-- ---- what is looked for
pub looked : (names : KeyMap) (name : List ℕ) (ts : List PlanTxn) (o : Option ℕ) → IsIndex names ts → o ≡ get names name → at_place ts o ≡ transaction_in name ts
looked names name ts o is e = ap (at_place ts) (e ∙ is name) ∙ found name ts

pub missed : (names : KeyMap) (name : List ℕ) (ts : List PlanTxn) (r : Option (Bor PlanTxn)) → IsIndex names ts → None ≡ get names name → r ≡ None → option_copied r ≡ transaction_in name ts
missed names name ts r is e none = ap option_copied none ∙ looked names name ts None is e
