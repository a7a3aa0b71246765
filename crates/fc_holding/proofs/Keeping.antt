-- What is kept of a transaction, at its place.
use Rattle.std.proofs.Common.{◌≡◌, ℕ, suc, Bool, true, false, cond, List, [], ◌∷◌, remove, slice_get, slice_index_or, Option, Some, None, option_map, refl, sym, ap, ◌∙◌, Result, Ok, Err}
use Rattle.std.specs.Prelude.{OnOk}
use Rattle.fc_base.specs.declared.faults.Memory.{Memory}
use Rattle.fc_base.specs.Ids.{Txn}
use Rattle.fc_path.specs.declared.oper.Select.{Select}
use Rattle.fc_protocol.specs.Messages.{same}
use Rattle.fc_store.specs.Scopes.{at, at_one}
use Rattle.fc_holding.specs.Holdings.{extended, found, place, with_rest, without}
use Rattle.fc_holding.specs.declared.holding.Holding.{Holding}

some_is : (i j : ℕ) → Some i ≡ Some j → i ≡ j
some_is i j e = cc

-- ---- one that is found
pub record Taken (x : Txn) (hs : List Holding) (i : ℕ) (h : Holding) : Type 0 where
  pub out : Some h ≡ found x hs
  pub left : remove hs i ≡ without x hs

taken_here : (x : Txn) (k : Holding) (hs : List Holding) (i : ℕ) (h : Holding) → i ≡ 0 → h ≡ slice_index_or (k ∷ hs) i h → (Some h ≡ Some k) × (remove (k ∷ hs) i ≡ hs)
taken_here x k hs i h e v = (ap Some (v ∙ ap (λ j. slice_index_or (k ∷ hs) j h) e), ap (remove (k ∷ hs)) e)

mutual_by : (x : Txn) (k : Holding) (hs : List Holding) (i : ℕ) (h : Holding) (b : Bool) (o : Option ℕ) → ((j : ℕ) → o ≡ Some j → h ≡ slice_index_or hs j h → Taken x hs j h)
    → cond b (Some 0) (option_map suc o) ≡ Some i → h ≡ slice_index_or (k ∷ hs) i h
    → (Some h ≡ cond b (Some k) (found x hs)) × (remove (k ∷ hs) i ≡ cond b hs (k ∷ without x hs))
mutual_by x k hs i h true o more e v = taken_here x k hs i h (sym (some_is 0 i e)) v
mutual_by x k hs i h false None more e v = absurd cc
mutual_by x k hs i h false (Some j) more e v =
    let is : i ≡ suc j = sym (some_is (suc j) i e) in
    let t = more j refl (v ∙ ap (λ n. slice_index_or (k ∷ hs) n h) is) in
    (t.out, ap (remove (k ∷ hs)) is ∙ ap (λ l. k ∷ l) t.left)

pub taken : (x : Txn) (hs : List Holding) (i : ℕ) (h : Holding) → place x hs ≡ Some i → h ≡ slice_index_or hs i h → Taken x hs i h
taken x [] i h e v = absurd cc
taken x (k ∷ hs) i h e v = let p = mutual_by x k hs i h (same x k.txn) (place x hs) (λ j f w. taken x hs j h f w) e v in record { out = p.0; left = p.1 }

missed_by : (x : Txn) (k : Holding) (hs : List Holding) (b : Bool) (o : Option ℕ) → (o ≡ None → (None ≡ found x hs) × (hs ≡ without x hs)) → cond b (Some 0) (option_map suc o) ≡ None
    → (None ≡ cond b (Some k) (found x hs)) × (k ∷ hs ≡ cond b hs (k ∷ without x hs))
missed_by x k hs true o more e = absurd cc
missed_by x k hs false None more e = let p = more refl in (p.0, ap (λ l. k ∷ l) p.1)
missed_by x k hs false (Some j) more e = absurd cc

pub missed : (x : Txn) (hs : List Holding) → place x hs ≡ None → (None ≡ found x hs) × (hs ≡ without x hs)
missed x [] e = (refl, refl)
missed x (k ∷ hs) e = missed_by x k hs (same x k.txn) (place x hs) (missed x hs) e

-- ---- one that is extended
at_zero : (f : Holding → Holding) (k : Holding) (hs : List Holding) → at f 0 (k ∷ hs) ≡ f k ∷ hs
at_zero f k hs = refl

next_by : (f : Holding → Holding) (i : ℕ) (x : Holding) (xs : List Holding) (o : Option Holding) → at_one f (suc i) (x ∷ xs) o ≡ x ∷ at_one f i xs o
next_by f i x xs None = refl
next_by f i x xs (Some y) = refl

at_next : (f : Holding → Holding) (i : ℕ) (x : Holding) (xs : List Holding) → at f (suc i) (x ∷ xs) ≡ x ∷ at f i xs
at_next f i x xs = next_by f i x xs (slice_get xs i)

rest_by : (x : Txn) (rest : List Select) (k : Holding) (hs : List Holding) (i : ℕ) (b : Bool) (o : Option ℕ) → ((j : ℕ) → o ≡ Some j → at (extended rest) j hs ≡ with_rest x rest hs)
    → cond b (Some 0) (option_map suc o) ≡ Some i → at (extended rest) i (k ∷ hs) ≡ cond b (extended rest k ∷ hs) (k ∷ with_rest x rest hs)
rest_by x rest k hs i true o more e = ap (λ j. at (extended rest) j (k ∷ hs)) (sym (some_is 0 i e)) ∙ at_zero (extended rest) k hs
rest_by x rest k hs i false None more e = absurd cc
rest_by x rest k hs i false (Some j) more e =
    ap (λ n. at (extended rest) n (k ∷ hs)) (sym (some_is (suc j) i e)) ∙ at_next (extended rest) j k hs ∙ ap (λ l. k ∷ l) (more j refl)

pub rest_at : (x : Txn) (rest : List Select) (hs : List Holding) (i : ℕ) → place x hs ≡ Some i → at (extended rest) i hs ≡ with_rest x rest hs
rest_at x rest [] i e = absurd cc
rest_at x rest (k ∷ hs) i e = rest_by x rest k hs i (same x k.txn) (place x hs) (λ j f. rest_at x rest hs j f) e

no_rest_by : (x : Txn) (rest : List Select) (k : Holding) (hs : List Holding) (b : Bool) (o : Option ℕ) → (o ≡ None → hs ≡ with_rest x rest hs) → cond b (Some 0) (option_map suc o) ≡ None
    → k ∷ hs ≡ cond b (extended rest k ∷ hs) (k ∷ with_rest x rest hs)
no_rest_by x rest k hs true o more e = absurd cc
no_rest_by x rest k hs false None more e = ap (λ l. k ∷ l) (more refl)
no_rest_by x rest k hs false (Some j) more e = absurd cc

pub no_rest : (x : Txn) (rest : List Select) (hs : List Holding) → place x hs ≡ None → hs ≡ with_rest x rest hs
no_rest x rest [] e = refl
no_rest x rest (k ∷ hs) e = no_rest_by x rest k hs (same x k.txn) (place x hs) (no_rest x rest hs) e

pub on_is : (r : Result (Unit {0}) Memory) (now one other : List Holding) → OnOk r (now ≡ one) → one ≡ other → OnOk r (now ≡ other)
on_is (Ok x) now one other e f = e ∙ f
on_is (Err memory) now one other e f = tt
