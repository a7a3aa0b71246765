-- A trail that goes on.
use Rattle.std.proofs.Common.{◌≡◌, ℕ, ◌+◌, suc, zero, Bool, false, List, [], ◌∷◌, drop, length, fold, refl, sym, ap, ◌∙◌, arith, Option, Some, None, slice_get}
use Rattle.std.specs.Prelude.{is_some}
use Rattle.fc_world.specs.Trails.{TrailSoFar, behind_next, gone_on, past}
use Rattle.fc_world.specs.declared.sent.Parcel.{Parcel}

-- ---- what is behind a place of a list
one_behind : {A : Type 0} (xs : List A) (k : ℕ) (x : A) → slice_get xs k ≡ Some x → drop k xs ≡ x ∷ drop (suc k) xs
one_behind [] k x e = absurd cc
one_behind (y ∷ xs) zero x e = let same : y ≡ x = cc in ap (λ z. z ∷ xs) same
one_behind (y ∷ xs) (suc k) x e = one_behind xs k x e

none_behind : {A : Type 0} (xs : List A) (k : ℕ) → slice_get xs k ≡ None → drop k xs ≡ []
none_behind [] zero e = refl
none_behind [] (suc k) e = refl
none_behind (x ∷ xs) zero e = absurd cc
none_behind (x ∷ xs) (suc k) e = none_behind xs k e

-- ---- from message to message
abbrev so_far : ℕ → ℕ → TrailSoFar
so_far count number = record { count = count; number = number }

-- past the next message, all of them lead where they led
leads : (ps : List Parcel) (t : TrailSoFar) (o : Option Parcel) → slice_get ps t.count ≡ o → gone_on ps (behind_next o t) ≡ gone_on ps t
leads ps t None e = refl
leads ps t (Some p) e =
    let next : t.count + 1 ≡ suc t.count = omega arith in
    let split : p ∷ drop (t.count + 1) ps ≡ drop t.count ps = ap (λ k. p ∷ drop k ps) next ∙ sym (one_behind ps t.count p e) in
    let counted : (t.count + 1) + length (drop (t.count + 1) ps) ≡ t.count + length (p ∷ drop (t.count + 1) ps) = omega arith in
    ap (λ n. so_far n (fold past (past t.number p) (drop (t.count + 1) ps))) counted ∙ ap (λ l. so_far (t.count + length l) (fold past t.number l)) split

pub goes_on : (ps : List Parcel) (start old new : TrailSoFar) → new ≡ behind_next (slice_get ps old.count) old → gone_on ps old ≡ gone_on ps start → gone_on ps new ≡ gone_on ps start
goes_on ps start old new is led = ap (gone_on ps) is ∙ leads ps old (slice_get ps old.count) refl ∙ led

-- where there is no next message, that is here
ends : (ps : List Parcel) (t : TrailSoFar) (o : Option Parcel) → slice_get ps t.count ≡ o → is_some o ≡ false → behind_next o t ≡ gone_on ps t
ends ps t None e none =
    let counted : t.count ≡ t.count + length {A = Parcel} [] = omega arith in
    ap (λ n. so_far n t.number) counted ∙ ap (λ l. so_far (t.count + length l) (fold past t.number l)) (sym (none_behind ps t.count e))
ends ps t (Some p) e none = absurd cc

pub has_gone_on : (ps : List Parcel) (start old new : TrailSoFar) (passed : Bool) → new ≡ behind_next (slice_get ps old.count) old → passed ≡ is_some (slice_get ps old.count) → passed ≡ false
    → gone_on ps old ≡ gone_on ps start → new ≡ gone_on ps start
has_gone_on ps start old new passed is told none led = is ∙ ends ps old (slice_get ps old.count) refl (sym told ∙ none) ∙ led
