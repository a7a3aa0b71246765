-- The items of a tiling, one by one.
use Rattle.std.proofs.Common.{◌≡◌, ℕ, zero, suc, ◌+◌, ◌-◌, ◌<◌, ◌≤◌, List, [], ◌∷◌, length, drop, Bool, true, false, nat_lt, cond, Some, None, Result, Ok, Err, refl, sym, ap, ◌∙◌, arith, length-drop}
use borrow.Author.Tests.{ltb-false}
use Rattle.fc_wire.specs.Bytes.{u16_at}
use Rattle.fc_wire.specs.Tiling.{Tiling, tiling, in_front, next_of, rest_of, tiled, tiles_by, tiles}
use Rattle.fc_wire.specs.Tlvs.{TlvItem, one_tlv, padded_len}
use Rattle.fc_wire.specs.declared.header.WireFault.{WireFault}

pub else_ok : {A E : Type 0} (b : Bool) (d : E) (y : Result A E) (x : A) → cond b (Err d) y ≡ Ok x → (b ≡ false) × (y ≡ Ok x)
else_ok true d y x e = cc
else_ok false d y x e = (refl, e)

pub ok_second : {A B E : Type 0} (a : A) (b : B) (x : A × B) → ◌≡◌ {A = Result (A × B) E} (Ok (a, b)) (Ok x) → b ≡ x.1
ok_second {A = A} {B = B} a b x e = let same : ◌≡◌ {A = A × B} (a, b) x = cc in ap (λ (y : A × B). y.1) same

shorter : (bytes rest : List ℕ) (len : ℕ) → 4 ≤ length bytes → 4 ≤ len → drop (padded_len len) bytes ≡ rest → length rest < length bytes
shorter bytes rest len long least e = omega (arith, ap length e, length-drop (padded_len len) bytes)

-- what stands behind a TLV is shorter
pub one_tlv_falls : (place : ℕ) (bytes : List ℕ) (x : TlvItem × List ℕ) → one_tlv place bytes ≡ Ok x → length x.1 < length bytes
unfolding one_tlv
one_tlv_falls place bytes x e =
    let a : (nat_lt (length bytes) 4 ≡ false) × (_ ≡ Ok x) = else_ok _ _ _ _ e in
    let b : (nat_lt (u16_at bytes 2) 4 ≡ false) × (_ ≡ Ok x) = else_ok _ _ _ _ a.1 in
    let c : (nat_lt (length bytes) (u16_at bytes 2) ≡ false) × (Ok (_, drop (padded_len (u16_at bytes 2)) bytes) ≡ Ok x) = else_ok _ _ _ _ b.1 in
    let rest : drop (padded_len (u16_at bytes 2)) bytes ≡ x.1 = ok_second _ _ _ c.1 in
    shorter bytes x.1 _ (ltb-false _ _ a.0) (ltb-false _ _ b.0) rest

module _ {A : Type 0} (one : ℕ → List ℕ → Result (A × List ℕ) WireFault) (falls : (place : ℕ) (bytes : List ℕ) (x : A × List ℕ) → one place bytes ≡ Ok x → length x.1 < length bytes) where
  tiled_same : (h k : ℕ → List ℕ → Tiling A) (size place : ℕ) (r : Result (A × List ℕ) WireFault) → ((x : A × List ℕ) → r ≡ Ok x → h (place + (size - length x.1)) x.1 ≡ k (place + (size - length x.1)) x.1)
      → tiled h size place r ≡ tiled k size place r
  tiled_same h k size place (Err f) same = refl
  tiled_same h k size place (Ok x) same = ap (in_front x.0) (same x refl)

  tiles_fuel : (f g place : ℕ) (bytes : List ℕ) → length bytes ≤ f → length bytes ≤ g → tiles_by one f place bytes ≡ tiles_by one g place bytes
  tiles_fuel zero zero place [] p q = refl
  tiles_fuel zero (suc g) place [] p q = refl
  tiles_fuel (suc f) zero place [] p q = refl
  tiles_fuel (suc f) (suc g) place [] p q = refl
  tiles_fuel zero g place (b ∷ bs) p q = absurd (omega arith)
  tiles_fuel (suc f) zero place (b ∷ bs) p q = absurd (omega arith)
  tiles_fuel (suc f) (suc g) place (b ∷ bs) p q =
      tiled_same (tiles_by one f) (tiles_by one g) (length (b ∷ bs)) place (one place (b ∷ bs)) (λ x e.
      tiles_fuel f g _ x.1 (omega (arith, falls place (b ∷ bs) x e)) (omega (arith, falls place (b ∷ bs) x e)))

  pub tiles_step : (place : ℕ) (bytes : List ℕ) (x : A × List ℕ) → 0 < length bytes → one place bytes ≡ Ok x → tiles one place bytes ≡ in_front x.0 (tiles one (place + (length bytes - length x.1)) x.1)
  unfolding tiles
  tiles_step place [] x some e = absurd (omega arith)
  tiles_step place (b ∷ bs) x some e =
      ap (tiled (tiles_by one (length bs)) (length (b ∷ bs)) place) e
      ∙ ap (in_front x.0) (tiles_fuel (length bs) (length x.1) _ x.1 (omega (arith, falls place (b ∷ bs) x e)) (omega arith))

  pub next_item : (place : ℕ) (bytes : List ℕ) (x : A × List ℕ) (v : Tiling A) → tiles one place bytes ≡ v → 0 < length bytes → one place bytes ≡ Ok x → Some (Ok x.0) ≡ next_of v.items v.fault
  next_item place bytes x v is some e = ap (λ (t : Tiling A). next_of t.items t.fault) (sym (tiles_step place bytes x some e) ∙ is)

  pub rest_item : (place : ℕ) (bytes : List ℕ) (x : A × List ℕ) (v : Tiling A) → tiles one place bytes ≡ v → 0 < length bytes → one place bytes ≡ Ok x
      → tiles one (place + (length bytes - length x.1)) x.1 ≡ rest_of v.items v.fault
  rest_item place bytes x v is some e = ap (λ (t : Tiling A). rest_of t.items t.fault) (sym (tiles_step place bytes x some e) ∙ is)

module _ {A : Type 0} (one : ℕ → List ℕ → Result (A × List ℕ) WireFault) where
  pub tiles_end : (place : ℕ) → tiles one place [] ≡ tiling [] None
  unfolding tiles
  tiles_end place = refl

  pub tiles_bad : (place : ℕ) (bytes : List ℕ) (fault : WireFault) → 0 < length bytes → one place bytes ≡ Err fault → tiles one place bytes ≡ tiling [] (Some fault)
  unfolding tiles
  tiles_bad place [] fault some e = absurd (omega arith)
  tiles_bad place (b ∷ bs) fault some e = ap (tiled (tiles_by one (length bs)) (length (b ∷ bs)) place) e

  pub next_end : (place : ℕ) (bytes : List ℕ) (v : Tiling A) → tiles one place bytes ≡ v → bytes ≡ [] → None ≡ next_of v.items v.fault
  next_end place bytes v is e = ap (λ (t : Tiling A). next_of t.items t.fault) (sym (ap (tiles one place) e ∙ tiles_end place) ∙ is)

  pub rest_end : (place : ℕ) (bytes : List ℕ) (v : Tiling A) → tiles one place bytes ≡ v → bytes ≡ [] → v ≡ rest_of v.items v.fault
  rest_end place bytes v is e =
      let same : tiling [] None ≡ v = sym (ap (tiles one place) e ∙ tiles_end place) ∙ is in
      sym same ∙ ap (λ (t : Tiling A). rest_of t.items t.fault) same

  pub next_bad : (place : ℕ) (bytes : List ℕ) (fault : WireFault) (v : Tiling A) → tiles one place bytes ≡ v → 0 < length bytes → one place bytes ≡ Err fault → Some (Err fault) ≡ next_of v.items v.fault
  next_bad place bytes fault v is some e = ap (λ (t : Tiling A). next_of t.items t.fault) (sym (tiles_bad place bytes fault some e) ∙ is)

  pub rest_bad : (place : ℕ) (bytes : List ℕ) (fault : WireFault) (v : Tiling A) → tiles one place bytes ≡ v → 0 < length bytes → one place bytes ≡ Err fault → tiles one place [] ≡ rest_of v.items v.fault
  rest_bad place bytes fault v is some e = tiles_end place ∙ ap (λ (t : Tiling A). rest_of t.items t.fault) (sym (tiles_bad place bytes fault some e) ∙ is)
