-- A tiling is what the function gives, and the function gives a tiling.
use Rattle.std.proofs.Common.{◌≡◌, ℕ, zero, suc, ◌+◌, ◌-◌, ◌%◌, ◌<◌, ◌≤◌, List, [], ◌∷◌, ◌++◌, length, Option, Some, None, Result, Ok, Err, refl, sym, ap, ◌∙◌, subst, arith, length-append}
use Rattle.fc_wire.specs.Bytes.{AreBytes}
use Rattle.fc_wire.specs.Tiling.{Tiling, tiling, in_front, IsTiling, tiles}
use Rattle.fc_wire.specs.declared.header.WireFault.{WireFault}
use Rattle.fc_wire.proofs.Stepping.{tiles_end, tiles_bad, tiles_step}

-- what is known of an item that was read, and of what stands behind it
pub record Taken {A : Type 0} (Is : ℕ → A → List ℕ → Type 0) (place : ℕ) (bytes : List ℕ) (x : A) (rest : List ℕ) : Type 0 where
  pub front : List ℕ
  pub item : Is place x front
  pub split : bytes ≡ front ++ rest
  pub are_bytes : AreBytes rest
  pub whole : length rest % 4 ≡ 0

module _ {A : Type 0} (Is : ℕ → A → List ℕ → Type 0) (fault_at : ℕ → List ℕ → Option WireFault) (one : ℕ → List ℕ → Result (A × List ℕ) WireFault)
    (falls : (place : ℕ) (bytes : List ℕ) (x : A × List ℕ) → one place bytes ≡ Ok x → length x.1 < length bytes) where
  -- what is a tiling is read so
  pub tiling_read : (reads : (place : ℕ) (x : A) (front back : List ℕ) → Is place x front → one place (front ++ back) ≡ Ok (x, back))
      (some : (place : ℕ) (x : A) (front : List ℕ) → Is place x front → 0 < length front)
      (refuses : (place : ℕ) (bytes : List ℕ) (fault : WireFault) → fault_at place bytes ≡ Some fault → one place bytes ≡ Err fault)
      (place : ℕ) (items : List A) (fault : Option WireFault) (bytes : List ℕ) → IsTiling Is fault_at place items fault bytes → tiles one place bytes ≡ tiling items fault
  tiling_read reads some refuses place [] None bytes h = ap (tiles one place) h ∙ tiles_end one place
  tiling_read reads some refuses place [] (Some fault) bytes h = tiles_bad one place bytes fault h.0 (refuses place bytes fault h.1)
  tiling_read reads some refuses place (x ∷ xs) fault bytes h =
      let front = h.0 in
      let back = h.1 in
      let long : length bytes ≡ length front + length back = ap length h.2 ∙ length-append front back in
      let next : place + (length bytes - length back) ≡ place + length front = omega arith in
      tiles_step one falls place bytes (x, back) (omega (arith, some place x front h.3)) (ap (one place) h.2 ∙ reads place x front back h.3)
      ∙ ap (λ p. in_front x (tiles one p back)) next ∙ ap (in_front x) (tiling_read reads some refuses (place + length front) xs fault back h.4)

  module _ (spells : (place : ℕ) (bytes : List ℕ) (x : A × List ℕ) → AreBytes bytes → length bytes % 4 ≡ 0 → one place bytes ≡ Ok x → Taken Is place bytes x.0 x.1)
      (names : (place : ℕ) (bytes : List ℕ) (fault : WireFault) → one place bytes ≡ Err fault → fault_at place bytes ≡ Some fault) where
    described_tiled : (fuel place : ℕ) (bytes : List ℕ) (r : Result (A × List ℕ) WireFault) → one place bytes ≡ r → 0 < length bytes → length bytes ≤ suc fuel → AreBytes bytes → length bytes % 4 ≡ 0
        → ((p : ℕ) (b : List ℕ) → length b ≤ fuel → AreBytes b → length b % 4 ≡ 0 → IsTiling Is fault_at p (tiles one p b).items (tiles one p b).fault b)
        → IsTiling Is fault_at place (tiles one place bytes).items (tiles one place bytes).fault bytes
    described_tiled fuel place bytes (Err fault) e some small fine whole more =
        subst (λ (t : Tiling A). IsTiling Is fault_at place t.items t.fault bytes) (sym (tiles_bad one place bytes fault some e)) (some, names place bytes fault e)
    described_tiled fuel place bytes (Ok x) e some small fine whole more =
        let t = spells place bytes x fine whole e in
        let long : length bytes ≡ length t.front + length x.1 = ap length t.split ∙ length-append t.front x.1 in
        let next : place + (length bytes - length x.1) ≡ place + length t.front = omega arith in
        let less = falls place bytes x e in
        let same : tiles one place bytes ≡ in_front x.0 (tiles one (place + length t.front) x.1) =
        tiles_step one falls place bytes x some e ∙ ap (λ p. in_front x.0 (tiles one p x.1)) next in
        subst (λ (t : Tiling A). IsTiling Is fault_at place t.items t.fault bytes) (sym same)
        (t.front, x.1, t.split, t.item, more (place + length t.front) x.1 (omega arith) t.are_bytes t.whole)

    described_by : (fuel place : ℕ) (bytes : List ℕ) → length bytes ≤ fuel → AreBytes bytes → length bytes % 4 ≡ 0
        → IsTiling Is fault_at place (tiles one place bytes).items (tiles one place bytes).fault bytes
    described_by fuel place [] small fine whole = subst (λ (t : Tiling A). IsTiling Is fault_at place t.items t.fault []) (sym (tiles_end one place)) refl
    described_by zero place (b ∷ bytes) small fine whole = absurd (omega arith)
    described_by (suc fuel) place (b ∷ bytes) small fine whole = described_tiled fuel place (b ∷ bytes) (one place (b ∷ bytes)) refl (omega arith) small fine whole (described_by fuel)

    -- what is read is a tiling
    pub described : (place : ℕ) (bytes : List ℕ) → AreBytes bytes → length bytes % 4 ≡ 0 → IsTiling Is fault_at place (tiles one place bytes).items (tiles one place bytes).fault bytes
    described place bytes fine whole = described_by (length bytes) place bytes (omega arith) fine whole
