-- Laws of TLVs and ILVs.
use Rattle.std.proofs.Common.{◌≡◌, ℕ, ◌+◌, ◌-◌, ◌%◌, ◌<◌, ◌^◌, List, [], ◌∷◌, ◌++◌, length, replicate, Option, None, refl, sym, ap, ◌∙◌, subst, arith, length-append, append_assoc}
use Rattle.std.proofs.lemmas.List.{length-replicate}
use Rattle.std.specs.List.{flat_map, AllByRecursion}
use Rattle.fc_wire.specs.Bytes.{AreBytes}
use Rattle.fc_wire.specs.Tiling.{Tiling, tiling, IsTiling}
use Rattle.fc_wire.specs.Tlvs.{TlvItem, IsTlv, IsTlvAt, AreTlvs, tlvs, tlv_fault, one_tlv}
use Rattle.fc_wire.specs.Ilvs.{IlvItem, IsIlv, IsIlvAt, AreIlvs, ilvs, ilv_fault, one_ilv}
use Rattle.fc_wire.specs.Writing.{Put, TlvFits, IlvFits, tlv_put, ilv_put, tlv_items, ilv_items, tlv_bytes, ilv_bytes, padding}
use Rattle.fc_wire.specs.declared.header.WireFault.{WireFault}
use Rattle.fc_wire.proofs.Stepping.{one_tlv_falls}
use Rattle.fc_wire.proofs.Tiled.{tiling_read, described}
use Rattle.fc_wire.proofs.Spelled.{tlv_read, tlv_some, tlv_refuses, tlv_spells, tlv_names}
use Rattle.fc_wire.proofs.IlvSpelled.{one_ilv_falls, ilv_read, ilv_some, ilv_refuses, ilv_spells, ilv_names}

-- what is a tiling is read so
pub tlvs_read : (place : ℕ) (bytes : List ℕ) (t : Tiling TlvItem) → AreTlvs place t bytes → tlvs place bytes ≡ t
tlvs_read place bytes t h = tiling_read IsTlvAt tlv_fault one_tlv one_tlv_falls tlv_read tlv_some tlv_refuses place t.items t.fault bytes h

pub ilvs_read : (place : ℕ) (bytes : List ℕ) (t : Tiling IlvItem) → AreIlvs place t bytes → ilvs place bytes ≡ t
ilvs_read place bytes t h = tiling_read IsIlvAt ilv_fault one_ilv one_ilv_falls ilv_read ilv_some ilv_refuses place t.items t.fault bytes h

pub tlvs_once : (place : ℕ) (bytes : List ℕ) (t u : Tiling TlvItem) → AreTlvs place t bytes → AreTlvs place u bytes → t ≡ u
tlvs_once place bytes t u a b = sym (tlvs_read place bytes t a) ∙ tlvs_read place bytes u b

pub ilvs_once : (place : ℕ) (bytes : List ℕ) (t u : Tiling IlvItem) → AreIlvs place t bytes → AreIlvs place u bytes → t ≡ u
ilvs_once place bytes t u a b = sym (ilvs_read place bytes t a) ∙ ilvs_read place bytes u b

-- what is read is a tiling
pub tlvs_described : (place : ℕ) (bytes : List ℕ) → AreBytes bytes → length bytes % 4 ≡ 0 → AreTlvs place (tlvs place bytes) bytes
tlvs_described place bytes fine whole = described IsTlvAt tlv_fault one_tlv one_tlv_falls tlv_spells tlv_names place bytes fine whole

pub ilvs_described : (place : ℕ) (bytes : List ℕ) → AreBytes bytes → length bytes % 4 ≡ 0 → AreIlvs place (ilvs place bytes) bytes
ilvs_described place bytes fine whole = described IsIlvAt ilv_fault one_ilv one_ilv_falls ilv_spells ilv_names place bytes fine whole

pub cut_items : {A : Type 0} (Is : ℕ → A → List ℕ → Type 0) (fault_at : ℕ → List ℕ → Option WireFault) (place : ℕ) (xs ys : List A) (fault : Option WireFault) (bytes : List ℕ)
    → IsTiling Is fault_at place (xs ++ ys) fault bytes
    → (front : List ℕ) × (back : List ℕ) × (bytes ≡ front ++ back) × IsTiling Is fault_at place xs None front × IsTiling Is fault_at (place + length front) ys fault back
cut_items Is fault_at place [] ys fault bytes h =
    let same : place ≡ place + 0 = omega arith in
    ([], bytes, refl, refl, subst (λ p. IsTiling Is fault_at p ys fault bytes) same h)
cut_items Is fault_at place (x ∷ xs) ys fault bytes h =
    let more = cut_items Is fault_at (place + length h.0) xs ys fault h.1 h.4 in
    let same : place + length h.0 + length more.0 ≡ place + length (h.0 ++ more.0) = omega (arith, length-append h.0 more.0) in (
      h.0 ++ more.0,
      more.1,
      h.2 ∙ ap (λ l. h.0 ++ l) more.2 ∙ sym (append_assoc h.0 more.0 more.1),
      (h.0, more.0, refl, h.3, more.3),
      subst (λ p. IsTiling Is fault_at p ys fault more.1) same more.4,
    )

padding_length : (n : ℕ) → length (padding n) ≡ (4 - n % 4) % 4
unfolding padding
padding_length n = length-replicate ((4 - n % 4) % 4) 0

pub no_padding : (value : List ℕ) → length value % 4 ≡ 0 → padding (length value) ≡ []
unfolding padding
no_padding value h = ap (λ m. replicate ((4 - m) % 4) 0) h

-- what is written is a TLV
pub tlv_is : (kind : ℕ) (value : List ℕ) → length value + 4 < 2 ^ 16 → IsTlv kind value (value ++ padding (length value)) (tlv_bytes kind value)
unfolding tlv_bytes
tlv_is kind value h = record {
  padding = padding (length value);
  few = omega (arith, padding_length (length value));
  whole = omega (arith, padding_length (length value), length-append value (padding (length value)));
  fits = h;
  value = refl;
  spelled = refl;
}

pub ilv_is : (ident : ℕ) (value : List ℕ) → length value + 8 < 2 ^ 32 → IsIlv ident value (ilv_bytes ident value)
unfolding ilv_bytes
ilv_is ident value h = record {
  padding = padding (length value);
  few = omega (arith, padding_length (length value));
  whole = omega (arith, padding_length (length value), length-append value (padding (length value)));
  fits = h;
  spelled = refl;
}

pub tlv_length : (kind : ℕ) (value : List ℕ) → length (tlv_bytes kind value) % 4 ≡ 0
unfolding tlv_bytes
tlv_length kind value = omega (arith, padding_length (length value), length-append value (padding (length value)))

pub ilv_length : (ident : ℕ) (value : List ℕ) → length (ilv_bytes ident value) % 4 ≡ 0
unfolding ilv_bytes
ilv_length ident value = omega (arith, padding_length (length value), length-append value (padding (length value)))

pub tlvs_written : (place : ℕ) (puts : List Put) → AllByRecursion TlvFits puts → AreTlvs place (tiling (tlv_items place puts) None) (flat_map tlv_put puts)
tlvs_written place [] h = refl
tlvs_written place (put ∷ puts) h =
    (tlv_put put, flat_map tlv_put puts, refl, (refl, tlv_is put.name put.value h.0), tlvs_written (place + length (tlv_put put)) puts h.1)

pub ilvs_written : (place : ℕ) (puts : List Put) → AllByRecursion IlvFits puts → AreIlvs place (tiling (ilv_items place puts) None) (flat_map ilv_put puts)
ilvs_written place [] h = refl
ilvs_written place (put ∷ puts) h =
    (ilv_put put, flat_map ilv_put puts, refl, (refl, ilv_is put.name put.value h.0), ilvs_written (place + length (ilv_put put)) puts h.1)

pub tlvs_whole : (puts : List Put) → length (flat_map tlv_put puts) % 4 ≡ 0
tlvs_whole [] = refl
tlvs_whole (put ∷ puts) = omega (arith, tlvs_whole puts, tlv_length put.name put.value, length-append (tlv_put put) (flat_map tlv_put puts))

pub ilvs_whole : (puts : List Put) → length (flat_map ilv_put puts) % 4 ≡ 0
ilvs_whole [] = refl
ilvs_whole (put ∷ puts) = omega (arith, ilvs_whole puts, ilv_length put.name put.value, length-append (ilv_put put) (flat_map ilv_put puts))
