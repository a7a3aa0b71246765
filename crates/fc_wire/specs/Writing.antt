-- The spelling of TLVs and ILVs that is written, whose padding is zero: RFC 5810, sections 6.2 and 6.3. The length of a
-- TLV that holds others counts them with their padding.
use Rattle.std.specs.Prelude.{◌<◌, ℕ, ◌+◌, ◌-◌, ◌/◌, ◌%◌, ◌^◌, List, [], ◌∷◌, ◌++◌, length, replicate, slice_index_or, slice_set}
use Rattle.fc_wire.specs.Bytes.{u16_bytes, u32_bytes}
use Rattle.fc_wire.specs.Ilvs.{IlvItem}
use Rattle.fc_wire.specs.Tlvs.{TlvItem}

-- what a writer holds: the bytes written, and the places of the TLVs that are begun and not ended, the oldest first
pub record Writing : Type 0 where
  pub text : List ℕ
  pub places : List ℕ

abbrev pub writing : List ℕ → List ℕ → Writing
writing text places = record { text = text; places = places }

-- the zeros that a length lacks to a multiple of four
unfoldable pub padding : ℕ → List ℕ
padding n = replicate ((4 - n % 4) % 4) 0

unfoldable pub tlv_bytes : ℕ → List ℕ → List ℕ
tlv_bytes kind value = u16_bytes kind ++ u16_bytes (length value + 4) ++ value ++ padding (length value)

unfoldable pub ilv_bytes : ℕ → List ℕ → List ℕ
ilv_bytes ident value = u32_bytes ident ++ u32_bytes (length value + 8) ++ value ++ padding (length value)

-- the head of a TLV whose length is not known yet
abbrev pub head_bytes : ℕ → List ℕ
head_bytes kind = u16_bytes kind ++ 0 ∷ 0 ∷ []

-- where the newest begun TLV begins, or the bytes themselves
abbrev pub newest : List ℕ → ℕ
newest places = slice_index_or places (length places - 1) 0

-- the bytes with the length of the TLV from a place on filled in, and padded
unfoldable pub ended_at : ℕ → List ℕ → List ℕ
ended_at place text =
    slice_set (slice_set (text ++ padding (length text - place)) (place + 2) ((length text - place) / 2 ^ 8)) (place + 3)
    ((length text - place) % 2 ^ 8)

-- a TLV or ILV to be written: its type or identifier, and its value
pub record Put : Type 0 where
  pub name : ℕ
  pub value : List ℕ

-- TLVs written one after the other, and the items that they are from a place on
abbrev pub tlv_put : Put → List ℕ
tlv_put put = tlv_bytes put.name put.value

abbrev pub tlv_items : ℕ → List Put → List TlvItem
tlv_items place [] = []
tlv_items place (put ∷ puts) =
    record { kind = put.name; place = place; body = put.value; padded = put.value ++ padding (length put.value) }
    ∷ tlv_items (place + length (tlv_put put)) puts

abbrev pub TlvFits : Put → Type 0
TlvFits put = length put.value + 4 < 2 ^ 16

-- the same of ILVs
abbrev pub ilv_put : Put → List ℕ
ilv_put put = ilv_bytes put.name put.value

abbrev pub ilv_items : ℕ → List Put → List IlvItem
ilv_items place [] = []
ilv_items place (put ∷ puts) =
    record { ident = put.name; place = place; body = put.value } ∷ ilv_items (place + length (ilv_put put)) puts

abbrev pub IlvFits : Put → Type 0
IlvFits put = length put.value + 8 < 2 ^ 32
