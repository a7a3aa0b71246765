-- TLVs: RFC 5810, section 6.2. Two bytes of type, two of a length that counts these four bytes and the value, the value,
-- and free padding up to a multiple of four.
use Rattle.std.specs.Prelude.{◌≡◌, ◌≤◌, ◌<◌, ◌^◌, ℕ, ◌+◌, ◌*◌, ◌/◌, ◌%◌, List, ◌++◌, length, take, drop, nat_lt, if◌then◌else◌, Option, Some, None, Result, Ok, Err}
use Rattle.fc_wire.specs.Bytes.{u16_at, u16_bytes}
use Rattle.fc_wire.specs.Tiling.{Tiling, IsTiling, tiles}
use Rattle.fc_wire.specs.declared.header.WireFault.{WireFault}
use Rattle.fc_wire.specs.declared.header.WireFault.TheVariants.{TlvShort, TlvPast}

-- a TLV, by the place of its first byte: its value, and its value with the padding
pub record TlvItem : Type 0 where
  pub kind : ℕ
  pub place : ℕ
  pub body : List ℕ
  pub padded : List ℕ

-- the bytes are one TLV with its padding
pub record IsTlv (kind : ℕ) (body padded bytes : List ℕ) : Type 0 where
  pub padding : List ℕ
  pub few : length padding < 4
  pub whole : length padded % 4 ≡ 0
  pub fits : length body + 4 < 2 ^ 16
  pub value : padded ≡ body ++ padding
  pub spelled : bytes ≡ u16_bytes kind ++ u16_bytes (length body + 4) ++ padded

abbrev pub IsTlvAt : ℕ → TlvItem → List ℕ → Type 0
IsTlvAt place tlv bytes = (tlv.place ≡ place) × IsTlv tlv.kind tlv.body tlv.padded bytes

-- why the bytes from a place on do not begin with a TLV: there is no room for its head or its length does not count
-- its head, or it is longer than what is left
abbrev pub tlv_fault : ℕ → List ℕ → Option WireFault
tlv_fault place bytes =
    if nat_lt (length bytes) 4 then Some (TlvShort place)
    else (if nat_lt (u16_at bytes 2) 4 then Some (TlvShort place)
    else (if nat_lt (length bytes) (u16_at bytes 2) then Some (TlvPast place) else None))

-- the bytes from a place on are these TLVs, up to their end or to this fault
abbrev pub AreTlvs : ℕ → Tiling TlvItem → List ℕ → Type 0
AreTlvs place t bytes = IsTiling IsTlvAt tlv_fault place t.items t.fault bytes

-- a length rounded up to a multiple of four
abbrev pub padded_len : ℕ → ℕ
padded_len n = (n + 3) / 4 * 4

-- the TLV of a length at the front of bytes from a place on, and what stands behind it
abbrev pub tlv_of : ℕ → ℕ → List ℕ → TlvItem × List ℕ
tlv_of len place bytes = (
  record {
    kind = u16_at bytes 0;
    place = place;
    body = drop 4 (take len bytes);
    padded = drop 4 (take (padded_len len) bytes);
  },
  drop (padded_len len) bytes,
)

unfoldable pub one_tlv : ℕ → List ℕ → Result (TlvItem × List ℕ) WireFault
one_tlv place bytes =
    if nat_lt (length bytes) 4 then Err (TlvShort place)
    else (if nat_lt (u16_at bytes 2) 4 then Err (TlvShort place)
    else (if nat_lt (length bytes) (u16_at bytes 2) then Err (TlvPast place) else Ok (tlv_of (u16_at bytes 2) place bytes)))

-- that tiling as a function
abbrev pub tlvs : ℕ → List ℕ → Tiling TlvItem
tlvs place bytes = tiles one_tlv place bytes

-- what holds of every TLV that a view lends
pub record Lent (tlv : TlvItem) : Type 0 where
  pub whole : length tlv.padded % 4 ≡ 0
  pub front : tlv.body ≡ take (length tlv.body) tlv.padded
  pub cut : length tlv.body ≤ length tlv.padded
  pub few : length tlv.padded < length tlv.body + 4
  pub within : tlv.place + 4 + length tlv.padded < 2 ^ 64
