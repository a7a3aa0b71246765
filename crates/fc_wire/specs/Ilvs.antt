-- ILVs: RFC 5810, section 6.3. Four bytes of identifier, four of a length that counts these eight bytes and the value,
-- the value, and free padding up to a multiple of four.
use Rattle.std.specs.Prelude.{◌≡◌, ◌<◌, ◌^◌, ℕ, ◌+◌, ◌%◌, List, ◌++◌, length, take, drop, nat_lt, if◌then◌else◌, Option, Some, None, Result, Ok, Err}
use Rattle.fc_wire.specs.Bytes.{u32_at, u32_bytes}
use Rattle.fc_wire.specs.Tiling.{Tiling, IsTiling, tiles}
use Rattle.fc_wire.specs.Tlvs.{padded_len}
use Rattle.fc_wire.specs.declared.header.WireFault.{WireFault}
use Rattle.fc_wire.specs.declared.header.WireFault.TheVariants.{TlvShort, TlvPast}

-- an ILV, by the place of its first byte
pub record IlvItem : Type 0 where
  pub ident : ℕ
  pub place : ℕ
  pub body : List ℕ

-- the bytes are one ILV with its padding
pub record IsIlv (ident : ℕ) (body bytes : List ℕ) : Type 0 where
  pub padding : List ℕ
  pub few : length padding < 4
  pub whole : length bytes % 4 ≡ 0
  pub fits : length body + 8 < 2 ^ 32
  pub spelled : bytes ≡ u32_bytes ident ++ u32_bytes (length body + 8) ++ body ++ padding

abbrev pub IsIlvAt : ℕ → IlvItem → List ℕ → Type 0
IsIlvAt place ilv bytes = (ilv.place ≡ place) × IsIlv ilv.ident ilv.body bytes

-- why the bytes from a place on do not begin with an ILV: there is no room for its head or its length does not count
-- its head, or it is longer than what is left
abbrev pub ilv_fault : ℕ → List ℕ → Option WireFault
ilv_fault place bytes =
    if nat_lt (length bytes) 8 then Some (TlvShort place)
    else (if nat_lt (u32_at bytes 4) 8 then Some (TlvShort place)
    else (if nat_lt (length bytes) (u32_at bytes 4) then Some (TlvPast place) else None))

-- the bytes from a place on are these ILVs, up to their end or to this fault
abbrev pub AreIlvs : ℕ → Tiling IlvItem → List ℕ → Type 0
AreIlvs place t bytes = IsTiling IsIlvAt ilv_fault place t.items t.fault bytes

-- the ILV of a length at the front of bytes from a place on, and what stands behind it
abbrev pub ilv_of : ℕ → ℕ → List ℕ → IlvItem × List ℕ
ilv_of len place bytes =
    (record { ident = u32_at bytes 0; place = place; body = drop 8 (take len bytes) }, drop (padded_len len) bytes)

unfoldable pub one_ilv : ℕ → List ℕ → Result (IlvItem × List ℕ) WireFault
one_ilv place bytes =
    if nat_lt (length bytes) 8 then Err (TlvShort place)
    else (if nat_lt (u32_at bytes 4) 8 then Err (TlvShort place)
    else (if nat_lt (length bytes) (u32_at bytes 4) then Err (TlvPast place) else Ok (ilv_of (u32_at bytes 4) place bytes)))

-- that tiling as a function
abbrev pub ilvs : ℕ → List ℕ → Tiling IlvItem
ilvs place bytes = tiles one_ilv place bytes
