-- The common header of a message: RFC 5810, section 6.1. Reserved bits are free.
use Rattle.std.specs.Prelude.{◌≡◌, ◌<◌, ◌↔◌, ℕ, ◌+◌, ◌*◌, if◌then◌else◌, ◌∷◌, ◌++◌, ◌/◌, ◌%◌, ◌^◌, List, length, slice_index, IsTrue, Option, Some, None, ◌==◌, not, nat_lt}
use Rattle.std.specs.Int.{to_be_bytes, w16, w32, w64}
use Rattle.fc_wire.specs.Bytes.{u16_at, u32_at, u64_at}
use Rattle.fc_wire.specs.Flags.{FlagValues, FlagsFit}
use Rattle.fc_wire.specs.declared.header.Header.{Header}
use Rattle.fc_wire.specs.declared.header.WireFault.{WireFault}
use Rattle.fc_wire.specs.declared.header.WireFault.TheVariants.{Version, ShortLength}

-- the flags are those of the word, whose other bits are free
pub record HasFlags (flags : FlagValues) (word : ℕ) : Type 0 where
  pub acknowledgement : flags.ack ≡ word / 2 ^ 30
  pub priority : flags.pri ≡ word / 2 ^ 27 % 8
  pub mode : flags.em ≡ word / 2 ^ 22 % 4
  pub atomic : IsTrue flags.at ↔ (word / 2 ^ 21 % 2 ≡ 1)
  pub phase : flags.tp ≡ word / 2 ^ 19 % 4

-- the word of the flags, whose other bits are zero
abbrev pub word_of : FlagValues → ℕ
word_of flags =
    2 ^ 30 * flags.ack + 2 ^ 27 * flags.pri + 2 ^ 22 * flags.em + (if flags.at then 2 ^ 21 else 0) + 2 ^ 19 * flags.tp

-- the header is that of the 24 bytes, whose reserved bits are free
pub record IsHeader (h : Header) (bytes : List ℕ) : Type 0 where
  pub size : length bytes ≡ 24
  pub version : slice_index bytes 0 / 16 ≡ 1
  pub kind : h.kind ≡ slice_index bytes 1
  pub words : h.words ≡ u16_at bytes 2
  pub source : h.source ≡ u32_at bytes 4
  pub dest : h.dest ≡ u32_at bytes 8
  pub correlator : h.corr ≡ u64_at bytes 12
  pub flags : HasFlags h.flags (u32_at bytes 20)

-- why the front of the bytes is no header: the version is not 1, or the words are fewer than those of a header
abbrev pub header_fault : List ℕ → Option WireFault
header_fault bytes =
    if not (slice_index bytes 0 / 16 == 1) then Some (Version 0)
    else (if nat_lt (u16_at bytes 2) 6 then Some (ShortLength 2) else None)

-- the canonical header, whose reserved bits are zero
abbrev pub header_bytes : Header → List ℕ
header_bytes h =
    16 ∷ h.kind ∷ (to_be_bytes w16 h.words ++ (to_be_bytes w32 h.source ++ (to_be_bytes w32 h.dest
    ++ (to_be_bytes w64 h.corr ++ to_be_bytes w32 (word_of h.flags)))))

-- the numbers of the header are those of its fields' types
pub record InRange (h : Header) : Type 0 where
  pub kind : h.kind < 2 ^ 8
  pub words : h.words < 2 ^ 16
  pub source : h.source < 2 ^ 32
  pub dest : h.dest < 2 ^ 32
  pub correlator : h.corr < 2 ^ 64
  pub flags : FlagsFit h.flags
