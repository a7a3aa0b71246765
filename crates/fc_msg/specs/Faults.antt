-- The first rule that bytes break, with its place: RFC 5810, sections 6 and 7, in the order of this profile. The rules go
-- over the header, then the type, and then the body as it is read. That this is the first in the list of all tests of the
-- TLVs and ends of containers in reading order is a law.
use Rattle.std.specs.Prelude.{ℕ, ◌*◌, ◌/◌, ◌==◌, ◌||◌, not, nat_lt, Bool, if◌then◌else◌, List, [], ◌∷◌, length, drop, slice_index, codes, Option, Some, None, Result, Ok, Err}
use Rattle.fc_wire.specs.Bytes.{u16_at}
use Rattle.fc_wire.specs.Tlvs.{tlvs}
use Rattle.fc_wire.specs.declared.header.WireFault.{WireFault}
use Rattle.fc_wire.specs.declared.header.WireFault.TheVariants as wire
use Rattle.fc_path.specs.declared.fault.PathFault.{PathFault}
use Rattle.fc_path.specs.declared.fault.PathFault.TheVariants as path
use Rattle.fc_msg.specs.Bodies.{body_at}
use Rattle.fc_msg.specs.MessageTypes as types
use Rattle.fc_msg.specs.declared.message.MsgBody.{MsgBody}
use Rattle.fc_msg.specs.declared.fault.Refusal.{Refusal}
use Rattle.fc_msg.specs.declared.fault.Reason.{Reason}
use Rattle.fc_msg.specs.declared.fault.Reason.TheVariants.{Truncated, Version, ShortLength, Trailing, NotBuilt, UnknownType, TlvShort, TlvPast, UnknownTlv, TwoBodies, WrongBody, CountPast, KeyFlag, Deep}

-- the words for the reasons
abbrev pub reason_text : Reason → List ℕ
reason_text Truncated = codes "truncated"
reason_text Version = codes "version"
reason_text ShortLength = codes "short-length"
reason_text Trailing = codes "trailing"
reason_text NotBuilt = codes "not-built"
reason_text UnknownType = codes "unknown-type"
reason_text TlvShort = codes "tlv-short"
reason_text TlvPast = codes "tlv-past"
reason_text UnknownTlv = codes "unknown-tlv"
reason_text TwoBodies = codes "two-bodies"
reason_text WrongBody = codes "wrong-body"
reason_text CountPast = codes "count-past"
reason_text KeyFlag = codes "key-flag"
reason_text Deep = codes "deep"

abbrev pub refusal : ℕ → Reason → Refusal
refusal place reason = record { place = place; reason = reason }

-- the refusal of a fault of the wire, at its place
abbrev pub refusal_of : WireFault → Refusal
refusal_of (wire.Version place) = refusal place Version
refusal_of (wire.ShortLength place) = refusal place ShortLength
refusal_of (wire.TlvShort place) = refusal place TlvShort
refusal_of (wire.TlvPast place) = refusal place TlvPast

-- whether a rule is broken, and what is told then
pub record Rule : Type 0 where
  pub is_broken : Bool
  pub told : Refusal

abbrev pub rule : Bool → ℕ → Reason → Rule
rule is_broken place reason = record { is_broken = is_broken; told = refusal place reason }

-- the first rule that is broken
abbrev pub first_broken : List Rule → Option Refusal
first_broken [] = None
first_broken (r ∷ rs) = if r.is_broken then Some r.told else first_broken rs

-- the rules of the header, and of the number of bytes
abbrev pub header_rules : List ℕ → List Rule
header_rules bytes =
    rule (nat_lt (length bytes) 24) 0 Truncated
    ∷ rule (not (slice_index bytes 0 / 16 == 1)) 0 Version
    ∷ rule (nat_lt (u16_at bytes 2) 6) 2 ShortLength
    ∷ rule (nat_lt (length bytes) (4 * u16_at bytes 2)) 0 Truncated
    ∷ rule (nat_lt (4 * u16_at bytes 2) (length bytes)) (4 * u16_at bytes 2) Trailing
    ∷ []

-- the types of messages that are in the table
abbrev pub is_type : ℕ → Bool
is_type kind =
    kind == types.setup || kind == types.teardown || kind == types.config || kind == types.query || kind == types.event
    || kind == types.heartbeat || kind == types.setup_response || kind == types.config_response || kind == types.query_response

-- the rules of the type: PacketRedirect is not taken yet
abbrev pub type_rules : ℕ → List Rule
type_rules kind = rule (kind == types.redirect) 1 NotBuilt ∷ rule (not (is_type kind)) 1 UnknownType ∷ []

-- what is told of a fault of a body; out of memory is none
abbrev pub told_of : PathFault → Option Refusal
told_of (path.Wire fault) = Some (refusal_of fault)
told_of (path.UnknownTlv place) = Some (refusal place UnknownTlv)
told_of (path.CountPast place) = Some (refusal place CountPast)
told_of (path.KeyFlag place) = Some (refusal place KeyFlag)
told_of (path.TwoBodies place) = Some (refusal place TwoBodies)
told_of (path.Deep place) = Some (refusal place Deep)
told_of (path.WrongBody place) = Some (refusal place WrongBody)
told_of (path.Trailing place) = Some (refusal place Trailing)
told_of path.Memory = None

abbrev pub fault_in : {X : Type 0} → Result X PathFault → Option Refusal
fault_in (Ok x) = None
fault_in (Err fault) = told_of fault

-- one rule after the other
abbrev pub first_of : Option Refusal → Option Refusal → Option Refusal
first_of None later = later
first_of (Some told) later = Some told

-- the body behind the header
abbrev pub body_in : List ℕ → Result MsgBody PathFault
body_in bytes =
    body_at (slice_index bytes 1) (length bytes) (tlvs 24 (drop 24 bytes)).items (tlvs 24 (drop 24 bytes)).fault

-- the first rule of the header and of the type that the bytes break
abbrev pub head_fault : List ℕ → Option Refusal
head_fault bytes = first_of (first_broken (header_rules bytes)) (first_broken (type_rules (slice_index bytes 1)))

-- the first rule that the bytes break
unfoldable pub fault_of : List ℕ → Option Refusal
fault_of bytes = first_of (head_fault bytes) (fault_in (body_in bytes))
