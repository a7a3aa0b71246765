-- Which bytes spell which message: RFC 5810, sections 6.1 and 7.
use Rattle.std.specs.Prelude.{◌≡◌, ◌<◌, ◌+◌, ◌*◌, ◌/◌, ◌^◌, ◌&&◌, Bool, nat_lt, ℕ, List, [], ◌++◌, length, map, take, drop, ⊤}
use Rattle.std.specs.List.{AllByRecursion}
use Rattle.fc_wire.specs.Bytes.{u32_at, u32_bytes}
use Rattle.fc_wire.specs.Flags.{FlagsFit}
use Rattle.fc_wire.specs.Header.{IsHeader, header_bytes}
use Rattle.fc_wire.specs.Tlvs.{IsTlv}
use Rattle.fc_wire.specs.declared.header.Header.{Header}
use Rattle.fc_path.specs.Canon.{Written, joined, plain, select_written, wrapped}
use Rattle.fc_path.specs.Grammar.{Each, IsSelect}
use Rattle.fc_path.specs.Proper.{ProperSelect}
use Rattle.fc_path.specs.declared.oper.Select.{Select}
use Rattle.fc_msg.specs.MessageTypes as types
use Rattle.fc_msg.specs.declared.message.Message.{Message}
use Rattle.fc_msg.specs.declared.message.MsgBody.{MsgBody}
use Rattle.fc_msg.specs.declared.message.MsgBody.TheVariants.{Setup, SetupResponse, Teardown, Config, ConfigResponse, Query, QueryResponse, Event, Heartbeat}

-- the type of a message
abbrev pub kind_of : MsgBody → ℕ
kind_of (Setup selects) = types.setup
kind_of (SetupResponse result) = types.setup_response
kind_of (Teardown reason) = types.teardown
kind_of (Config selects) = types.config
kind_of (ConfigResponse selects) = types.config_response
kind_of (Query selects) = types.query
kind_of (QueryResponse selects) = types.query_response
kind_of (Event selects) = types.event
kind_of Heartbeat = types.heartbeat

-- the header of a message of so many words
abbrev pub header_of : Message → ℕ → Header
header_of m words =
    record { kind = kind_of m.body; words = words; source = m.source; dest = m.dest; corr = m.corr; flags = m.flags }

-- the bytes are one TLV of this type, whose value is this number in four bytes
pub record IsNumber (kind number : ℕ) (bytes : List ℕ) : Type 0 where
  pub value : List ℕ
  pub padded : List ℕ
  pub tlv : IsTlv kind value padded bytes
  pub four : length value ≡ 4
  pub same : number ≡ u32_at value 0

-- the bytes are LFBselects in a message of a type, one after the other, of which there is at least one
abbrev pub AreSelects : ℕ → List Select → List ℕ → Type 0
AreSelects kind selects bytes = (0 < length selects) × Each (IsSelect kind) selects bytes

-- the bytes behind the header spell the body
abbrev pub SpellsBody : MsgBody → List ℕ → Type 0
SpellsBody (Setup selects) bytes = Each (IsSelect types.setup) selects bytes
SpellsBody (SetupResponse result) bytes = IsNumber types.as_result result bytes
SpellsBody (Teardown reason) bytes = IsNumber types.as_reason reason bytes
SpellsBody (Config selects) bytes = AreSelects types.config selects bytes
SpellsBody (ConfigResponse selects) bytes = AreSelects types.config_response selects bytes
SpellsBody (Query selects) bytes = AreSelects types.query selects bytes
SpellsBody (QueryResponse selects) bytes = AreSelects types.query_response selects bytes
SpellsBody (Event selects) bytes = AreSelects types.event selects bytes
SpellsBody Heartbeat bytes = bytes ≡ []

-- the bytes spell the message; the reserved bits of the header, and padding, are free
pub record Spells (m : Message) (bytes : List ℕ) : Type 0 where
  pub words : ℕ
  pub header : IsHeader (header_of m words) (take 24 bytes)
  pub size : length bytes ≡ 4 * words
  pub body : SpellsBody m.body (drop 24 bytes)

-- the numbers of the body are within the ranges of their fields, and its LFBselects are ones that the grammar has in
-- a message of the type
abbrev pub ProperSelects : ℕ → List Select → Type 0
ProperSelects kind selects = (0 < length selects) × AllByRecursion (ProperSelect kind) selects

abbrev pub ProperMsgBody : MsgBody → Type 0
ProperMsgBody (Setup selects) = AllByRecursion (ProperSelect types.setup) selects
ProperMsgBody (SetupResponse result) = result < 2 ^ 32
ProperMsgBody (Teardown reason) = reason < 2 ^ 32
ProperMsgBody (Config selects) = ProperSelects types.config selects
ProperMsgBody (ConfigResponse selects) = ProperSelects types.config_response selects
ProperMsgBody (Query selects) = ProperSelects types.query selects
ProperMsgBody (QueryResponse selects) = ProperSelects types.query_response selects
ProperMsgBody (Event selects) = ProperSelects types.event selects
ProperMsgBody Heartbeat = ⊤

pub record IsProper (m : Message) : Type 0 where
  pub source : m.source < 2 ^ 32
  pub dest : m.dest < 2 ^ 32
  pub correlator : m.corr < 2 ^ 64
  pub flags : FlagsFit m.flags
  pub body : ProperMsgBody m.body

-- the canonical bytes of a body, whose padding is zero, and whether each length in it fits its field
abbrev pub selects_written : List Select → Written
selects_written selects = joined (map select_written selects)

abbrev pub body_written : MsgBody → Written
body_written (Setup selects) = selects_written selects
body_written (SetupResponse result) = wrapped types.as_result (plain (u32_bytes result))
body_written (Teardown reason) = wrapped types.as_reason (plain (u32_bytes reason))
body_written (Config selects) = selects_written selects
body_written (ConfigResponse selects) = selects_written selects
body_written (Query selects) = selects_written selects
body_written (QueryResponse selects) = selects_written selects
body_written (Event selects) = selects_written selects
body_written Heartbeat = plain []

-- a header, with the length of a message that has this body, and the body
abbrev pub framed : Header → List ℕ → List ℕ
framed h body =
    header_bytes (record { kind = h.kind; words = 6 + length body / 4; source = h.source; dest = h.dest; corr = h.corr; flags = h.flags }) ++ body

-- the canonical bytes of a message: reserved bits and padding are zero
abbrev pub with_body : Message → List ℕ → List ℕ
with_body m body = header_bytes (header_of m (6 + length body / 4)) ++ body

unfoldable pub canonical : Message → List ℕ
canonical m = with_body m (body_written m.body).text

-- each length in the message fits its field, and it has at most 65,535 words, six of which are the header's
unfoldable pub message_fits : Message → Bool
message_fits m = nat_lt (length (body_written m.body).text) 262117 && (body_written m.body).fits
