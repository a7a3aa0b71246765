-- What `control` reads, which round it takes, what it does on its hub and what it writes, by how it ends. This profile's own.
use Rattle.std.specs.Prelude.{◌≡◌, ◌⊎◌, ◌<◌, ◌≤◌, ◌^◌, ℕ, Bool, true, false, List, [], ◌∷◌, ◌++◌, length, codes, decimal, Option, Result, Ok, Err, ⊤}
use Rattle.std.specs.Io.KnownBytes.{Consumes}
use Rattle.fc_base.specs.Ids.{IsRound}
use Rattle.fc_hub.specs.Hubs.{Held}
use Rattle.fc_hub.specs.Rounds.{Given, IsAfter, and_gave}
use Rattle.fc_hub.specs.declared.event.HubEvent.{HubEvent}
use Rattle.fc_library.specs.Refusals.{refusal_text}
use Rattle.fc_library.specs.declared.fault.LibFault.{LibFault}
use Rattle.fc_documents.specs.Plans.{Planned}
use Rattle.fc_peers.specs.declared.acting.NodeStop.TheVariants as stop
use Rattle.fc_control.specs.ControlNode.{ControlState, NodeState, has_ended, node_after}
use Rattle.fc_control.specs.Reports.{is_done, report_of}
use Rattle.fc_control.specs.Serving.{AreAll, Broke, Goes, Went}
use Rattle.fc_control.specs.declared.running.Served.{Served}
use Rattle.fc_control.specs.declared.running.Served.TheVariants as served
use Rattle.fc_endings.specs.Endings.{CommandEnds, RoseIf}
use Rattle.fc_endings.specs.Looks.{LookEnds}
use Rattle.fc_endings.specs.Stops.{stop_status}
use Rattle.fc_endings.specs.declared.input.Look.{Look}
use Rattle.fc_endings.specs.declared.input.Look.TheVariants as look
use Rattle.fc_endings.specs.declared.stops.Stop.{Stop}
use Rattle.fc_controlling.specs.Meanings.{node_given, plan_for}
use Rattle.fc_controlling.specs.declared.asked.Asked.{Asked}
use Rattle.fc_controlling.specs.declared.asked.ControlEnd.{ControlEnd}
use Rattle.fc_controlling.specs.declared.asked.ControlEnd.TheVariants.{Deposed, Done, HubFault, NoRound, ReadFault, Refused, RoundsFault, TooLong, Turns, Unfinished}

-- ---- what the document means

abbrev pub MeansPlan : Result Planned LibFault → Type 0
MeansPlan meant = (plan : Planned) × (meant ≡ Ok plan)

abbrev pub MeansNone : Result Planned LibFault → Type 0
MeansNone meant = (fault : LibFault) × (meant ≡ Err fault)

-- the line of a document that means no plan
abbrev pub refused_text : Result Planned LibFault → List ℕ
refused_text (Ok plan) = []
refused_text (Err fault) = refusal_text (codes "plan") fault

-- the line of a round that is none of a control element
unfoldable pub no_round_text : ℕ → List ℕ
no_round_text round = codes "no round " ++ (decimal round ++ codes "\n")

-- ---- by how it ends

-- what was seen of the input
abbrev pub look_of : ControlEnd → Look
look_of Done = look.Whole
look_of Unfinished = look.Whole
look_of Deposed = look.Whole
look_of Turns = look.Whole
look_of HubFault = look.Whole
look_of RoundsFault = look.Whole
look_of NoRound = look.Whole
look_of Refused = look.Whole
look_of ReadFault = look.ReadFault
look_of TooLong = look.TooLong

-- what the bytes that were read mean
abbrev pub MeantSo : ControlEnd → Result Planned LibFault → Type 0
MeantSo Done meant = MeansPlan meant
MeantSo Unfinished meant = MeansPlan meant
MeantSo Deposed meant = MeansPlan meant
MeantSo Turns meant = MeansPlan meant
MeantSo HubFault meant = MeansPlan meant
MeantSo RoundsFault meant = MeansPlan meant
MeantSo NoRound meant = MeansPlan meant
MeantSo Refused meant = MeansNone meant
MeantSo ReadFault meant = ⊤
MeantSo TooLong meant = ⊤

-- this number was taken of the rounds, and no other
abbrev pub Gave : ℕ → Given → Given → Type 0
Gave round given gave = (gave ≡ and_gave round given) × IsAfter given.last round

-- which number was taken: one that is a round of a control element, one that is none, or none at all
abbrev pub GaveSo : ControlEnd → ℕ → Given → Given → Type 0
GaveSo Done round given gave = Gave round given gave × IsRound round
GaveSo Unfinished round given gave = Gave round given gave × IsRound round
GaveSo Deposed round given gave = Gave round given gave × IsRound round
GaveSo Turns round given gave = Gave round given gave × IsRound round
GaveSo HubFault round given gave = Gave round given gave × IsRound round
GaveSo NoRound round given gave = Gave round given gave × (2 ^ 24 ≤ round)
GaveSo RoundsFault round given gave = gave ≡ given
GaveSo Refused round given gave = gave ≡ given
GaveSo ReadFault round given gave = gave ≡ given
GaveSo TooLong round given gave = gave ≡ given

-- what was done on the hub, of these events, with the node that it begins with
abbrev pub ActedSo : NodeState → ℕ → ControlEnd → List HubEvent → Option Held → Option Held → Type 0
-- the hub has no more events: all of them were taken, fewer than are to be taken, and all of the plan is begun and settled, or not
ActedSo n turns Done events old new = (length events < turns) × Goes n events × Went old new n events × AreAll old events × (is_done (node_after n events).control ≡ true)
ActedSo n turns Unfinished events old new = (length events < turns) × Goes n events × Went old new n events × AreAll old events × (is_done (node_after n events).control ≡ false)
-- the last of them deposed it
ActedSo n turns Deposed events old new =
    (before : List HubEvent) × (last : HubEvent) × (events ≡ before ++ last ∷ []) × (length before < turns) × Goes n before × Went old new n events
    × (has_ended (node_after n events).control ≡ true)
-- so many events were taken as are to be taken
ActedSo n turns Turns events old new = (length events ≡ turns) × Goes n events × Went old new n events
-- the hub failed: the acts of the events before stand, and a front of those of the last, but not all
ActedSo n turns HubFault events old new = (length events < turns) × Goes n events × Broke stop.HubFault old new n events
-- nothing was done
ActedSo n turns RoundsFault events old new = new ≡ old
ActedSo n turns NoRound events old new = new ≡ old
ActedSo n turns Refused events old new = new ≡ old
ActedSo n turns ReadFault events old new = new ≡ old
ActedSo n turns TooLong events old new = new ≡ old

-- the report on the control element of a node once these events were taken
abbrev pub report_after : NodeState → List HubEvent → List ℕ
report_after n events = report_of (node_after n events).control

-- what is written once the node has begun
abbrev pub run_text : NodeState → ControlEnd → List HubEvent → List ℕ
run_text n Done events = report_after n events
run_text n Unfinished events = report_after n events
run_text n Deposed events = report_after n events
run_text n Turns events = report_after n events
run_text n HubFault events = []
run_text n RoundsFault events = []
run_text n NoRound events = []
run_text n Refused events = []
run_text n ReadFault events = []
run_text n TooLong events = []

-- what is written
abbrev pub control_text : NodeState → ControlEnd → ℕ → Result Planned LibFault → List HubEvent → List ℕ
control_text n Done round meant events = run_text n Done events
control_text n Unfinished round meant events = run_text n Unfinished events
control_text n Deposed round meant events = run_text n Deposed events
control_text n Turns round meant events = run_text n Turns events
control_text n HubFault round meant events = []
control_text n RoundsFault round meant events = []
control_text n NoRound round meant events = no_round_text round
control_text n Refused round meant events = refused_text meant
control_text n ReadFault round meant events = []
control_text n TooLong round meant events = []

-- all that holds of an end of a control element by what its document means, with the round and the events that were taken, and
-- what is to be written
abbrev pub EndedSo : Asked → Result Planned LibFault → ControlEnd → ℕ → List HubEvent → Given → Given → Option Held → Option Held → List ℕ → Type 0
EndedSo asked meant end round events given gave old new written =
    MeantSo end meant × GaveSo end round given gave × ActedSo (node_given asked.ce round meant) asked.turns end events old new
    × (written ≡ control_text (node_given asked.ce round meant) end round meant events)

-- out of memory over the hub: before the first event, or over one that is among those to be taken
abbrev pub HubLacked : NodeState → ℕ → Option Held → Option Held → Type 0
HubLacked n turns old new = (new ≡ old) ⊎ ((events : List HubEvent) × (length events < turns) × Goes n events × Broke stop.NoMemory old new n events)

-- out of memory once a round was taken
abbrev pub RoundLacked : Asked → Result Planned LibFault → Given → Given → Option Held → Option Held → Type 0
RoundLacked asked meant given gave old new =
    MeansPlan meant × ((round : ℕ) × Gave round given gave × HubLacked (node_given asked.ce round meant) asked.turns old new)

-- ---- counts of failures, each before and now

-- the ends that tell that the input can't be read, that the hub failed, and that the rounds did
abbrev pub is_unread : ControlEnd → Bool
is_unread ReadFault = true
is_unread Done = false
is_unread Unfinished = false
is_unread Deposed = false
is_unread Turns = false
is_unread HubFault = false
is_unread RoundsFault = false
is_unread NoRound = false
is_unread Refused = false
is_unread TooLong = false

abbrev pub is_unserved : ControlEnd → Bool
is_unserved HubFault = true
is_unserved Done = false
is_unserved Unfinished = false
is_unserved Deposed = false
is_unserved Turns = false
is_unserved RoundsFault = false
is_unserved NoRound = false
is_unserved Refused = false
is_unserved ReadFault = false
is_unserved TooLong = false

abbrev pub is_ungiven : ControlEnd → Bool
is_ungiven RoundsFault = true
is_ungiven Done = false
is_ungiven Unfinished = false
is_ungiven Deposed = false
is_ungiven Turns = false
is_ungiven HubFault = false
is_ungiven NoRound = false
is_ungiven Refused = false
is_ungiven ReadFault = false
is_ungiven TooLong = false

-- those of the hub and of the rounds: each rose exactly where the end tells that it failed
abbrev pub NetTells : ℕ × ℕ → ℕ × ℕ → ControlEnd → Type 0
NetTells hub rounds end = RoseIf (is_unserved end) hub.0 hub.1 × RoseIf (is_ungiven end) rounds.0 rounds.1

-- and that of the source
abbrev pub CountsTell : ℕ × ℕ → ℕ × ℕ → ℕ × ℕ → ControlEnd → Type 0
CountsTell source hub rounds end = RoseIf (is_unread end) source.0 source.1 × NetTells hub rounds end

-- neither that of the hub nor that of the rounds rose
abbrev pub NetRests : ℕ × ℕ → ℕ × ℕ → Type 0
NetRests hub rounds = (hub.1 ≡ hub.0) × (rounds.1 ≡ rounds.0)

-- none rose
abbrev pub NoneRose : ℕ × ℕ → ℕ × ℕ → ℕ × ℕ → Type 0
NoneRose source hub rounds = (source.1 ≡ source.0) × NetRests hub rounds

-- ---- the command, over an input of which so many bytes are looked at

abbrev pub ControlWent : ℕ → Asked → ℕ × ℕ → ℕ × ℕ → ℕ × ℕ → Option (List ℕ) → Option (List ℕ) → Given → Given → Option Held → Option Held → ControlEnd → List ℕ → Type 0
ControlWent limit asked source hub rounds before left given gave old new end written =
    (bytes : List ℕ) × (round : ℕ) × (events : List HubEvent) × LookEnds limit (Ok (look_of end)) bytes before left
    × EndedSo asked (plan_for asked.addresses bytes) end round events given gave old new written × CountsTell source hub rounds end

-- out of memory before it came to an end: while the input was read and judged, or once a round was taken
abbrev pub ControlLacked : ℕ → Asked → ℕ × ℕ → ℕ × ℕ → ℕ × ℕ → Option (List ℕ) → Option (List ℕ) → Given → Given → Option Held → Option Held → Type 0
ControlLacked limit asked source hub rounds before left given gave old new =
    NoneRose source hub rounds
    × (((bytes : List ℕ) × Consumes before left bytes × (length bytes ≤ limit) × (gave ≡ given) × (new ≡ old))
    ⊎ ((bytes : List ℕ) × LookEnds limit (Ok look.Whole) bytes before left × RoundLacked asked (plan_for asked.addresses bytes) given gave old new))

-- How `control` ends: what was read, which round was taken, what was done on the hub, and what was written, with the counts of failures of the source,
-- of the hub and of the rounds.
abbrev pub ControlEnds : ℕ → Asked → ℕ × ℕ → ℕ × ℕ → ℕ × ℕ → Result ControlEnd Stop → Option (List ℕ) → Option (List ℕ) → Given → Given → Option Held → Option Held → Option (List ℕ) → Option (List ℕ) → Type 0
ControlEnds limit asked source hub rounds how before left given gave old new text now =
    CommandEnds ControlEnd (ControlWent limit asked source hub rounds before left given gave old new) (ControlLacked limit asked source hub rounds before left given gave old new) how text now

-- the same once the input was read whole, by what it means
abbrev pub MeantWent : Asked → Result Planned LibFault → ℕ × ℕ → ℕ × ℕ → Given → Given → Option Held → Option Held → ControlEnd → List ℕ → Type 0
MeantWent asked meant hub rounds given gave old new end written =
    (round : ℕ) × (events : List HubEvent) × (look_of end ≡ look.Whole) × EndedSo asked meant end round events given gave old new written × NetTells hub rounds end

abbrev pub MeantLacked : Asked → Result Planned LibFault → ℕ × ℕ → ℕ × ℕ → Given → Given → Option Held → Option Held → Type 0
MeantLacked asked meant hub rounds given gave old new = NetRests hub rounds × (((gave ≡ given) × (new ≡ old)) ⊎ RoundLacked asked meant given gave old new)

abbrev pub MeantEnds : Asked → Result Planned LibFault → ℕ × ℕ → ℕ × ℕ → Result ControlEnd Stop → Given → Given → Option Held → Option Held → Option (List ℕ) → Option (List ℕ) → Type 0
MeantEnds asked meant hub rounds how given gave old new text now =
    CommandEnds ControlEnd (MeantWent asked meant hub rounds given gave old new) (MeantLacked asked meant hub rounds given gave old new) how text now

-- the ends once the node has begun
abbrev pub IsRun : ControlEnd → Type 0
IsRun Done = ⊤
IsRun Unfinished = ⊤
IsRun Deposed = ⊤
IsRun Turns = ⊤
IsRun HubFault = ⊤
IsRun RoundsFault = ⊥
IsRun NoRound = ⊥
IsRun Refused = ⊥
IsRun ReadFault = ⊥
IsRun TooLong = ⊥

abbrev pub RunWent : NodeState → ℕ → ℕ × ℕ → Option Held → Option Held → ControlEnd → List ℕ → Type 0
RunWent n turns hub old new end written =
    (events : List HubEvent) × IsRun end × ActedSo n turns end events old new × (written ≡ run_text n end events) × RoseIf (is_unserved end) hub.0 hub.1

abbrev pub RunLacked : NodeState → ℕ → ℕ × ℕ → Option Held → Option Held → Type 0
RunLacked n turns hub old new = (hub.1 ≡ hub.0) × HubLacked n turns old new

abbrev pub RunEnds : NodeState → ℕ → ℕ × ℕ → Result ControlEnd Stop → Option Held → Option Held → Option (List ℕ) → Option (List ℕ) → Type 0
RunEnds n turns hub how old new text now = CommandEnds ControlEnd (RunWent n turns hub old new) (RunLacked n turns hub old new) how text now

-- ---- ends and statuses

abbrev pub if_done : Bool → ControlEnd
if_done true = Done
if_done false = Unfinished

-- the end of a control element whose node ended so
abbrev pub end_by : Served → ControlState → ControlEnd
end_by served.Over n = if_done (is_done n)
end_by served.Deposed n = Deposed
end_by served.Turns n = Turns

-- the status of each ending
abbrev pub control_status : Result ControlEnd Stop → ℕ
control_status (Ok Done) = 0
control_status (Ok ReadFault) = 2
control_status (Ok HubFault) = 4
control_status (Ok RoundsFault) = 4
control_status (Ok Refused) = 5
control_status (Ok Unfinished) = 7
control_status (Ok Deposed) = 8
control_status (Ok Turns) = 10
control_status (Ok NoRound) = 11
control_status (Ok TooLong) = 12
control_status (Err stop) = stop_status stop
