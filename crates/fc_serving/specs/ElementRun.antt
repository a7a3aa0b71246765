-- What `element` reads, does on its hub and writes, by how it ends. This profile's own.
use Rattle.std.specs.Prelude.{◌≡◌, ◌⊎◌, ◌<◌, ◌≤◌, ℕ, Bool, true, false, List, [], length, codes, Option, Result, Ok, Err, ⊤}
use Rattle.std.specs.Io.KnownBytes.{Consumes}
use Rattle.fc_hub.specs.Hubs.{Held}
use Rattle.fc_hub.specs.declared.event.HubEvent.{HubEvent}
use Rattle.fc_element.specs.Reports.{report_of}
use Rattle.fc_library.specs.Documents.{library_of}
use Rattle.fc_library.specs.Refusals.{refusal_text}
use Rattle.fc_library.specs.declared.fault.LibFault.{LibFault}
use Rattle.fc_types.specs.declared.class.Class.{Class}
use Rattle.fc_serving.specs.declared.end.ElementEnd.{ElementEnd}
use Rattle.fc_serving.specs.declared.end.ElementEnd.TheVariants.{Done, ReadFault, HubFault, Refused, Turns, TooLong}
use Rattle.fc_endings.specs.declared.input.Look.{Look}
use Rattle.fc_endings.specs.declared.input.Look.TheVariants as look
use Rattle.fc_endings.specs.declared.stops.Stop.{Stop}
use Rattle.fc_peers.specs.declared.acting.NodeStop.TheVariants as stop
use Rattle.fc_serving.specs.declared.serve.Served.{Served}
use Rattle.fc_serving.specs.declared.serve.Served.TheVariants as served
use Rattle.fc_serving.specs.Serving.{AreAll, Broke, Went}
use Rattle.fc_serving.specs.ElementNode.{NodeState, node_after, node_by}
use Rattle.fc_endings.specs.Endings.{CommandEnds, RoseIf}
use Rattle.fc_endings.specs.Looks.{LookEnds}
use Rattle.fc_endings.specs.Stops.{stop_status}

-- the bytes are a document that means a library
abbrev pub MeansLibrary : List ℕ → Type 0
MeansLibrary bytes = (given : List Class × List (ℕ × ℕ)) × (library_of bytes ≡ Ok given)

-- the bytes are a document that means none
abbrev pub MeansNone : List ℕ → Type 0
MeansNone bytes = (fault : LibFault) × (library_of bytes ≡ Err fault)

-- the line of a document that means no library
abbrev pub refused_text : Result (List Class × List (ℕ × ℕ)) LibFault → List ℕ
refused_text (Ok given) = []
refused_text (Err fault) = refusal_text (codes "library") fault

-- the report on the element of a node once these events were taken
abbrev pub report_after : NodeState → List HubEvent → List ℕ
report_after n events = report_of (node_after n events).element

-- the endings in which nothing failed
abbrev pub IsOutcome : ElementEnd → Type 0
IsOutcome Done = ⊤
IsOutcome Turns = ⊤
IsOutcome Refused = ⊤
IsOutcome TooLong = ⊤
IsOutcome ReadFault = ⊥
IsOutcome HubFault = ⊥

-- what was seen of the input where `element` ends so
abbrev pub look_of : ElementEnd → Look
look_of Done = look.Whole
look_of Turns = look.Whole
look_of HubFault = look.Whole
look_of Refused = look.Whole
look_of ReadFault = look.ReadFault
look_of TooLong = look.TooLong

-- what the bytes that were read mean where it ends so
abbrev pub JudgedSo : ElementEnd → List ℕ → Type 0
JudgedSo Done bytes = MeansLibrary bytes
JudgedSo Turns bytes = MeansLibrary bytes
JudgedSo HubFault bytes = MeansLibrary bytes
JudgedSo Refused bytes = MeansNone bytes
JudgedSo ReadFault bytes = ⊤
JudgedSo TooLong bytes = ⊤

-- what was done on the hub where `element` ends so, of these events, with the node that it begins with
abbrev pub ActedSo : NodeState → ℕ → ElementEnd → List HubEvent → Option Held → Option Held → Type 0
-- the hub has no more events: all of them were taken, fewer than are to be taken
ActedSo n turns Done events old new = (length events < turns) × Went old new n events × AreAll old events
-- so many events were taken as are to be taken
ActedSo n turns Turns events old new = (length events ≡ turns) × Went old new n events
-- the hub failed: the acts of the events before stand, and a front of those of the last, but not all
ActedSo n turns HubFault events old new = (length events < turns) × Broke stop.HubFault old new n events
-- the input means no library, or can't be read: nothing was done
ActedSo n turns Refused events old new = new ≡ old
ActedSo n turns ReadFault events old new = new ≡ old
ActedSo n turns TooLong events old new = new ≡ old

-- what is written where `element` ends so
abbrev pub element_text : NodeState → ElementEnd → List ℕ → List HubEvent → List ℕ
element_text n Done bytes events = report_after n events
element_text n Turns bytes events = report_after n events
element_text n HubFault bytes events = []
element_text n Refused bytes events = refused_text (library_of bytes)
element_text n ReadFault bytes events = []
element_text n TooLong bytes events = []

-- the ends that tell that the input can't be read, and that the hub failed
abbrev pub is_unread : ElementEnd → Bool
is_unread ReadFault = true
is_unread Done = false
is_unread HubFault = false
is_unread Refused = false
is_unread Turns = false
is_unread TooLong = false

abbrev pub is_unserved : ElementEnd → Bool
is_unserved HubFault = true
is_unserved Done = false
is_unserved ReadFault = false
is_unserved Refused = false
is_unserved Turns = false
is_unserved TooLong = false

-- the counts of failures of the source and of the hub, each before and now: each rose exactly where the end tells that it failed
abbrev pub CountsTell : ℕ × ℕ → ℕ × ℕ → ElementEnd → Type 0
CountsTell source hub end = RoseIf (is_unread end) source.0 source.1 × RoseIf (is_unserved end) hub.0 hub.1

-- neither rose
abbrev pub NoneRose : ℕ × ℕ → ℕ × ℕ → Type 0
NoneRose source hub = (source.1 ≡ source.0) × (hub.1 ≡ hub.0)

-- `element` came to an end over an input of which so many bytes are looked at, and over these events, and this is to be written
abbrev pub ElementWent : ℕ → ℕ → ℕ → ℕ → ℕ × ℕ → ℕ × ℕ → Option (List ℕ) → Option (List ℕ) → Option Held → Option Held → ElementEnd → List ℕ → Type 0
ElementWent limit id ce turns source hub before left old new end written =
    (bytes : List ℕ) × (events : List HubEvent) × LookEnds limit (Ok (look_of end)) bytes before left × JudgedSo end bytes
    × ActedSo (node_by id ce bytes) turns end events old new × (written ≡ element_text (node_by id ce bytes) end bytes events) × CountsTell source hub end

-- out of memory over the hub: before the first event, or over one that is among those to be taken
abbrev pub HubLacked : NodeState → ℕ → Option Held → Option Held → Type 0
HubLacked n turns old new = (new ≡ old) ⊎ ((events : List HubEvent) × (length events < turns) × Broke stop.NoMemory old new n events)

-- out of memory before it came to an end: while the input was read and judged, or over the hub
abbrev pub ElementLacked : ℕ → ℕ → ℕ → ℕ → ℕ × ℕ → ℕ × ℕ → Option (List ℕ) → Option (List ℕ) → Option Held → Option Held → Type 0
ElementLacked limit id ce turns source hub before left old new =
    NoneRose source hub
    × (((bytes : List ℕ) × Consumes before left bytes × (length bytes ≤ limit) × (new ≡ old))
    ⊎ ((bytes : List ℕ) × LookEnds limit (Ok look.Whole) bytes before left × MeansLibrary bytes × HubLacked (node_by id ce bytes) turns old new))

-- How `element` ends: what was read, what was done on the hub, and what was written, with the counts of failures of the source and of the hub.
abbrev pub ElementEnds : ℕ → ℕ → ℕ → ℕ → ℕ × ℕ → ℕ × ℕ → Result ElementEnd Stop → Option (List ℕ) → Option (List ℕ) → Option Held → Option Held → Option (List ℕ) → Option (List ℕ) → Type 0
ElementEnds limit id ce turns source hub how before left old new text now =
    CommandEnds ElementEnd (ElementWent limit id ce turns source hub before left old new) (ElementLacked limit id ce turns source hub before left old new) how text now

-- the same of the hub and of what was written alone, once the input was read whole
abbrev pub DocumentWent : ℕ → ℕ → ℕ → List ℕ → ℕ × ℕ → Option Held → Option Held → ElementEnd → List ℕ → Type 0
DocumentWent id ce turns bytes hub old new end written =
    (events : List HubEvent) × (look_of end ≡ look.Whole) × JudgedSo end bytes × ActedSo (node_by id ce bytes) turns end events old new
    × (written ≡ element_text (node_by id ce bytes) end bytes events) × RoseIf (is_unserved end) hub.0 hub.1

abbrev pub DocumentLacked : ℕ → ℕ → ℕ → List ℕ → ℕ × ℕ → Option Held → Option Held → Type 0
DocumentLacked id ce turns bytes hub old new = (hub.1 ≡ hub.0) × ((new ≡ old) ⊎ (MeansLibrary bytes × HubLacked (node_by id ce bytes) turns old new))

abbrev pub DocumentEnds : ℕ → ℕ → ℕ → List ℕ → ℕ × ℕ → Result ElementEnd Stop → Option Held → Option Held → Option (List ℕ) → Option (List ℕ) → Type 0
DocumentEnds id ce turns bytes hub how old new text now =
    CommandEnds ElementEnd (DocumentWent id ce turns bytes hub old new) (DocumentLacked id ce turns bytes hub old new) how text now

-- the endings over the hub
abbrev pub IsRun : ElementEnd → Type 0
IsRun Done = ⊤
IsRun Turns = ⊤
IsRun HubFault = ⊤
IsRun Refused = ⊥
IsRun ReadFault = ⊥
IsRun TooLong = ⊥

-- the same once the document was seen to mean a library, whatever its bytes are, with the node of an element with that
abbrev pub RunWent : NodeState → ℕ → ℕ × ℕ → Option Held → Option Held → ElementEnd → List ℕ → Type 0
RunWent n turns hub old new end written =
    (events : List HubEvent) × IsRun end × ActedSo n turns end events old new × (written ≡ element_text n end [] events) × RoseIf (is_unserved end) hub.0 hub.1

abbrev pub RunLacked : NodeState → ℕ → ℕ × ℕ → Option Held → Option Held → Type 0
RunLacked n turns hub old new = (hub.1 ≡ hub.0) × HubLacked n turns old new

abbrev pub RunEnds : NodeState → ℕ → ℕ × ℕ → Result ElementEnd Stop → Option Held → Option Held → Option (List ℕ) → Option (List ℕ) → Type 0
RunEnds n turns hub how old new text now = CommandEnds ElementEnd (RunWent n turns hub old new) (RunLacked n turns hub old new) how text now

-- the end of an element whose node ended so
abbrev pub end_by : Served → ElementEnd
end_by served.Over = Done
end_by served.Turns = Turns

-- the status of each ending
abbrev pub element_status : Result ElementEnd Stop → ℕ
element_status (Ok Done) = 0
element_status (Ok ReadFault) = 2
element_status (Ok HubFault) = 4
element_status (Ok Refused) = 5
element_status (Ok Turns) = 10
element_status (Ok TooLong) = 12
element_status (Err stop) = stop_status stop
