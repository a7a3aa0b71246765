-- How a notice is told: RFC 5810, section 7.1.6, on REPORT; and the event that the primary control element is gone: RFC 5810, appendix B;
-- its value, and who is told, is this profile's own.
use Rattle.std.specs.Prelude.{ℕ, ◌==◌, List, [], ◌∷◌, find, Option, Some, None, if◌then◌else◌}
use Rattle.fc_path.specs.declared.oper.Oper.TheVariants as oper
use Rattle.fc_path.specs.declared.oper.OperKind.TheVariants as kinds
use Rattle.fc_path.specs.declared.oper.Select.{Select}
use Rattle.fc_path.specs.declared.path.Body.TheVariants as body
use Rattle.fc_path.specs.declared.path.PathData.{PathData, roll-PathData}
use Rattle.fc_types.specs.declared.class.Class.{Class}
use Rattle.fc_wire.specs.Bytes.{u32_bytes}
use Rattle.fc_events.specs.Events.{place}
use Rattle.fc_events.specs.Subscribing.{is_registered}
use Rattle.fc_events.specs.declared.subscriptions.Notice.{Notice}
use Rattle.fc_events.specs.declared.subscriptions.Subscription.{Subscription}

abbrev pub base_of : Option Class → ℕ
base_of None = 0
base_of (Some class) = class.event_base

-- the ID under which the events of a class stand, and 0 where there is none
abbrev pub event_base : List Class → ℕ → ℕ
event_base library class = base_of (find (λ (c : Class). c.id == class) library)

-- the full form of a value at an event
abbrev pub report : ℕ → ℕ → List ℕ → PathData
report base event value = roll-PathData (record { ids = base ∷ event ∷ []; key = None; body = body.Full value })

abbrev pub reporting : ℕ → ℕ → PathData → Select
reporting class instance path = record { class = class; instance = instance; opers = oper.Paths kinds.Report (path ∷ []) ∷ [] }

-- the LFBselect of a notice
abbrev pub notice_select : List Class → Notice → Select
notice_select library n = reporting n.place.class n.place.instance (report (event_base library n.place.class) n.place.event n.value)

-- what a control element is told that remains, with its own ID, where the event is registered
abbrev pub primary_down : ℕ → List Subscription → Option Notice
primary_down ce subs = if is_registered 2 1 1 subs then Some (record { place = place 2 1 1; value = u32_bytes ce }) else None
