-- Of which events messages tell: RFC 5810, sections 7.8 and 7.1.6, on REPORT, and RFC 5812, section 4.8.5.
use Rattle.std.specs.Prelude.{ℕ, List, [], ◌∷◌}
use Rattle.std.specs.List.{flat_map}
use Rattle.fc_events.specs.Events.{place}
use Rattle.fc_events.specs.declared.subscriptions.EventPlace.{EventPlace}
use Rattle.fc_msg.specs.declared.message.MsgBody.{MsgBody}
use Rattle.fc_msg.specs.declared.message.MsgBody.TheVariants.{Event}
use Rattle.fc_path.specs.declared.oper.Oper.{Oper}
use Rattle.fc_path.specs.declared.oper.Oper.TheVariants as oper
use Rattle.fc_path.specs.declared.oper.Select.{Select}
use Rattle.fc_path.specs.declared.path.PathData.{PathData}
use Rattle.fc_performing.specs.declared.out.Out.{Out}

-- IDs of steps tell of the event behind the base of the events, where they are these two
abbrev pub told_at : ℕ → ℕ → List ℕ → List EventPlace
told_at class instance [] = []
told_at class instance (base ∷ []) = []
told_at class instance (base ∷ event ∷ []) = place class instance event ∷ []
told_at class instance (base ∷ event ∷ id ∷ ids) = []

abbrev pub told_path : ℕ → ℕ → PathData → List EventPlace
told_path class instance path = told_at class instance path.ids

abbrev pub told_oper : ℕ → ℕ → Oper → List EventPlace
told_oper class instance (oper.Paths kind paths) = flat_map (told_path class instance) paths
told_oper class instance oper.Commit = []
told_oper class instance oper.Trcomp = []
told_oper class instance (oper.CommitResponse code) = []

abbrev pub told_select : Select → List EventPlace
told_select select = flat_map (told_oper select.class select.instance) select.opers

-- an event notification alone tells of events
abbrev pub told_body : MsgBody → List EventPlace
told_body (Event selects) = flat_map told_select selects
told_body _ = []

abbrev pub told_out : Out → List EventPlace
told_out o = told_body o.message.body

-- the events of which messages tell, one after the other
abbrev pub told_by : List Out → List EventPlace
told_by outs = flat_map told_out outs
