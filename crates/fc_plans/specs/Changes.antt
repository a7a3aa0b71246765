-- What changes an element: selects whose operations are SET, DEL and SET-PROP (RFC 5810, section 7.6.1), in a message of a transaction
-- that fits, and whose response fits. This profile's own.
use Rattle.std.specs.Prelude.{ℕ, ◌==◌, ◌&&◌, ◌||◌, Bool, true, false, not, List, [], ◌∷◌, length, replicate, Option, Some, None, if◌then◌else◌}
use Rattle.std.specs.List.{list_all}
use Rattle.fc_path.specs.Results.{results_fit}
use Rattle.fc_path.specs.declared.oper.OperKind.{OperKind}
use Rattle.fc_path.specs.declared.oper.OperKind.TheVariants as kinds
use Rattle.fc_path.specs.declared.oper.Oper.{Oper}
use Rattle.fc_path.specs.declared.oper.Oper.TheVariants as oper
use Rattle.fc_path.specs.declared.oper.Select.{Select}
use Rattle.fc_path.specs.declared.path.Key.{Key}
use Rattle.fc_path.specs.declared.path.PathData.{PathData}
use Rattle.fc_path.specs.declared.path.Body.{Body, out-Body}
use Rattle.fc_path.specs.declared.path.Body.TheOpen.{Body-F}
use Rattle.fc_msg.specs.Messages.{message_fits}
use Rattle.fc_msg.specs.declared.message.Message.{Message}
use Rattle.fc_msg.specs.declared.message.MsgBody.TheVariants.{Config}
use Rattle.fc_plans.specs.Components as components
use Rattle.fc_plans.specs.Mastership.{behind}
use Rattle.fc_plans.specs.declared.fault.ChangeFault.{ChangeFault}
use Rattle.fc_plans.specs.declared.fault.ChangeFault.TheVariants as fault

abbrev pub is_changing : OperKind → Bool
is_changing kinds.Set = true
is_changing kinds.SetProp = true
is_changing kinds.Del = true
is_changing kinds.SetResponse = false
is_changing kinds.SetPropResponse = false
is_changing kinds.DelResponse = false
is_changing kinds.Get = false
is_changing kinds.GetProp = false
is_changing kinds.GetResponse = false
is_changing kinds.GetPropResponse = false
is_changing kinds.Report = false

abbrev pub changes : Oper → Bool
changes (oper.Paths kind paths) = is_changing kind
changes oper.Commit = false
changes oper.Trcomp = false
changes (oper.CommitResponse code) = false

abbrev pub all_change : List Select → Bool
all_change selects = list_all (λ (s : Select). list_all changes s.opers) selects

-- what tells an element to forget: one select of Mastership with one SET of the floor, to eight bytes
abbrev pub has_eight : Body-F Body PathData → Bool
has_eight Body-F.Nothing = false
has_eight (Body-F.Full value) = length value == 8
has_eight (Body-F.Sparse ilvs) = false
has_eight (Body-F.Outcome code) = false
has_eight (Body-F.Nested paths) = false

abbrev pub is_floor_id : List ℕ → Bool
is_floor_id [] = false
is_floor_id (id ∷ []) = id == components.floor
is_floor_id (id ∷ other ∷ ids) = false

abbrev pub has_no_key : Option Key → Bool
has_no_key None = true
has_no_key (Some key) = false

abbrev pub is_floor_path : PathData → Bool
is_floor_path p = is_floor_id p.ids && (has_no_key p.key && has_eight (out-Body p.body))

abbrev pub is_floor_paths : List PathData → Bool
is_floor_paths [] = false
is_floor_paths (p ∷ []) = is_floor_path p
is_floor_paths (p ∷ q ∷ ps) = false

abbrev pub is_set : OperKind → Bool
is_set kinds.Set = true
is_set kinds.SetProp = false
is_set kinds.Del = false
is_set kinds.SetResponse = false
is_set kinds.SetPropResponse = false
is_set kinds.DelResponse = false
is_set kinds.Get = false
is_set kinds.GetProp = false
is_set kinds.GetResponse = false
is_set kinds.GetPropResponse = false
is_set kinds.Report = false

abbrev pub is_floor_oper : Oper → Bool
is_floor_oper (oper.Paths kind paths) = is_set kind && is_floor_paths paths
is_floor_oper oper.Commit = false
is_floor_oper oper.Trcomp = false
is_floor_oper (oper.CommitResponse code) = false

abbrev pub is_floor_opers : List Oper → Bool
is_floor_opers [] = false
is_floor_opers (o ∷ []) = is_floor_oper o
is_floor_opers (o ∷ other ∷ os) = false

abbrev pub is_floor : List Select → Bool
is_floor [] = false
is_floor (s ∷ []) = s.class == components.mastership && (s.instance == 1 && is_floor_opers s.opers)
is_floor (s ∷ t ∷ ss) = false

-- a message of a transaction that makes a change, its header and the name of the transaction aside, on which its length does not depend
abbrev pub no_name : List ℕ
no_name = replicate 8 0

abbrev pub carrying : List Select → Message
carrying selects = record { source = 0; dest = 0; corr = 0; flags = record { ack = 0; pri = 0; em = 0; at = false; tp = 0 }; body = Config selects }

abbrev pub is_short : List Select → Bool
is_short selects = results_fit selects && message_fits (carrying selects)

-- why selects are no change: the first of these
abbrev pub change_fault : List Select → Option ChangeFault
change_fault [] = Some fault.Empty
change_fault (s ∷ ss) = if not (all_change (s ∷ ss)) || is_floor (s ∷ ss) then Some fault.Operation else (if is_short (behind no_name (s ∷ ss)) then None else Some fault.TooLong)
