-- The report on a control element with a plan: that of its master, and a line for each transaction of the plan that was not begun. This profile's own.
use Rattle.std.specs.Prelude.{ℕ, ◌&&◌, nat_le, Bool, List, ◌++◌, drop, length, codes}
use Rattle.std.specs.List.{flat_map, list_all}
use Rattle.fc_protocol.specs.Jobs.{is_settled}
use Rattle.fc_master.specs.Reports as master
use Rattle.fc_control.specs.ControlNode.{ControlState}
use Rattle.fc_documents.specs.declared.transaction.PlanTxn.{PlanTxn}

abbrev pub unbegun : ControlState → List PlanTxn
unbegun n = drop (length n.begun) n.plan

unfoldable pub unbegun_line : List ℕ → List ℕ
unbegun_line name = codes "unbegun " ++ (name ++ codes "\n")

abbrev pub report_of : ControlState → List ℕ
report_of n = master.report_of n.core ++ flat_map (λ (t : PlanTxn). unbegun_line t.name) (unbegun n)

-- whether every transaction of the plan is begun, and every job settled
abbrev pub is_done : ControlState → Bool
is_done n = nat_le (length n.plan) (length n.begun) && list_all is_settled n.core.jobs
