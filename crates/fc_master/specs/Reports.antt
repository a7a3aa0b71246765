-- The report on a control element: a line with its number, the round, the epoch and the greater epoch that has deposed it, and one on each transaction. This profile's own.
use Rattle.std.specs.Prelude.{ℕ, ◌/◌, ◌%◌, List, ◌++◌, Option, Some, None, codes, decimal, if◌then◌else◌}
use Rattle.std.specs.List.{flat_map}
use Rattle.fc_base.specs.Ids.{Txn, txn_text}
use Rattle.fc_protocol.specs.Jobs.{Job, is_settled}
use Rattle.fc_protocol.specs.MasterMachine.{Master}
use Rattle.fc_protocol.specs.declared.states.Decision.{Decision}
use Rattle.fc_protocol.specs.declared.states.Decision.TheVariants as decision

-- an epoch is 256 times the round, and the number of the control element
unfoldable pub life_line : ℕ → Option ℕ → List ℕ
life_line e None = codes "controller " ++ (decimal (e % 256) ++ (codes " round " ++ (decimal (e / 256) ++ (codes " epoch " ++ (decimal e ++ codes "\n")))))
life_line e (Some seen) = codes "controller " ++ (decimal (e % 256) ++ (codes " round " ++ (decimal (e / 256) ++ (codes " epoch " ++ (decimal e ++ (codes " deposed " ++ (decimal seen ++ codes "\n")))))))

-- what has become of a transaction at all its participants; none while it is not settled
abbrev pub outcome : Job → Option Decision
outcome j = if is_settled j then j.decision else None

unfoldable pub txn_line : Txn → Option Decision → List ℕ
txn_line x None = codes "txn " ++ (txn_text x ++ codes " unsettled\n")
txn_line x (Some decision.Complete) = codes "txn " ++ (txn_text x ++ codes " completed\n")
txn_line x (Some decision.Abort) = codes "txn " ++ (txn_text x ++ codes " aborted\n")

abbrev pub job_line : Job → List ℕ
job_line j = txn_line j.txn (outcome j)

abbrev pub report_of : Master → List ℕ
report_of m = life_line m.epoch m.deposed ++ flat_map job_line m.jobs
