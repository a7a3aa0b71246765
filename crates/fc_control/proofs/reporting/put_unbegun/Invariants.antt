use Rattle.std.proofs.Common.{◌≡◌, ◌++◌, take}
use Rattle.std.specs.List.{flat_map}
use Rattle.fc_control.specs.Reports.{unbegun_line}
use Rattle.fc_documents.specs.declared.transaction.PlanTxn.{PlanTxn}
use Rattle.fc_control.proofs.reporting.put_unbegun.Given as goal

abbrev pub invariant-loop-transaction : goal.invariant-loop-transaction
invariant-loop-transaction l = l.lines.items ≡ l.fn.lines.items ++ flat_map (λ (t : PlanTxn). unbegun_line t.name) (take l.transaction-index l.planned)
