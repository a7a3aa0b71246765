use Rattle.std.proofs.Common.{◌≡◌, drop}
use Rattle.fc_protocol.specs.MasterMachine.{any_spent}
use Rattle.fc_asks.specs.Tables.{counts}
use Rattle.fc_master.specs.Masters.{core_of}
use Rattle.fc_master.proofs.master.Master.is_any_spent.Given as goal

abbrev pub invariant-loop-element : goal.invariant-loop-element
invariant-loop-element l = any_spent (core_of l.self) (drop l.element-index l.job.participants) (counts l.job.changes) ≡ any_spent (core_of l.self) l.job.participants (counts l.job.changes)
