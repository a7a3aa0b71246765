use Rattle.std.proofs.Common.{take, map, Some}
use Rattle.fc_path.specs.Canon.{joined, select_written}
use Rattle.fc_path.specs.Results.{Held}
use Rattle.fc_msg.proofs.fitting.selects_fit.Given as goal

abbrev pub invariant-loop-select : goal.invariant-loop-select
invariant-loop-select l = Held 262117 (Some l.sum) (joined (map select_written (take l.select-index l.selects)))
