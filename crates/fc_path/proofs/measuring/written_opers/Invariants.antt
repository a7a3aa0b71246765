use Rattle.std.proofs.Common.{take, map, Some}
use Rattle.fc_path.specs.Canon.{joined, oper_written}
use Rattle.fc_path.specs.Results.{Held}
use Rattle.fc_path.proofs.measuring.written_opers.Given as goal

abbrev pub invariant-loop-oper : goal.invariant-loop-oper
invariant-loop-oper l = Held 65524 (Some l.sum) (joined (map oper_written (take l.oper-index l.opers)))
