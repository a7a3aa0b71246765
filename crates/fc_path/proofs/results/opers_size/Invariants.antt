use Rattle.std.proofs.Common.{take, map, Some}
use Rattle.fc_path.specs.Canon.{joined, oper_written}
use Rattle.fc_path.specs.Results.{Held, oper_results}
use Rattle.fc_path.proofs.results.opers_size.Given as goal

abbrev pub invariant-loop-oper : goal.invariant-loop-oper
invariant-loop-oper l = Held 65532 (Some l.sum) (joined (map (λ o. joined (map oper_written (oper_results o))) (take l.oper-index l.opers)))
