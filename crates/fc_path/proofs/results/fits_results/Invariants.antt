use Rattle.std.proofs.Common.{take, map, Some}
use Rattle.fc_path.specs.Canon.{joined, select_written}
use Rattle.fc_path.specs.Results.{Held, select_results}
use Rattle.fc_path.proofs.results.fits_results.Given as goal

abbrev pub invariant-loop-select : goal.invariant-loop-select
invariant-loop-select l = Held 262117 (Some l.sum) (joined (map (λ s. joined (map select_written (select_results s))) (take l.select-index l.selects)))
