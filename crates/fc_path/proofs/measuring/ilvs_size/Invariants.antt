use Rattle.std.proofs.Common.{take, map, Some}
use Rattle.fc_path.specs.Canon.{joined, ilv_written}
use Rattle.fc_path.specs.Results.{Held}
use Rattle.fc_path.proofs.measuring.ilvs_size.Given as goal

abbrev pub invariant-loop-ilv : goal.invariant-loop-ilv
invariant-loop-ilv l = Held 65532 (Some l.sum) (joined (map ilv_written (take l.ilv-index l.ilvs)))
