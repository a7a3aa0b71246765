use Rattle.std.proofs.Common.{take, map, Ok}
use Rattle.fc_path.specs.Canon.{Pushed, joined, ilv_written}
use Rattle.fc_path.proofs.write.write_ilvs.Given as goal

abbrev pub invariant-loop-ilv : goal.invariant-loop-ilv
invariant-loop-ilv l = Pushed (Ok tt) l.fn.to l.to (joined (map ilv_written (take l.ilv-index l.ilvs)))
