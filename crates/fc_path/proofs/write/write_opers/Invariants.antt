use Rattle.std.proofs.Common.{take, map, Ok}
use Rattle.fc_path.specs.Canon.{Pushed, joined, oper_written}
use Rattle.fc_path.proofs.write.write_opers.Given as goal

abbrev pub invariant-loop-oper : goal.invariant-loop-oper
invariant-loop-oper l = Pushed (Ok tt) l.fn.to l.to (joined (map oper_written (take l.oper-index l.opers)))
