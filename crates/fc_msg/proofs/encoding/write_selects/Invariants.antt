use Rattle.std.proofs.Common.{take, map, Ok}
use Rattle.fc_path.specs.Canon.{Pushed, joined, select_written}
use Rattle.fc_msg.proofs.encoding.write_selects.Given as goal

abbrev pub invariant-loop-select : goal.invariant-loop-select
invariant-loop-select l = Pushed (Ok tt) l.fn.to l.to (joined (map select_written (take l.select-index l.selects)))
