use Rattle.std.proofs.Common.{◌≡◌, ◌++◌, drop}
use Rattle.std.specs.List.{flat_map}
use Rattle.fc_reply.specs.Counting.{oper_gets}
use Rattle.fc_reply.proofs.counting.push_select.Given as goal

abbrev pub invariant-loop-oper : goal.invariant-loop-oper
invariant-loop-oper l = l.to ++ flat_map (oper_gets l.code) (drop l.oper-index l.oper-items) ≡ l.fn.to ++ flat_map (oper_gets l.code) l.oper-items
