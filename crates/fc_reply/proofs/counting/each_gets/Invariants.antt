use Rattle.std.proofs.Common.{◌≡◌, ◌++◌, drop}
use Rattle.std.specs.List.{flat_map}
use Rattle.fc_reply.specs.Counting.{select_gets}
use Rattle.fc_reply.proofs.counting.each_gets.Given as goal

abbrev pub invariant-loop-select : goal.invariant-loop-select
invariant-loop-select l = l.codes ++ flat_map (select_gets l.code) (drop l.select-index l.selects) ≡ flat_map (select_gets l.code) l.selects
