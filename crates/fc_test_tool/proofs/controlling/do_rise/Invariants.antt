use Rattle.std.proofs.Common.{◌≡◌, drop}
use Rattle.fc_hub.specs.Rounds.{rise_above}
use Rattle.fc_test_tool.proofs.controlling.do_rise.Given as goal

abbrev pub invariant-loop-number : goal.invariant-loop-number
invariant-loop-number l = rise_above l.last (drop l.number-index l.numbers) ≡ rise_above 0 l.numbers
