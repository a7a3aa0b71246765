use Rattle.std.proofs.Common.{◌≡◌, take}
use Rattle.fc_element.proofs.live.numbers_of.Given as goal

abbrev pub invariant-loop-id : goal.invariant-loop-id
invariant-loop-id l = l.numbers ≡ take l.id-index l.ids
