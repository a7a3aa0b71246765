use Rattle.std.proofs.Common.{arith, sym}
use Rattle.fc_tree.proofs.Positions.{found_here, position_none}
use Rattle.fc_tree.proofs.find.place_with_key.Goals as goal

pub returns-then-branch : goal.returns-then-branch
returns-then-branch c = sym (found_here _ c.args.entries.now c.loop-place.place c.index-entries-place.result _ (omega arith) c.loop-place.invariant c.index-entries-place.is c.in_ok-has_key.ensures c.if-branch.true)

pub returns : goal.returns
returns c = sym (position_none _ c.args.entries.now (λ k d a b. c.loop-place.invariant k d a (omega arith)))
