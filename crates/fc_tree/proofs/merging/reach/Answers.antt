use Rattle.std.proofs.Common.{arith}
use Rattle.fc_tree.proofs.Positions.{item_at}
use Rattle.fc_tree.proofs.Merges.{is_here}
use Rattle.fc_tree.proofs.Rooms.{belongs_here}
use Rattle.fc_tree.proofs.merging.reach.Goals as goal

pub returns-then-entry-subscript-clause-place : goal.returns-then-entry-subscript-clause-place
returns-then-entry-subscript-clause-place c = is_here c.args.subscript c.loop-place.place c.args.entries.now c.index-entries-place.result (omega arith) c.loop-place.invariant c.index-entries-place.is (omega arith)

pub returns-then-entry-subscript-2-clause-place : goal.returns-then-entry-subscript-2-clause-place
returns-then-entry-subscript-2-clause-place c = belongs_here c.args.subscript c.loop-place.place c.args.entries.now (omega arith) c.loop-place.invariant
    (λ lt d. rw (item_at c.args.entries.now c.loop-place.place c.index-entries-place.result d lt c.index-entries-place.is) c.if-entry-subscript-2.true)

pub returns-clause-place : goal.returns-clause-place
returns-clause-place c = belongs_here c.args.subscript _ c.args.entries.now (omega arith) (λ k d a b. c.loop-place.invariant k d a (omega arith)) (λ lt d. absurd (omega arith))
