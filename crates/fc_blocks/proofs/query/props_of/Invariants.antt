use Rattle.std.proofs.Common.{◌≡◌, take}
use Rattle.fc_blocks.specs.Queries.{props_of}
use Rattle.fc_blocks.proofs.query.props_of.Given as goal

abbrev pub invariant-loop-question : goal.invariant-loop-question
invariant-loop-question g l = l.props.items ≡ props_of (g.L.Live.told l.live) l.store l.subscriptions (take l.question-index l.question-items)
