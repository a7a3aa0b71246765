use Rattle.std.proofs.Common.{◌≡◌, drop}
use Rattle.fc_asks.specs.Plans.{changes_of}
use Rattle.fc_asks.proofs.life.changes_for.Given as goal

abbrev pub invariant-loop-part : goal.invariant-loop-part
invariant-loop-part l = changes_of l.element (drop l.part-index l.parts) ≡ changes_of l.element l.parts
