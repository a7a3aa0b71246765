use Rattle.fc_world.specs.Played.{world_of}
use Rattle.fc_world.proofs.Going.{goes_on, has_gone_on}
use Rattle.fc_world.proofs.trail.Trail.go_on.Goals as goal

pub loop-preserved : goal.loop-preserved
loop-preserved c = goes_on (world_of c.args.world.now).sent c.args.self.now c.loop.self c.pass_next.new.self c.in_ok-pass_next.ensures.ok c.loop.invariant

pub returns-clause-ok : goal.returns-clause-ok
returns-clause-ok c =
    has_gone_on (world_of c.args.world.now).sent c.args.self.now c.loop.self c.pass_next.new.self c.in_ok-pass_next.field-0 c.in_ok-pass_next.ensures.ok c.in_ok-pass_next.ensures.told c.if-branch.false c.loop.invariant
