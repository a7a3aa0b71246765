use Rattle.std.proofs.Common.{ap, subst, sym, vec_items}
use Rattle.fc_world.specs.Stages.{AreCounted}
use Rattle.fc_world.proofs.Acting.{took_stage}
use Rattle.fc_world.proofs.stage.Stage.take.Goals as goal

pub keep_outs-requires-clause-counted : goal.keep_outs-requires-clause-counted
keep_outs-requires-clause-counted c = subst (AreCounted 0) (sym c.reserve.ensures.items) c.requires.sound.counted

pub returns-clause-ok : goal.returns-clause-ok
returns-clause-ok c =
    (took_stage c.args.id c.args.input c.args.self.now c.keep_outs.new.self c.reserve.new.self.items c.step_in.new.nodes.items c.in_ok-outs.outs c.reserve.ensures.items c.in_ok-outs.ensures.outs
    c.in_ok-outs.ensures.ok c.in_ok-outs.ensures.proper c.keep_outs.ensures.sent (ap vec_items c.keep_outs.ensures.nodes) (ap vec_items c.keep_outs.ensures.controllers) (ap vec_items c.keep_outs.ensures.refused)
    c.requires.sound).0

pub returns-clause-sound : goal.returns-clause-sound
returns-clause-sound c =
    (took_stage c.args.id c.args.input c.args.self.now c.keep_outs.new.self c.reserve.new.self.items c.step_in.new.nodes.items c.in_ok-outs.outs c.reserve.ensures.items c.in_ok-outs.ensures.outs
    c.in_ok-outs.ensures.ok c.in_ok-outs.ensures.proper c.keep_outs.ensures.sent (ap vec_items c.keep_outs.ensures.nodes) (ap vec_items c.keep_outs.ensures.controllers) (ap vec_items c.keep_outs.ensures.refused)
    c.requires.sound).1
