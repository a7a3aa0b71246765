use Rattle.std.proofs.Common.{subst, sym}
use Rattle.std.specs.List.{AllByRecursion}
use Rattle.fc_scripts.specs.Kept.{CanBeSaid}
use Rattle.fc_world.specs.Played.{setting_of, world_of}
use Rattle.fc_playing.proofs.Ending.{all_played, faulted_ends, network_of, one_fails, reported_ends, unplayed_ends}
use Rattle.fc_playing.proofs.command.played_world.Goals as goal

pub play-requires : goal.play-requires
play-requires g c = subst (AllByRecursion CanBeSaid) (sym c.steps.ensures.same) c.steps.ensures.script.said

pub returns-in-Err-clause-ends : goal.returns-in-Err-clause-ends
returns-in-Err-clause-ends g c = unplayed_ends (setting_of c.args.script.now) c.args.script.now.steps _

pub returns-in-Ok-None-clause-ends : goal.returns-in-Ok-None-clause-ends
returns-in-Ok-None-clause-ends g c =
    let s = c.args.script.now in
    reported_ends c.report.result (setting_of s) s.steps (world_of c.play.new.world) _ _ (network_of c.args.world.now (setting_of s) c.requires c.keeps.ensures.network)
    (all_played c.in-Ok-None.field-0 c.args.world.now (setting_of s) c.steps.result.now s.steps (world_of c.play.new.world) c.in-Ok-None.field-0-is c.requires c.steps.ensures.same c.in-Ok-None.ensures)
    c.report.ensures.end c.report.ensures.ok c.report.ensures.err

pub returns-in-Ok-Some-clause-ends : goal.returns-in-Ok-Some-clause-ends
returns-in-Ok-Some-clause-ends g c =
    let s = c.args.script.now in
    faulted_ends c.refuse_step.result (setting_of s) s.steps c.in-Ok-Some.fault _ _ (network_of c.args.world.now (setting_of s) c.requires c.keeps.ensures.network)
    (one_fails c.in-Ok-Some.field-0 c.in-Ok-Some.fault c.args.world.now (setting_of s) c.steps.result.now s.steps (world_of c.play.new.world) c.in-Ok-Some.field-0-is c.requires c.steps.ensures.same c.in-Ok-Some.ensures)
    c.refuse_step.ensures.end c.refuse_step.ensures.ok c.refuse_step.ensures.err
