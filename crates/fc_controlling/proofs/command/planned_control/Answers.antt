use Rattle.fc_controlling.proofs.Ending.{no_round_ends, run_ends, ungiven_ends, ungiven_lacks}
use Rattle.fc_controlling.proofs.command.planned_control.Goals as goal

pub returns-in-Some-clause-ends : goal.returns-in-Some-clause-ends
returns-in-Some-clause-ends g c =
    run_ends c.run.result c.args.asked.now c.args.plan c.in-Ok.round c.in-Some.epoch _ _ _ _ _ _ _ _ _ (c.in-Ok.ensures.ok, c.in-Ok.ensures.after) c.in-Ok.ensures.cause.ok c.in-Some.ensures.valid.0 c.in-Some.ensures.some c.run.ensures.ends

pub returns-in-None-clause-ends : goal.returns-in-None-clause-ends
returns-in-None-clause-ends g c =
    no_round_ends c.refuse_round.result c.in-Ok.round c.args.asked.now c.args.plan _ _ _ _ _ _ _ _ (c.in-Ok.ensures.ok, c.in-Ok.ensures.after) c.in-Ok.ensures.cause.ok c.in-None.ensures.none c.refuse_round.ensures.end c.refuse_round.ensures.ok
    c.refuse_round.ensures.err
