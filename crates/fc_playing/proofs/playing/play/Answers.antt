use Rattle.fc_playing.proofs.Plays.{all_made, goes_on, round_next, said_next, stops_at}
use Rattle.fc_playing.proofs.playing.play.Goals as goal

pub make_step-requires : goal.make_step-requires
make_step-requires c = round_next c.args.steps.now c.loop-step.step-index c.step-item.result c.loop-step-test.true c.step-item.is c.loop-step.invariant.said

pub loop-step-preserved : goal.loop-step-preserved
loop-step-preserved c =
    let x = c.step-item.result in record {
      come = goes_on _ c.loop-step.world c.make_step.new.world c.args.steps.now c.loop-step.step-index x _ c.loop-step-test.true c.step-item.is
          c.in_default.is c.in_ok-fault.ensures c.loop-step.invariant.come;
      said = (said_next c.args.steps.now c.loop-step.step-index x c.loop-step-test.true c.step-item.is c.loop-step.invariant.said).1;
    }

pub returns-in-Some : goal.returns-in-Some
returns-in-Some c =
    stops_at _ c.in-Some.fault c.loop-step.world c.make_step.new.world c.args.steps.now c.loop-step.step-index c.step-item.result _ c.loop-step-test.true c.step-item.is
    c.in-Some.is c.in_ok-fault.ensures c.loop-step.invariant.come

pub returns : goal.returns
returns c = all_made c.loop-step.world c.args.steps.now c.loop-step.step-index _ c.loop-step-test.false c.loop-step.invariant.come
