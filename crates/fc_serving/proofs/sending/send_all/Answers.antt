use Rattle.std.proofs.Common.{◌∙◌, refl}
use Rattle.fc_peers.proofs.Acts.{acts_none}
use Rattle.fc_serving.proofs.Sendings.{sent_more, sent_until}
use Rattle.fc_serving.proofs.sending.send_all.Goals as goal

pub loop-out-init : goal.loop-out-init
loop-out-init g c = record { done = acts_none _; count = refl }

pub loop-out-preserved : goal.loop-out-preserved
loop-out-preserved g c = record {
  done = sent_more _ _ _ c.args.outs.now c.loop-out.out-index c.out-item.result c.loop-out-test.true c.out-item.is c.loop-out.invariant.done c.in-Ok.ensures.ok;
  count = c.in-Ok.ensures.count ∙ c.loop-out.invariant.count;
}

pub returns-in-Err-clause-err : goal.returns-in-Err-clause-err
returns-in-Err-clause-err g c =
    sent_until c.in-Err.stop _ _ _ c.args.outs.now c.loop-out.out-index c.out-item.result c.loop-out-test.true c.out-item.is c.loop-out.invariant.done c.in-Err.ensures.err
