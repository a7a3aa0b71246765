use Rattle.std.proofs.Common.{refl, arith}
use Rattle.fc_asks.proofs.Numbered.{instances_more}
use Rattle.fc_asks.proofs.requests.put_instances.Goals as goal

pub loop-at-preserved : goal.loop-at-preserved
loop-at-preserved c = instances_more c.loop-at.bytes.items c.put_number.new.bytes.items c.put_number-in-loop-at.new.bytes.items c.put_number-in-loop-at-2.new.bytes.items _ c.args.scope.now c.loop-at.at _ _ (0, 0)
    (omega arith) refl refl c.in_ok-put_number.ensures c.in_ok-put_number-2.ensures c.in_ok-put_number-3.ensures c.loop-at.invariant
