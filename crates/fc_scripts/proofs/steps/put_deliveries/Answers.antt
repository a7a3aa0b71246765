use Rattle.std.proofs.Common.{rules}
use Rattle.fc_scripts.proofs.Stepping.{next_delivery}
use Rattle.fc_scripts.proofs.steps.put_deliveries.Goals as goal

pub loop-message-preserved : goal.loop-message-preserved
loop-message-preserved c =
    next_delivery c.args.place c.loop-message.message c.args.last c.loop-message.steps.items c.push.new.self.items _ c.in_ok-push.ensures.items c.loop-message.invariant (search rules)
