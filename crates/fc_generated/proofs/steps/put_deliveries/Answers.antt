use Rattle.std.proofs.Common.{rules}
use Rattle.fc_scripts.specs.Steps.{delivery}
use Rattle.fc_generated.proofs.Ranges.{no_more, one_more}
use Rattle.fc_generated.proofs.steps.put_deliveries.Goals as goal

pub loop-message-preserved : goal.loop-message-preserved
loop-message-preserved c =
    one_more (delivery c.args.place) c.loop-message.message c.args.behind c.loop-message.steps.items c.push.new.self.items _ c.in_ok-push.ensures.items c.loop-message.invariant (search rules)

pub returns : goal.returns
returns c = no_more (delivery c.args.place) c.loop-message.message c.args.behind c.loop-message.steps.items _ c.loop-message.invariant (search rules)
