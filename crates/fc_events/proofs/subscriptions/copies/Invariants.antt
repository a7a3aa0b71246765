use Rattle.std.proofs.Common.{◌≡◌, take}
use Rattle.fc_events.proofs.subscriptions.copies.Given as goal

abbrev pub invariant-loop-subscription : goal.invariant-loop-subscription
invariant-loop-subscription l = l.others.items ≡ take l.subscription-index l.subscriptions
