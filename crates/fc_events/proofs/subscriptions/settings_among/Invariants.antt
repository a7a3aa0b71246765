use Rattle.std.proofs.Common.{◌≡◌, drop}
use Rattle.fc_events.specs.Subscribing.{settings_at}
use Rattle.fc_events.proofs.subscriptions.settings_among.Given as goal

abbrev pub invariant-loop-subscription : goal.invariant-loop-subscription
invariant-loop-subscription l = settings_at l.place l.subscriptions ≡ settings_at l.place (drop l.subscription-index l.subscriptions)
