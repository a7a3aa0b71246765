use Rattle.std.proofs.Common.{◌≡◌, take}
use Rattle.fc_events.specs.Reports.{reports_but}
use Rattle.fc_events.proofs.reports.evaluate_each.Given as goal

abbrev pub invariant-loop-subscription : goal.invariant-loop-subscription
invariant-loop-subscription l = (l.others.items, l.notices.items) ≡ reports_but l.held l.store (take l.subscription-index l.subscriptions)
