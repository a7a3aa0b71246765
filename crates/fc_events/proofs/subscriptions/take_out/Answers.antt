use Rattle.std.proofs.Common.{not, rules}
use Rattle.std.proofs.lemmas.Fn.{filter_same}
use Rattle.fc_events.specs.Subscribing.{is_at}
use Rattle.fc_events.proofs.subscriptions.take_out.Goals as goal

pub returns : goal.returns
returns c = filter_same _ (λ s. not (is_at c.args.place s)) _ (λ x b f r. search rules) _ _ c.retain.ensures.filtered
