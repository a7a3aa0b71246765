use Rattle.std.proofs.Common.{not, rules}
use Rattle.std.proofs.lemmas.Fn.{filter_same}
use Rattle.fc_assoc.specs.Associations.{is_past}
use Rattle.fc_assoc.proofs.silence.keep_heard.Goals as goal

pub returns : goal.returns
returns c = filter_same _ (λ pair. not (is_past pair.1 c.args.now c.args.dead)) _ (λ x b f r. search rules) _ _ c.retain.ensures.filtered
