use Rattle.std.proofs.Common.{◌==◌, not, rules}
use Rattle.std.proofs.lemmas.Fn.{filter_same}
use Rattle.fc_modes.proofs.copying_map.take_out.Goals as goal

pub returns : goal.returns
returns c = filter_same _ (λ entry. not (entry.0 == c.args.key)) _ (λ x b f r. search rules) _ _ c.retain.ensures.filtered
