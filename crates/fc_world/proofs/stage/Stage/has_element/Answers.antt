use Rattle.std.proofs.Common.{ap, is_some, ◌∙◌}
use Rattle.fc_world.specs.Lookups.{element_in}
use Rattle.fc_world.proofs.Telling.{is_copied}
use Rattle.fc_world.proofs.stage.Stage.has_element.Goals as goal

pub returns : goal.returns
returns c = c.is_some.ensures ∙ is_copied c.element_of.result ∙ ap is_some c.element_of.ensures ∙ ap (λ l. is_some (element_in c.args.id l)) c.as_slice.ensures.value
