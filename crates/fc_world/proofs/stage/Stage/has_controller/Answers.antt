use Rattle.std.proofs.Common.{ap, is_some, map, ◌∙◌}
use Rattle.fc_world.specs.Lookups.{controller_in}
use Rattle.fc_world.specs.Stages.{standing_of}
use Rattle.fc_world.proofs.Telling.{is_mapped}
use Rattle.fc_world.proofs.stage.Stage.has_controller.Goals as goal

pub returns : goal.returns
returns c =
    c.is_some.ensures ∙ is_mapped (λ s. standing_of s.now) c.controller_of.result ∙ ap is_some c.controller_of.ensures ∙ ap (λ l. is_some (controller_in c.from.result (map standing_of l))) c.as_slice.ensures.value
    ∙ ap (λ n. is_some (controller_in n (map standing_of c.args.self.now.controllers.items))) c.from.ensures
