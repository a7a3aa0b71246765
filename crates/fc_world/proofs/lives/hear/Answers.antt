use Rattle.std.proofs.Common.{refl}
use Rattle.fc_world.specs.Stages.{ruling_of}
use Rattle.fc_world.proofs.Asking.{ruling_is}
use Rattle.fc_world.proofs.lives.hear.Goals as goal

pub returns-clause-ok : goal.returns-clause-ok
returns-clause-ok c = λ k. (refl, c.in_ok-outs.ensures.outs k, ruling_is _ _ (ruling_of c.step.new.self) c.in_ok-outs.ensures.life (c.in_ok-outs.ensures.core k))
