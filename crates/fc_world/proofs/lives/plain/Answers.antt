use Rattle.std.proofs.Common.{Some, ap, ◌∙◌}
use Rattle.fc_jobs.specs.Sending.{spelled}
use Rattle.fc_master.specs.Masters.{core_of}
use Rattle.fc_protocol.specs.MasterMachine.{sends_one}
use Rattle.fc_protocol.specs.Messages.{Plain}
use Rattle.fc_world.specs.Stages.{ruling_of}
use Rattle.fc_world.proofs.Asking.{ruling_is}
use Rattle.fc_world.proofs.lives.plain.Goals as goal

pub returns-in-Ok-clause-ok : goal.returns-in-Ok-clause-ok
returns-in-Ok-clause-ok c = λ k. (
  c.in-Ok.ensures.accepted,
  c.in-Ok.ensures.outs k ∙ ap (λ l. spelled l (sends_one k (core_of c.args.master.now) c.args.element (Some Plain)).says) c.in-Ok.ensures.life,
  ruling_is _ _ (ruling_of c.plain.new.self) c.in-Ok.ensures.life (c.in-Ok.ensures.core k),
)
