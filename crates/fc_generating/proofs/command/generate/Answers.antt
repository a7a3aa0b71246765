use Rattle.std.proofs.Common.{◌∙◌, subst}
use Rattle.fc_endings.proofs.Endings.{none_written}
use Rattle.fc_generating.specs.Runs.{TextEnds}
use Rattle.fc_generating.proofs.command.generate.Goals as goal

pub returns-in-Ok-clause-ends : goal.returns-in-Ok-clause-ends
returns-in-Ok-clause-ends g c =
    subst (λ t. TextEnds t c.write.result (g.K.Sink.written c.args.out.now) (g.K.Sink.written c.write.new.out)) (c.as_slice.ensures.value ∙ c.in-Ok.ensures) c.write.ensures.ends

pub returns-in-Err-clause-ends : goal.returns-in-Err-clause-ends
returns-in-Err-clause-ends g c = none_written _ _
