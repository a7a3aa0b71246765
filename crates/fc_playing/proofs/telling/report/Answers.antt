use Rattle.std.proofs.Common.{◌∙◌, ◌++◌, ap, subst, OnErr}
use Rattle.fc_base.specs.Content.{AppendsFront}
use Rattle.fc_world.specs.Played.{report_of}
use Rattle.fc_playing.proofs.telling.report.Goals as goal

pub returns-in-Ok-clause-err : goal.returns-in-Ok-clause-err
returns-in-Ok-clause-err g c =
    subst (λ l. OnErr c.ending.result (AppendsFront (g.K.Sink.written c.args.out.now) (g.K.Sink.written c.ending.new.out) l))
    (c.as_slice.ensures.value ∙ c.in-Ok.ensures.ok ∙ ap (λ l. l ++ report_of c.args.world.now) c.new-text.ensures.items) c.ending.ensures.err
