use Rattle.std.proofs.Common.{subst}
use Rattle.fc_endings.specs.Stops.{FlushedAt, SinkCount}
use Rattle.fc_endings.proofs.Endings.{finished_count}
use Rattle.fc_controlling.specs.declared.asked.ControlEnd.{ControlEnd}
use Rattle.fc_controlling.specs.ControlRun.{is_ungiven, is_unread, is_unserved}
use Rattle.fc_controlling.proofs.Ending.{control_finished}
use Rattle.fc_controlling.proofs.command.control.Goals as goal

pub returns-in-Ok-clause-ends : goal.returns-in-Ok-clause-ends
returns-in-Ok-clause-ends g c = control_finished c.in-Ok.end c.finished.result _ _ _ _ _ _ _ _ _ _ _ _ _ _ c.in-Ok.ensures.ends c.finished.ensures.end c.finished.ensures.same

pub returns-in-Ok-clause-source : goal.returns-in-Ok-clause-source
returns-in-Ok-clause-source g c = finished_count ControlEnd is_unread c.in-Ok.end c.finished.result _ _ c.in-Ok.ensures.source c.finished.ensures.end

pub returns-in-Ok-clause-rounds : goal.returns-in-Ok-clause-rounds
returns-in-Ok-clause-rounds g c = finished_count ControlEnd is_ungiven c.in-Ok.end c.finished.result _ _ c.in-Ok.ensures.rounds c.finished.ensures.end

pub returns-in-Ok-clause-hub : goal.returns-in-Ok-clause-hub
returns-in-Ok-clause-hub g c = finished_count ControlEnd is_unserved c.in-Ok.end c.finished.result _ _ c.in-Ok.ensures.hub c.finished.ensures.end

pub returns-in-Ok-clause-flushed : goal.returns-in-Ok-clause-flushed
returns-in-Ok-clause-flushed g c =
    subst (λ n. FlushedAt c.finished.result (g.K.Sink.written c.finished.new.out) n (g.K.Sink.flushed c.finished.new.out)) c.in-Ok.ensures.unflushed c.finished.ensures.flushed

pub returns-in-Ok-clause-sink : goal.returns-in-Ok-clause-sink
returns-in-Ok-clause-sink g c = subst (λ n. SinkCount c.finished.result n (g.K.Sink.faults c.finished.new.out)) c.in-Ok.ensures.sink c.finished.ensures.count
