use Rattle.fc_control.specs.ControlNode.{begins_next, forgets_last}
use Rattle.fc_control.specs.Controls.{control_of}
use Rattle.fc_control.proofs.Joined.{first_until, then_acts, then_state, then_until}
use Rattle.fc_control.proofs.control.Control.go_on.Goals as goal

pub returns-in-Ok-clause-ok : goal.returns-in-Ok-clause-ok
returns-in-Ok-clause-ok g c = then_state _ (begins_next (control_of c.args.self.now)) forgets_last (control_of c.begin_next.new.self) _ c.in-Ok.ensures.ok c.forget.ensures.ok

pub returns-in-Ok-clause-acts : goal.returns-in-Ok-clause-acts
returns-in-Ok-clause-acts g c = then_acts _ _ _ _ (begins_next (control_of c.args.self.now)) forgets_last (control_of c.begin_next.new.self) c.in-Ok.ensures.ok c.in-Ok.ensures.acts c.forget.ensures.acts

pub returns-in-Ok-clause-err : goal.returns-in-Ok-clause-err
returns-in-Ok-clause-err g c = then_until _ _ _ _ (begins_next (control_of c.args.self.now)) forgets_last (control_of c.begin_next.new.self) c.in-Ok.ensures.ok c.in-Ok.ensures.acts c.forget.ensures.err

pub returns-in-Err-clause-err : goal.returns-in-Err-clause-err
returns-in-Err-clause-err g c = first_until c.in-Err.stop _ _ (begins_next (control_of c.args.self.now)) forgets_last c.in-Err.ensures.err
