use Rattle.fc_master.specs.declared.input.CeIn.TheVariants.{Arrived}
use Rattle.fc_control.specs.ControlNode.{goes_on, takes}
use Rattle.fc_control.specs.Controls.{control_of}
use Rattle.fc_control.proofs.Joined.{first_until, then_acts, then_state, then_until}
use Rattle.fc_control.proofs.control.Control.arrived.Goals as goal

pub returns-in-Ok-clause-ok : goal.returns-in-Ok-clause-ok
returns-in-Ok-clause-ok g c = then_state _ (takes (Arrived c.args.element c.args.message) (control_of c.args.self.now)) goes_on (control_of c.take.new.self) _ c.in-Ok.ensures.ok c.go_on.ensures.ok

pub returns-in-Ok-clause-acts : goal.returns-in-Ok-clause-acts
returns-in-Ok-clause-acts g c = then_acts _ _ _ _ (takes (Arrived c.args.element c.args.message) (control_of c.args.self.now)) goes_on (control_of c.take.new.self) c.in-Ok.ensures.ok c.in-Ok.ensures.acts c.go_on.ensures.acts

pub returns-in-Ok-clause-err : goal.returns-in-Ok-clause-err
returns-in-Ok-clause-err g c = then_until _ _ _ _ (takes (Arrived c.args.element c.args.message) (control_of c.args.self.now)) goes_on (control_of c.take.new.self) c.in-Ok.ensures.ok c.in-Ok.ensures.acts c.go_on.ensures.err

pub returns-in-Err-clause-err : goal.returns-in-Err-clause-err
returns-in-Err-clause-err g c = first_until c.in-Err.stop _ _ (takes (Arrived c.args.element c.args.message) (control_of c.args.self.now)) goes_on c.in-Err.ensures.err
