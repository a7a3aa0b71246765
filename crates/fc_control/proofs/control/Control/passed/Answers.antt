use Rattle.fc_master.specs.declared.input.CeIn.TheVariants.{Moment}
use Rattle.fc_control.specs.ControlNode.{and_then, gives_up_come, goes_on, takes}
use Rattle.fc_control.specs.Controls.{control_of}
use Rattle.fc_control.proofs.Joined.{first_until, then_acts, then_state, then_until}
use Rattle.fc_control.proofs.control.Control.passed.Goals as goal

pub returns-in-Ok-clause-ok : goal.returns-in-Ok-clause-ok
returns-in-Ok-clause-ok g c = then_state _ (and_then (takes (Moment c.args.now) (control_of c.args.self.now)) (gives_up_come c.args.now)) goes_on (control_of c.pass.new.self) _ c.in-Ok.ensures.ok c.go_on.ensures.ok

pub returns-in-Ok-clause-acts : goal.returns-in-Ok-clause-acts
returns-in-Ok-clause-acts g c = then_acts _ _ _ _ (and_then (takes (Moment c.args.now) (control_of c.args.self.now)) (gives_up_come c.args.now)) goes_on (control_of c.pass.new.self) c.in-Ok.ensures.ok c.in-Ok.ensures.acts c.go_on.ensures.acts

pub returns-in-Ok-clause-err : goal.returns-in-Ok-clause-err
returns-in-Ok-clause-err g c = then_until _ _ _ _ (and_then (takes (Moment c.args.now) (control_of c.args.self.now)) (gives_up_come c.args.now)) goes_on (control_of c.pass.new.self) c.in-Ok.ensures.ok c.in-Ok.ensures.acts c.go_on.ensures.err

pub returns-in-Err-clause-err : goal.returns-in-Err-clause-err
returns-in-Err-clause-err g c = first_until c.in-Err.stop _ _ (and_then (takes (Moment c.args.now) (control_of c.args.self.now)) (gives_up_come c.args.now)) goes_on c.in-Err.ensures.err
