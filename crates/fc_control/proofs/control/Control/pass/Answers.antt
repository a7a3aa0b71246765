use Rattle.fc_master.specs.declared.input.CeIn.TheVariants.{Moment}
use Rattle.fc_control.specs.ControlNode.{gives_up_come, takes}
use Rattle.fc_control.specs.Controls.{control_of}
use Rattle.fc_control.proofs.Joined.{first_until, then_acts, then_state, then_until}
use Rattle.fc_control.proofs.control.Control.pass.Goals as goal

pub returns-in-Ok-clause-ok : goal.returns-in-Ok-clause-ok
returns-in-Ok-clause-ok g c = then_state _ (takes (Moment c.args.now) (control_of c.args.self.now)) (gives_up_come c.args.now) (control_of c.take.new.self) _ c.in-Ok.ensures.ok c.give_up_come.ensures.ok

pub returns-in-Ok-clause-acts : goal.returns-in-Ok-clause-acts
returns-in-Ok-clause-acts g c = then_acts _ _ _ _ (takes (Moment c.args.now) (control_of c.args.self.now)) (gives_up_come c.args.now) (control_of c.take.new.self) c.in-Ok.ensures.ok c.in-Ok.ensures.acts c.give_up_come.ensures.acts

pub returns-in-Ok-clause-err : goal.returns-in-Ok-clause-err
returns-in-Ok-clause-err g c = then_until _ _ _ _ (takes (Moment c.args.now) (control_of c.args.self.now)) (gives_up_come c.args.now) (control_of c.take.new.self) c.in-Ok.ensures.ok c.in-Ok.ensures.acts c.give_up_come.ensures.err

pub returns-in-Err-clause-err : goal.returns-in-Err-clause-err
returns-in-Err-clause-err g c = first_until c.in-Err.stop _ _ (takes (Moment c.args.now) (control_of c.args.self.now)) (gives_up_come c.args.now) c.in-Err.ensures.err
