use Rattle.fc_world.specs.Stages.{ruling_of}
use Rattle.fc_world.proofs.Asking.{asked}
use Rattle.fc_world.proofs.lives.ask.Goals as goal

pub returns-in-Hear-clause-ok : goal.returns-in-Hear-clause-ok
returns-in-Hear-clause-ok c = asked c.args.request _ (ruling_of c.args.master.now) (ruling_of c.hear.new.master) c.hear.result c.in-Hear.is c.hear.ensures.ok

pub returns-in-Begin-clause-ok : goal.returns-in-Begin-clause-ok
returns-in-Begin-clause-ok c = asked c.args.request _ (ruling_of c.args.master.now) (ruling_of c.begin.new.master) c.begin.result c.in-Begin.is c.begin.ensures.ok

pub returns-in-Plain-clause-ok : goal.returns-in-Plain-clause-ok
returns-in-Plain-clause-ok c = asked c.args.request _ (ruling_of c.args.master.now) (ruling_of c.plain.new.master) c.plain.result c.in-Plain.is c.plain.ensures.ok

pub returns-in-GiveUp-clause-ok : goal.returns-in-GiveUp-clause-ok
returns-in-GiveUp-clause-ok c = asked c.args.request _ (ruling_of c.args.master.now) (ruling_of c.give_up.new.master) c.give_up.result c.in-GiveUp.is c.give_up.ensures.ok

pub returns-in-Resend-clause-ok : goal.returns-in-Resend-clause-ok
returns-in-Resend-clause-ok c = asked c.args.request _ (ruling_of c.args.master.now) (ruling_of c.resend.new.master) c.resend.result c.in-Resend.is c.resend.ensures.ok

pub returns-in-Forget-clause-ok : goal.returns-in-Forget-clause-ok
returns-in-Forget-clause-ok c = asked c.args.request _ (ruling_of c.args.master.now) (ruling_of c.forget.new.master) c.forget.result c.in-Forget.is c.forget.ensures.ok
