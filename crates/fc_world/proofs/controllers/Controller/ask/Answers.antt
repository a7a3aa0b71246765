use Rattle.std.proofs.Common.{Some, refl}
use Rattle.fc_world.proofs.Ruling.{one_asked}
use Rattle.fc_world.proofs.controllers.Controller.ask.Goals as goal

pub returns-in_ok-ask-in-Some-clause-ok : goal.returns-in_ok-ask-in-Some-clause-ok
returns-in_ok-ask-in-Some-clause-ok c =
    one_asked c.args.request c.args.self.now (record { ce = c.args.self.now.ce; used = c.args.self.now.used; master = Some c.ask.new.master }) c.in-Some.master c.ask.new.master c.in_ok-ask-in-Some.field-0 c.in-Some.is refl refl
    refl c.in_ok-ask-in-Some.ensures.ok
