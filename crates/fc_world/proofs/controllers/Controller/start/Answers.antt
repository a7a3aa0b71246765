use Rattle.std.proofs.Common.{Some, refl}
use Rattle.fc_world.proofs.Ruling.{begun_life}
use Rattle.fc_world.proofs.controllers.Controller.start.Goals as goal

pub returns-clause-ok : goal.returns-clause-ok
returns-clause-ok c =
    begun_life c.args.self.now (record { ce = c.args.self.now.ce; used = c.push.new.self; master = Some c.in_ok-master.master }) c.in_ok-master.master c.in-Some.epoch c.args.round c.args.elements.now refl refl
    c.in_ok-push.ensures.items c.in-Some.ensures.some c.in_ok-master.ensures.ce c.in_ok-master.ensures.epoch c.in_ok-master.ensures.plans c.in_ok-master.ensures.plains c.in_ok-master.ensures.core
