use Rattle.std.proofs.Common.{refl}
use Rattle.fc_world.specs.Lookups.{ruling_in}
use Rattle.fc_world.specs.Stages.{RefusesGiveUp, Tells, call_of, state_of}
use Rattle.fc_world.specs.WorldSteps.{refusal_by}
use Rattle.fc_world.specs.declared.lives.Request.TheVariants as request
use Rattle.fc_world.proofs.Calling.{asked_as, refused_as}
use Rattle.fc_world.proofs.Places.{if_then, on_then}
use Rattle.fc_world.proofs.stage.Stage.give_up.Goals as goal

pub returns-clause-refused : goal.returns-clause-refused
returns-clause-refused c =
    if_then (λ r. Tells RefusesGiveUp r (refusal_by (call_of c.from.result (request.GiveUp c.args.txn)) (ruling_in c.from.result (state_of c.args.self.now).controllers))) _ c.call.result
    (λ r h. refused_as c.args.number c.from.result (request.GiveUp c.args.txn) (request.GiveUp c.args.txn) (state_of c.args.self.now).controllers r c.from.ensures refl h) c.call.ensures.refused

pub returns-clause-ok : goal.returns-clause-ok
returns-clause-ok c =
    on_then _ _ c.call.result (λ e. asked_as c.args.number c.from.result c.args.place (request.GiveUp c.args.txn) (request.GiveUp c.args.txn) (state_of c.args.self.now) (state_of c.call.new.self) c.from.ensures refl e) c.call.ensures.ok
