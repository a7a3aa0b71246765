use Rattle.std.proofs.Common.{ap, sym, ◌∙◌, subst}
use Rattle.fc_world.specs.Lookups.{parcel_in}
use Rattle.fc_world.specs.Stages.{AreCounted, all_parcels, state_of}
use Rattle.fc_world.specs.WorldSteps.{delivers}
use Rattle.fc_world.proofs.Clearing.{taken_proper}
use Rattle.fc_world.proofs.Places.{on_is}
use Rattle.fc_world.proofs.stage.Stage.deliver.Goals as goal

pub bring-requires-clause-proper : goal.bring-requires-clause-proper
bring-requires-clause-proper c =
    taken_proper c.args.number (all_parcels c.args.self.now.sent.items) c.in_ok-parcel.parcel c.requires.sound.proper
    (c.in_ok-parcel.ensures (subst (AreCounted 0) (sym c.as_slice.ensures.value) c.requires.sound.counted) ∙ ap (λ l. parcel_in c.args.number (all_parcels l)) c.as_slice.ensures.value)

pub returns-clause-ok : goal.returns-clause-ok
returns-clause-ok c =
    on_is c.bring.result (state_of c.bring.new.self) _ _ c.bring.ensures.ok
    (ap (λ p. delivers c.args.place p (state_of c.args.self.now))
    (c.in_ok-parcel.ensures (subst (AreCounted 0) (sym c.as_slice.ensures.value) c.requires.sound.counted) ∙ ap (λ l. parcel_in c.args.number (all_parcels l)) c.as_slice.ensures.value))
