use Rattle.std.proofs.Common.{Some, ap, subst, sym, ◌∙◌}
use Rattle.fc_value.specs.Outcomes.{Gives}
use Rattle.fc_store.specs.Stores.{further}
use Rattle.fc_store.proofs.Doing.{look_seen, there}
use Rattle.fc_store.proofs.looks.look_at.Goals as goal

pub look_there-requires : goal.look_there-requires
look_there-requires c =
    there c.args.purpose c.args.library.now c.args.pairs.now c.args.spot.now.class c.args.spot.now.instance c.args.spot.now.steps c.in_ok-place.place _ c.args.instances.now c.requires
    c.in_ok-place.ensures (sym c.in-Some.ensures ∙ ap Some (sym c.component.view_is))

pub returns-in-Some : goal.returns-in-Some
returns-in-Some c =
    subst (λ m. Gives (λ x. (x.0.now, x.1)) c.look_there.result m)
    (look_seen c.args.purpose c.args.library.now c.args.pairs.now c.args.spot.now c.args.instances.now c.in_ok-place.place _ _ c.in_ok-place.ensures (sym c.in-Some.ensures ∙ ap Some (sym c.component.view_is))
    (c.further-steps.ensures ∙ ap further c.as_slice.ensures)) c.look_there.ensures
