use Rattle.std.proofs.Common.{Some, ap, sym, ◌∙◌}
use Rattle.fc_instance.specs.Cells.{merge_cell}
use Rattle.fc_store.specs.Stores.{further}
use Rattle.fc_store.specs.Trees.{value_there}
use Rattle.fc_store.specs.declared.spots.Purpose.TheVariants as purpose
use Rattle.fc_store.proofs.Doing.{change_kept, change_seen, there}
use Rattle.fc_store.proofs.changes.merge_at.Goals as goal

pub merge_there-requires : goal.merge_there-requires
merge_there-requires c =
    there purpose.Write c.args.library.now c.args.pairs.now c.args.spot.now.class c.args.spot.now.instance c.args.spot.now.steps c.in_ok-place.place _ c.args.instances.now.items c.requires
    c.in_ok-place.ensures (sym c.in-Some.ensures ∙ ap Some (sym c.component.view_is))

pub returns-in-Some-clause-did : goal.returns-in-Some-clause-did
returns-in-Some-clause-did c =
    change_seen c.merge_there.result (λ component v. merge_cell (further c.args.spot.now.steps) c.args.ilvs.now component.ty v) c.args.library.now c.args.pairs.now c.args.spot.now c.args.instances.now.items c.merge_there.new.instances.items c.in_ok-place.place _ _
    c.in_ok-place.ensures (sym c.in-Some.ensures ∙ ap Some (sym c.component.view_is))
    (ap (λ ss. merge_cell ss c.args.ilvs.now c.component.inside.ty (value_there c.args.instances.now.items c.in_ok-place.place)) (c.further-steps.ensures ∙ ap further c.as_slice.ensures)) c.merge_there.ensures

pub returns-in-Some-clause-kept : goal.returns-in-Some-clause-kept
returns-in-Some-clause-kept c =
    change_kept c.merge_there.result _ c.args.library.now c.args.pairs.now c.args.spot.now.class c.args.spot.now.instance c.args.spot.now.steps c.in_ok-place.place _ c.args.instances.now.items c.merge_there.new.instances.items c.requires
    c.in_ok-place.ensures (sym c.in-Some.ensures ∙ ap Some (sym c.component.view_is)) c.merge_there.ensures
