use Rattle.std.proofs.Common.{Some, ap, ◌∙◌}
use Rattle.std.specs.FinMap.{get}
use Rattle.fc_world.proofs.NamePlaces.{looked, missed}
use Rattle.fc_world.proofs.naming.transaction_in.Goals as goal

pub returns-in_err-place : goal.returns-in_err-place
returns-in_err-place c = missed c.args.names.now.0 c.args.name.now c.args.transactions.now c.from_residual.result c.requires (c.in_err-place.ensures ∙ ap (get c.args.names.now.0) c.as_bytes.ensures.value) c.from_residual.ensures

pub returns : goal.returns
returns c = c.transaction_at.ensures ∙ looked c.args.names.now.0 c.args.name.now c.args.transactions.now (Some c.in_ok-place.place) c.requires (c.in_ok-place.ensures ∙ ap (get c.args.names.now.0) c.as_bytes.ensures.value)
