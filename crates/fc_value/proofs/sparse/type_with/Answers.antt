use Rattle.std.proofs.Common.{◌∙◌, sym, ap, option_map}
use Rattle.std.specs.Option.{option_copied}
use Rattle.fc_types.specs.Types.{field_ty}
use Rattle.fc_value.proofs.sparse.type_with.Goals as goal

pub returns-in-Some : goal.returns-in-Some
returns-in-Some c = ap (option_map field_ty) (ap option_copied (sym c.in-Some.is) ∙ c.with_id.ensures)
