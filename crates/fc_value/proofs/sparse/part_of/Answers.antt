use Rattle.std.proofs.Common.{◌∙◌, ◌==◌, sym, ap, option_map, find}
use Rattle.fc_types.specs.Types.{field_id, field_ty}
use Rattle.fc_types.specs.declared.ty.Ty.TheOpen.{Ty-F}
use Rattle.fc_types.specs.declared.ty.Ty.TheVariants as v
use Rattle.fc_types.specs.declared.ty.Ty.TheViews.{out-Ty, out-roll-Ty}
use Rattle.fc_value.specs.Sparse.{part_layer}
use Rattle.fc_value.proofs.sparse.part_of.Goals as goal

pub returns-in-Struct : goal.returns-in-Struct
returns-in-Struct c =
    c.type_with.ensures ∙ ap (λ fs. option_map field_ty (find (λ f. field_id f == c.args.ident) fs)) c.as_slice.ensures
    ∙ sym (ap (λ l. part_layer l c.args.ident) (ap out-Ty (c.in-Struct.is ∙ sym (v.rolls-Struct c.in-Struct.fields)) ∙ out-roll-Ty (Ty-F.Struct c.in-Struct.fields)))
