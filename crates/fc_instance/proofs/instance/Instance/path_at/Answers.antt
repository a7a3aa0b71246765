use Rattle.std.proofs.Common.{refl}
use Rattle.std.proofs.lemmas.Result.{err_from_is_err_and}
use Rattle.fc_instance.proofs.Reaching.{leads_by, leads_nowhere, shape_at}
use Rattle.fc_instance.proofs.instance.Instance.path_at.Goals as goal

pub returns-in_err-subscript-in-Some-rows_at : goal.returns-in_err-subscript-in-Some-rows_at
returns-in_err-subscript-in-Some-rows_at c =
    let p = err_from_is_err_and c.from_residual.result c.from_residual.ensures.1 in
    rw (p.1, p.2) (leads_nowhere c.args.ty.now c.in-Some.entry.now c.in-Some.limit c.in-Some.keys.now c.as_slice.result.now c.fields_of-fields.result.now _ c.in-Some-rows_at.rows.now c.args.first.now c.in_err-subscript-in-Some-rows_at.field-0.0
    c.in-Some.ensures c.fields_of-fields.ensures c.as_slice.ensures c.in-Some-rows_at.ensures c.in_err-subscript-in-Some-rows_at.ensures)

pub returns-in_ok-subscript-in-Some-rows_at : goal.returns-in_ok-subscript-in-Some-rows_at
returns-in_ok-subscript-in-Some-rows_at c = (
  leads_by c.args.ty.now c.in-Some.entry.now c.in-Some.limit c.in_ok-subscript-in-Some-rows_at.subscript c.in-Some.keys.now c.as_slice.result.now c.fields_of-fields.result.now _ c.in-Some-rows_at.rows.now c.args.first.now
      c.in-Some.ensures c.fields_of-fields.ensures c.as_slice.ensures c.requires c.in-Some-rows_at.ensures c.in_ok-subscript-in-Some-rows_at.ensures,
  refl,
)

pub reach-requires : goal.reach-requires
reach-requires c = shape_at c.args.ty.now c.in-Some.entry.now c.in-Some.limit c.in-Some.keys.now c.as_slice.result.now c.fields_of-fields.result.now _ c.in-Some-rows_at.rows.now c.in-Some.ensures c.fields_of-fields.ensures c.as_slice.ensures c.requires c.in-Some-rows_at.ensures
