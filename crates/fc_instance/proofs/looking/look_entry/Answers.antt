use Rattle.std.proofs.Common.{sym, subst}
use Rattle.std.proofs.lemmas.Result.{err_from_is_err_and}
use Rattle.fc_value.specs.Outcomes.{Gives}
use Rattle.fc_instance.proofs.Reaching.{walks_missing, walks_nowhere, walks_there}
use Rattle.fc_instance.proofs.looking.look_entry.Goals as goal

pub returns-in_err-subscript-in-Some : goal.returns-in_err-subscript-in-Some
returns-in_err-subscript-in-Some c =
    let p = err_from_is_err_and c.from_residual.result c.from_residual.ensures.1 in
    rw (p.1, p.2) (walks_nowhere c.args.ty.now c.in-Some.entry.now c.in-Some.field-0-1 c.in-Some.keys.now c.as_slice.result.now c.fields_of.result.now c.args.rows.now.0 c.args.first.now c.args.rest.now c.in_err-subscript-in-Some.field-0.0
    c.in-Some.ensures c.fields_of.ensures c.as_slice.ensures c.in_err-subscript-in-Some.ensures)

pub returns-in-None-get : goal.returns-in-None-get
returns-in-None-get c = walks_missing c.args.ty.now c.in-Some.entry.now c.in-Some.field-0-1 c.in_ok-subscript-in-Some.subscript c.in-Some.keys.now c.as_slice.result.now c.fields_of.result.now c.args.rows.now.0 c.args.first.now c.args.rest.now
    c.in-Some.ensures c.fields_of.ensures c.as_slice.ensures c.in_ok-subscript-in-Some.ensures (sym c.in-None-get.ensures)

pub returns-in-Some-get : goal.returns-in-Some-get
returns-in-Some-get c = subst (λ q. Gives (λ x. (x.0.now, x.1)) c.look_below.result q)
    (sym (walks_there c.args.ty.now c.in-Some.entry.now c.in-Some.field-0-1 c.in_ok-subscript-in-Some.subscript c.in-Some.keys.now c.as_slice.result.now c.fields_of.result.now c.args.rows.now.0 c.args.first.now c.args.rest.now c.in-Some-get.value.now
    c.in-Some.ensures c.fields_of.ensures c.as_slice.ensures c.in_ok-subscript-in-Some.ensures (sym c.in-Some-get.ensures))) c.look_below.ensures
