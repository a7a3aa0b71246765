use Rattle.std.proofs.lemmas.Result.{err_from_is_err_and}
use Rattle.fc_path.proofs.Opening.{oper_held, oper_stops}
use Rattle.fc_path.proofs.read_select.read_oper.Goals as goal

pub returns-in_err-head : goal.returns-in_err-head
returns-in_err-head c =
    let p = err_from_is_err_and c.from_residual.result c.from_residual.ensures.1 in
    rw (p.1, p.2) (oper_stops c.args.message c.args.tlv.now c.in_err-head.field-0.0 c.in_err-head.ensures.exact)

pub returns : goal.returns
returns c = oper_held c.args.message c.args.tlv.now c.in_ok-head.head c.owned_oper.result c.in_ok-head.ensures.exact c.owned_oper.ensures
