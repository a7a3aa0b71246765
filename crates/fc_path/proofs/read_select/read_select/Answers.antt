use Rattle.std.proofs.lemmas.Result.{err_from_is_err_and}
use Rattle.fc_path.proofs.Opening.{opers_stop, select_read, select_stops}
use Rattle.fc_path.proofs.read_select.read_select.Goals as goal

pub returns-in_err-head : goal.returns-in_err-head
returns-in_err-head c =
    let p = err_from_is_err_and c.from_residual.result c.from_residual.ensures.1 in
    rw (p.1, p.2) (select_stops c.args.message c.args.tlv.now c.in_err-head.field-0.0 c.in_err-head.ensures.exact)

pub returns-in_err-opers : goal.returns-in_err-opers
returns-in_err-opers c =
    let p = err_from_is_err_and c.from_residual-in_err-opers.result c.from_residual-in_err-opers.ensures.1 in
    rw (p.1, p.2) (opers_stop c.args.message c.args.tlv.now c.in_ok-head.head c.in_err-opers.field-0.0 c.in_ok-head.ensures.exact c.in_err-opers.ensures)

pub returns : goal.returns
returns c = select_read c.args.message c.args.tlv.now c.in_ok-head.head c.in_ok-opers.opers c.in_ok-head.ensures.exact c.in_ok-opers.ensures
