use Rattle.std.proofs.Common.{◌-◌, sym, arith, subst}
use Rattle.std.proofs.lemmas.Result.{err_from_is_err_and}
use Rattle.fc_path.specs.Reading.{path_at}
use Rattle.fc_path.specs.Stray.{Gives}
use Rattle.fc_path.proofs.Heading.{body_stops, built, head_stops}
use Rattle.fc_path.proofs.read_path.+read.Goals as goal

pub read_body-returns-in_err-lent : goal.read_body-returns-in_err-lent
read_body-returns-in_err-lent t c =
    let p = err_from_is_err_and c.from_residual.result c.from_residual.ensures.1 in
    rw (p.1, p.2) (c.in_err-lent.ensures.exact (path_at c.args.kind c.args.depth))

pub read_body-returns : goal.read_body-returns
read_body-returns t c = subst (Gives c.owned_body.result) (sym (c.in_ok-lent.ensures.exact (path_at c.args.kind c.args.depth))) c.owned_body.ensures

pub read_path-returns-in_err-head : goal.read_path-returns-in_err-head
read_path-returns-in_err-head t c =
    let p = err_from_is_err_and c.from_residual.result c.from_residual.ensures.1 in
    rw (p.1, p.2) (head_stops c.args.kind c.args.depth (c.args.depth - 1) c.args.tlv.now c.in_err-head.field-0.0 (omega arith) c.in_err-head.ensures.exact)

pub read_path-returns-in_err-body : goal.read_path-returns-in_err-body
read_path-returns-in_err-body t c =
    let p = err_from_is_err_and c.from_residual-in_err-body.result c.from_residual-in_err-body.ensures.1 in
    rw (p.1, p.2) (body_stops c.args.kind c.args.depth (c.args.depth - 1) c.args.tlv.now c.in_ok-head.head c.in_err-body.field-0.0 (omega arith) c.in_ok-head.ensures.exact c.in_err-body.ensures)

pub read_path-returns : goal.read_path-returns
read_path-returns t c =
    built c.args.kind c.args.depth (c.args.depth - 1) c.args.tlv.now c.in_ok-head.head c.in_ok-ids.ids c.in_ok-key.key c.in_ok-body.body (omega arith) c.in_ok-head.ensures.exact c.in_ok-body.ensures c.in_ok-ids.ensures c.in_ok-key.ensures
