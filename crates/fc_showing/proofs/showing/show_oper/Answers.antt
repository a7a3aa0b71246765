use Rattle.std.proofs.lemmas.Result.{err_from_is_err_and}
use Rattle.fc_path.proofs.Opening.{oper_stops}
use Rattle.fc_showing.proofs.Appending.{oper_goes}
use Rattle.fc_showing.proofs.showing.show_oper.Goals as goal

pub returns-in_err-head-clause-shown : goal.returns-in_err-head-clause-shown
returns-in_err-head-clause-shown c =
    let p = err_from_is_err_and c.from_residual.result c.from_residual.ensures.1 in
    rw (p.1, p.2) (oper_stops c.args.message c.args.tlv.now c.in_err-head.field-0.0 c.in_err-head.ensures.exact)

pub returns-clause-shown : goal.returns-clause-shown
returns-clause-shown c = oper_goes c.show_held.result c.args.message c.args.tlv.now c.in_ok-head.head c.args.into.now.items c.show_held.new.into.items c.in_ok-head.ensures.exact c.show_held.ensures.shown
