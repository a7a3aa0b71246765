use Rattle.std.proofs.lemmas.Result.{err_from_is_err_and}
use Rattle.fc_path.proofs.Opening.{select_stops}
use Rattle.fc_showing.proofs.Appending.{select_goes}
use Rattle.fc_showing.proofs.showing.show_select.Goals as goal

pub returns-in_err-head-clause-shown : goal.returns-in_err-head-clause-shown
returns-in_err-head-clause-shown c =
    let p = err_from_is_err_and c.from_residual.result c.from_residual.ensures.1 in
    rw (p.1, p.2) (select_stops c.args.message c.args.tlv.now c.in_err-head.field-0.0 c.in_err-head.ensures.exact)

pub returns-clause-shown : goal.returns-clause-shown
returns-clause-shown c =
    select_goes c.show_opers.result c.args.message c.args.tlv.now c.in_ok-head.head c.args.into.now.items c.push_select_line.new.into.items c.show_opers.new.into.items c.in_ok-head.ensures.exact c.in_ok-push_select_line.ensures.text c.show_opers.ensures.shown
