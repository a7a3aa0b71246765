use Rattle.std.proofs.Common.{◌++◌, ap, ◌∙◌, arith}
use Rattle.std.proofs.lemmas.Result.{err_from_is_err_and}
use Rattle.fc_wire.proofs.Spelled.{bytes_all}
use Rattle.fc_msg.proofs.Opening.{selects_refuse}
use Rattle.fc_text.specs.Text.{fields_text}
use Rattle.fc_showing.specs.Appending.{type_name}
use Rattle.fc_showing.proofs.Appending.{shown_by}
use Rattle.fc_showing.proofs.frames.show_into.Goals as goal

pub returns-in_err-show_body-clause-refused : goal.returns-in_err-show_body-clause-refused
returns-in_err-show_body-clause-refused c =
    let p = err_from_is_err_and c.from_residual-in_err-show_body.result c.from_residual-in_err-show_body.ensures.1 in
    rw (p.1, p.2) (selects_refuse c.args.bytes.now c.in_ok-head.head.body c.in_err-show_body.field-0.0 c.in_ok-head.ensures.broken c.in_err-show_body.ensures.shown)

pub returns-clause-shown : goal.returns-clause-shown
returns-clause-shown c =
    let head = c.in_ok-head.head in
    let line = c.in_ok-show_head.ensures.text ∙ ap (λ m. c.args.into.now.items ++ (type_name head.header.kind ++ fields_text m)) c.head_of.ensures in
    shown_by c.args.bytes.now head c.args.into.now.items c.show_head.new.into.items c.show_body.new.into.items (bytes_all c.args.bytes.now (λ i. omega (arith, c.type_inv.bytes i))) c.in_ok-head.ensures.header c.in_ok-head.ensures.message line
    c.in_ok-show_body.ensures.shown
