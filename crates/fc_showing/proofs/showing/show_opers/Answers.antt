use Rattle.std.proofs.Common.{Some, sym, ap, ◌∙◌}
use Rattle.fc_path.specs.Reading.{oper_at}
use Rattle.fc_text.specs.Text.{oper_text}
use Rattle.fc_showing.proofs.Appending.{then_others}
use Rattle.fc_showing.proofs.showing.show_opers.Goals as goal

pub returns-in_ok-show_oper-in-Some-Ok-clause-shown : goal.returns-in_ok-show_oper-in-Some-Ok-clause-shown
returns-in_ok-show_oper-in-Some-Ok-clause-shown c =
    then_others (oper_at c.args.message) oper_text c.show_more_opers.result c.args.end c.args.tlvs.items c.args.tlvs.fault c.in-Some-Ok.tlv c.next.new.self c.args.into.now.items c.show_oper.new.into.items c.show_more_opers.new.into.items
    (ap Some (sym c.in-Some-Ok.field-0-is) ∙ c.in-Some-Ok.ensures.next) c.next.ensures.rest c.in_ok-show_oper-in-Some-Ok.ensures.shown c.show_more_opers.ensures.shown
