use Rattle.std.proofs.Common.{Some, sym, ap, ◌∙◌}
use Rattle.fc_path.specs.Reading.{select_at}
use Rattle.fc_text.specs.Text.{select_text}
use Rattle.fc_showing.proofs.Appending.{then_others}
use Rattle.fc_showing.proofs.showing.show_some_selects.Goals as goal

pub returns-in_ok-show_select-in-Some-Ok-clause-shown : goal.returns-in_ok-show_select-in-Some-Ok-clause-shown
returns-in_ok-show_select-in-Some-Ok-clause-shown c =
    then_others (select_at c.args.message) select_text c.show_selects.result c.args.end c.args.tlvs.items c.args.tlvs.fault c.in-Some-Ok.tlv c.next.new.self c.args.into.now.items c.show_select.new.into.items c.show_selects.new.into.items
    (ap Some (sym c.in-Some-Ok.field-0-is) ∙ c.in-Some-Ok.ensures.next) c.next.ensures.rest c.in_ok-show_select-in-Some-Ok.ensures.shown c.show_selects.ensures.shown
