use Rattle.std.proofs.Common.{Some, sym, ap, ◌∙◌}
use Rattle.std.proofs.lemmas.Result.{err_from_is_err_and}
use Rattle.fc_path.specs.Reading.{select_at}
use Rattle.fc_text.specs.Text.{select_text}
use Rattle.fc_showing.proofs.Appending.{goes, stops}
use Rattle.fc_showing.proofs.Keeping.{keeps_on}
use Rattle.fc_showing.proofs.showing.show_selects.Goals as goal

pub items-preserved : goal.items-preserved
items-preserved c = record {
  so_far =
      goes (select_at c.args.message) select_text c.items.tlvs.items c.items.tlvs.fault c.in-Ok.tlv c.next.new.self _ c.items.into.items c.show_select.new.into.items _ c.items.invariant.so_far
      (ap Some (sym c.in-Ok.is) ∙ c.in-Some.ensures.next) c.next.ensures.rest c.in_ok-show_select-in-Ok.ensures.shown;
  kept = keeps_on c.args.into.now.items c.items.into.items c.show_select.new.into.items c.items.invariant.kept c.in_ok-show_select-in-Ok.ensures.kept;
}

pub returns-in_err-show_select-in-Ok-clause-shown : goal.returns-in_err-show_select-in-Ok-clause-shown
returns-in_err-show_select-in-Ok-clause-shown c =
    let p = err_from_is_err_and c.from_residual.result c.from_residual.ensures.1 in
    rw (p.1, p.2) (stops (select_at c.args.message) select_text c.items.tlvs.items c.items.tlvs.fault c.in-Ok.tlv c.next.new.self _ c.items.into.items _ c.in_err-show_select-in-Ok.field-0.0 c.items.invariant.so_far
    (ap Some (sym c.in-Ok.is) ∙ c.in-Some.ensures.next) c.next.ensures.rest c.in_err-show_select-in-Ok.ensures.shown)
