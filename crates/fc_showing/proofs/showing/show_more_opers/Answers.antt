use Rattle.std.proofs.Common.{Some, sym, ap, ◌∙◌}
use Rattle.fc_path.specs.Reading.{oper_at}
use Rattle.fc_text.specs.Text.{oper_text}
use Rattle.fc_showing.proofs.Appending.{goes}
use Rattle.fc_showing.proofs.Keeping.{keeps_on}
use Rattle.fc_showing.proofs.showing.show_more_opers.Goals as goal

pub items-preserved : goal.items-preserved
items-preserved c = record {
  so_far =
      goes (oper_at c.args.message) oper_text c.items.tlvs.items c.items.tlvs.fault c.in-Ok.tlv c.next.new.self _ c.items.into.items c.show_oper.new.into.items _ c.items.invariant.so_far
      (ap Some (sym c.in-Ok.is) ∙ c.in-Some.ensures.next) c.next.ensures.rest c.in_ok-show_oper-in-Ok.ensures.shown;
  kept = keeps_on c.args.into.now.items c.items.into.items c.show_oper.new.into.items c.items.invariant.kept c.in_ok-show_oper-in-Ok.ensures.kept;
}
