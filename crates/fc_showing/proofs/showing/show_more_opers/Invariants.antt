use Rattle.std.proofs.Common.{length}
use Rattle.fc_path.specs.Reading.{each_in, oper_at}
use Rattle.fc_text.specs.Text.{oper_text}
use Rattle.fc_showing.specs.Appending.{Keeps}
use Rattle.fc_showing.proofs.Appending.{Appended}
use Rattle.fc_showing.proofs.showing.show_more_opers.Given as goal

abbrev pub invariant-items : goal.invariant-items
invariant-items l = record {
  so_far : Appended (oper_at l.message) oper_text l.tlvs.items l.tlvs.fault l.fn.into.items l.into.items (each_in (oper_at l.message) l.fn.tlvs.items l.fn.tlvs.fault);
  kept : Keeps l.fn.into.items l.into.items;
}

abbrev pub decreases-items : goal.decreases-items
decreases-items l = length l.tlvs.items
