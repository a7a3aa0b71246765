use Rattle.std.proofs.Common.{ap, sym, ◌∙◌}
use Rattle.std.specs.FinMap.{get}
use Rattle.fc_instance.specs.Components.{cell_entry}
use Rattle.fc_instance.specs.Histories.{slot_cell}
use Rattle.fc_rows.specs.Rowed.{RowMap}
use Rattle.fc_instance.specs.declared.instance.Slot.{Slot}
use Rattle.fc_instance.proofs.Rowing.{rows_again}
use Rattle.fc_instance.proofs.components.entry_of.Goals as goal

pub returns-in-Entries : goal.returns-in-Entries
returns-in-Entries c = c.get.ensures ∙ sym (ap (λ (x : Slot). cell_entry c.args.subscript (slot_cell x)) c.in-Entries.is ∙ ap (λ (m : RowMap). get m c.args.subscript) (rows_again c.in-Entries.rows.0))
