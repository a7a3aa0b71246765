use Rattle.fc_instance.proofs.Rowing.{slot_put}
use Rattle.fc_instance.proofs.components.entry_of_slot.Goals as goal

pub returns-in-Entries : goal.returns-in-Entries
returns-in-Entries c = slot_put c.args.path.now.rest.now c.args.full.now c.args.path.now.entry.now c.args.path.now.limit c.args.path.now.subscript c.args.slot.now c.in-Entries.rows c.entry_of_rows.result c.in-Entries.is c.entry_of_rows.ensures
