use Rattle.std.proofs.Common.{option_map}
use Rattle.fc_instance.proofs.Changing.{found_by}
use Rattle.fc_instance.proofs.instance.keys_in.Goals as goal

pub returns-in-Entries : goal.returns-in-Entries
returns-in-Entries c = found_by c.args.subscript (option_map (λ x. x.now) c.args.value) c.args.slot.now c.in-Entries.rows c.keys_for.result c.in-Entries.is c.keys_for.ensures
