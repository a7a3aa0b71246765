use Rattle.std.proofs.Common.{◌+◌, ◌*◌, length}
use Rattle.fc_value.proofs.nodes.+replace.Given as goal

abbrev pub decreases-replace_node : goal.decreases-replace_node
decreases-replace_node l = length l.places.now * 2

abbrev pub decreases-replace_in_group : goal.decreases-replace_in_group
decreases-replace_in_group l = length l.rest.now * 2 + 1

abbrev pub decreases-replace_in_table : goal.decreases-replace_in_table
decreases-replace_in_table l = length l.rest.now * 2 + 1
