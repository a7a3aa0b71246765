-- The value of a node that is lent. This profile's own.
use Rattle.std.specs.FinMap.{entries}
use Rattle.fc_value.specs.declared.value.Value.{Value}
use Rattle.fc_value.specs.declared.value.Value.TheVariants as value
use Rattle.fc_instance.specs.declared.nodes.Lent.{Lent}
use Rattle.fc_instance.specs.declared.nodes.Lent.TheVariants.{One, Entries}

abbrev pub lent_value : Lent → Value
lent_value (One v) = v.now
lent_value (Entries rows) = value.Table (entries rows.now.0)
