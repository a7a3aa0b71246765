use Rattle.std.proofs.Common.{ap, ◌∙◌}
use Rattle.std.specs.FinMap.{from_entries}
use Rattle.fc_keys.specs.Buckets.{map_of}
use Rattle.fc_keys.specs.Keys.{key_cmp}
use Rattle.fc_keys.proofs.Spread.{no_pairs_in}
use Rattle.fc_keys.proofs.table.Table.with_buckets.Goals as goal

pub returns-clause-pairs : goal.returns-clause-pairs
returns-clause-pairs c = ap map_of c.loop.invariant.items ∙ ap (from_entries {R = key_cmp}) (no_pairs_in c.loop.counter)
