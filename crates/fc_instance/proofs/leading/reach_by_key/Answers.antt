use Rattle.std.proofs.Common.{ap, slice_get}
use Rattle.std.specs.FinMap.{entries}
use Rattle.fc_tree.specs.Finding.{by_key}
use Rattle.fc_instance.proofs.Leads.{key_at, reached_with}
use Rattle.fc_instance.proofs.leading.reach_by_key.Goals as goal

pub returns-in-None : goal.returns-in-None
returns-in-None c = ap (λ o. by_key c.args.fields.now (entries c.args.rows.now.0) o c.args.bytes.now) (key_at c.args.id c.args.keys.now _ _ c.place_of_key.ensures c.in-None.is)

pub returns-in-Some : goal.returns-in-Some
returns-in-Some c = reached_with c.args.fields.now c.args.keys.now c.args.rows.now.0 c.args.id c.args.bytes.now (slice_get c.args.keys.now c.in-Some.place) c.reach_with.result (key_at c.args.id c.args.keys.now _ _ c.place_of_key.ensures c.in-Some.is) c.reach_with.ensures
