use Rattle.fc_rows.proofs.ColumnLaws.{back_seen, swapped_kept}
use Rattle.fc_rows.proofs.columns.Rows.swap.Goals as goal

pub invariant_of-self : goal.invariant_of-self
invariant_of-self c = swapped_kept c.args.self.now c.self.inside.entries c.swap.new.self c.self.inside.room c.args.subscript (c.self.inside.fields, c.self.inside.keys) c.self.inside.indexes.items c.take_keys.new.indexes.items c.put_keys.new.indexes.items c.args.value
    c.args.entering c.args.leaving.now c.into_vec.result.items c.self.view_is c.self.invariant c.requires c.take_keys.ensures c.into_vec.ensures c.put_keys.ensures c.swap.ensures.rows c.swap.ensures.room

pub returns-clause-back : goal.returns-clause-back
returns-clause-back c = back_seen c.args.self.now c.self.inside.entries c.swap.new.self.0 c.self.inside.room c.args.subscript (c.self.inside.fields, c.self.inside.keys) c.self.inside.indexes.items c.args.value c.swap.result
    c.args.entering c.args.leaving.now c.self.view_is c.self.invariant c.requires c.swap.ensures.given c.swap.ensures.rows
