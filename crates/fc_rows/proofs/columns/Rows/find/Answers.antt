use Rattle.std.proofs.Common.{arith}
use Rattle.fc_rows.proofs.ColumnLaws.{leads_nowhere, leads_seen}
use Rattle.fc_rows.proofs.columns.Rows.find.Goals as goal

pub returns-then-place-len : goal.returns-then-place-len
returns-then-place-len c = leads_seen c.args.self.now c.self.inside.entries.0 c.self.inside.room (c.self.inside.fields, c.self.inside.keys) c.self.inside.indexes.items c.args.place c.index.result.now c.args.bytes.now c.find.result
    c.self.view_is c.self.invariant.each (omega arith) c.index.ensures c.find.ensures

pub returns : goal.returns
returns c = leads_nowhere c.args.self.now c.self.inside.entries.0 c.self.inside.room (c.self.inside.fields, c.self.inside.keys) c.self.inside.indexes.items c.args.place c.args.bytes.now c.self.view_is c.self.invariant.each (omega arith)
