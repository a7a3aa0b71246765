use Rattle.std.proofs.Common.{arith}
use Rattle.fc_rows.proofs.ColumnLaws.{kept_err, kept_more}
use Rattle.fc_rows.proofs.columns.Rows.reserve.Goals as goal

pub invariant_of-self-in_err-reserve_first : goal.invariant_of-self-in_err-reserve_first
invariant_of-self-in_err-reserve_first c = kept_err c.self.inside.entries c.reserve.new.self c.self.inside.room (c.self.inside.fields, c.self.inside.keys) c.self.inside.indexes.items c.reserve_first.new.indexes.items
    c.self.invariant c.reserve.ensures.same c.reserve.ensures.room c.reserve_first.ensures.wider

pub invariant_of-self-2 : goal.invariant_of-self-2
invariant_of-self-2 c = kept_more c.self.inside.entries c.reserve.new.self c.self.inside.room c.widened-self-inside.result c.args.count c.len.result c.len-places.result (c.self.inside.fields, c.self.inside.keys)
    c.self.inside.indexes.items c.reserve_first.new.indexes.items c.self.invariant c.reserve.ensures.same c.reserve.ensures.room c.in_ok-reserve.ensures.ok c.reserve_first.ensures.wider (omega (arith, c.len-places.ensures, c.self.inside.indexes.ok.0))
    c.in_ok-reserve_first.ensures.ok c.widened-self-inside.ensures.more c.widened-self-inside.ensures.known c.len.ensures
