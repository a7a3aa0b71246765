use Rattle.std.proofs.Common.{Ok, map, subst}
use Rattle.fc_path.specs.Canon.{Pushed, joined, oper_written}
use Rattle.fc_path.proofs.Closing.{select_closing}
use Rattle.fc_path.proofs.write.write_select.Goals as goal

pub returns : goal.returns
returns c =
    select_closing c.args.select.now c.args.to.now c.begin.new.self c.put_u32.new.self c.put_u32-2.new.self c.write_opers.new.to c.end.new.self c.in_ok-begun.begun c.end.result c.in_ok-begun.ensures.begun c.in_ok-begun.ensures.ok
    c.in_ok-put_u32.ensures.ok c.in_ok-put_u32-2.ensures.ok (subst (λ l. Pushed (Ok tt) c.put_u32-2.new.self c.write_opers.new.to (joined (map oper_written l))) c.as_slice.ensures c.in_ok-write_opers.ensures) c.end.ensures.tlv c.end.ensures.long
