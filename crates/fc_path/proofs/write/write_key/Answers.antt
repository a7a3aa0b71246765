use Rattle.std.proofs.Common.{Ok, sym, subst}
use Rattle.fc_path.specs.Canon.{Pushed, key_written, wrapped, plain}
use Rattle.fc_path.proofs.Closing.{key_closing}
use Rattle.fc_path.proofs.write.write_key.Goals as goal

pub returns-in_ok-write_leaf-in-Some : goal.returns-in_ok-write_leaf-in-Some
returns-in_ok-write_leaf-in-Some c =
    subst (λ k. Pushed c.end.result c.args.to.now c.end.new.self (key_written k)) (sym c.in-Some.is)
    (key_closing c.in-Some.key c.args.to.now c.begin.new.self c.put_u32.new.self c.write_leaf.new.to c.end.new.self c.in_ok-begun-in-Some.begun c.end.result c.in_ok-begun-in-Some.ensures.begun c.in_ok-begun-in-Some.ensures.ok
    c.in_ok-put_u32-in-Some.ensures.ok (subst (λ l. Pushed (Ok tt) c.put_u32.new.self c.write_leaf.new.to (wrapped 274 (plain l))) c.as_slice.ensures c.in_ok-write_leaf-in-Some.ensures) c.end.ensures.tlv c.end.ensures.long)
