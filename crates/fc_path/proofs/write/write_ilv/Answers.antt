use Rattle.std.proofs.Common.{◌+◌, ◌++◌, ap, ◌∙◌, arith}
use Rattle.fc_wire.specs.Writing.{writing, padding}
use Rattle.fc_path.proofs.Closing.{ilv_closing}
use Rattle.fc_path.proofs.write.write_ilv.Goals as goal

pub returns : goal.returns
returns c =
    let ilv = c.args.ilv.now in
    ilv_closing ilv.ident (c.len-len.result + 8) ilv.value c.args.to.now c.put_u32.new.self c.put_u32-2.new.self c.put.new.self c.put_padding.new.self (omega (arith, c.len-len.ensures)) (omega (arith, c.len-len.ensures))
    c.in_ok-put_u32.ensures.ok c.in_ok-put_u32-2.ensures.ok (c.in_ok-put.ensures.ok ∙ ap (λ l. writing (c.put_u32-2.new.self.text ++ l) c.put_u32-2.new.self.places) c.as_slice.ensures)
    (c.in_ok-put_padding.ensures.ok ∙ ap (λ n. writing (c.put.new.self.text ++ padding n) c.put.new.self.places) c.len-len.ensures)
