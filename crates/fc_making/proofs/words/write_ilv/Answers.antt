use Rattle.std.proofs.Common.{◌+◌, ◌++◌, ap, ◌∙◌, arith}
use Rattle.fc_wire.specs.Writing.{writing, padding}
use Rattle.fc_path.proofs.Closing.{ilv_closing}
use Rattle.fc_making.proofs.words.write_ilv.Goals as goal

pub returns : goal.returns
returns c =
    ilv_closing c.args.said.number (c.len-len.result + 8) c.args.said.bytes c.args.to.now c.put_u32.new.self c.put_u32-2.new.self c.put_bytes.new.to c.put_padding.new.self (omega (arith, c.len-len.ensures)) (omega (arith, c.len-len.ensures))
    c.in_ok-put_u32.ensures.ok c.in_ok-put_u32-2.ensures.ok c.in_ok-put_bytes.ensures (c.in_ok-put_padding.ensures.ok ∙ ap (λ n. writing (c.put_bytes.new.to.text ++ padding n) c.put_bytes.new.to.places) c.len-len.ensures)
