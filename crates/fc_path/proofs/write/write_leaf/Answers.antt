use Rattle.std.proofs.Common.{length, [], ◌∷◌, ◌++◌, true, refl}
use Rattle.fc_wire.specs.Writing.{head_bytes}
use Rattle.fc_path.proofs.Closing.{closing, grow}
use Rattle.fc_path.proofs.write.write_leaf.Goals as goal

pub returns : goal.returns
returns c =
    let old = c.args.to.now in
    closing old c.put.new.self c.end.new.self c.args.value.now c.args.kind c.in_ok-begun.begun true c.end.result c.in_ok-begun.ensures.begun
    (grow old.text (head_bytes c.args.kind) c.args.value.now (old.places ++ length old.text ∷ []) c.begin.new.self c.put.new.self c.in_ok-begun.ensures.ok c.in_ok-put.ensures.ok) refl c.end.ensures.tlv c.end.ensures.long
