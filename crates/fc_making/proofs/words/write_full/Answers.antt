use Rattle.std.proofs.Common.{length, [], ◌∷◌, ◌++◌, true, refl}
use Rattle.fc_wire.specs.Writing.{head_bytes}
use Rattle.fc_path.proofs.Closing.{closing, grow}
use Rattle.fc_making.proofs.words.write_full.Goals as goal

pub returns : goal.returns
returns c =
    let old = c.args.to.now in
    closing old c.put_bytes.new.to c.end.new.self c.args.word 274 c.in_ok-begun.begun true c.end.result c.in_ok-begun.ensures.begun
    (grow old.text (head_bytes 274) c.args.word (old.places ++ length old.text ∷ []) c.begin.new.self c.put_bytes.new.to c.in_ok-begun.ensures.ok c.in_ok-put_bytes.ensures) refl c.end.ensures.tlv c.end.ensures.long
