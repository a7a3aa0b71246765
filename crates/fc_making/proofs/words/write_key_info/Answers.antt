use Rattle.fc_lines.specs.LineReading.{key_of}
use Rattle.fc_path.proofs.Closing.{key_closing}
use Rattle.fc_making.proofs.words.write_key_info.Goals as goal

pub returns : goal.returns
returns c =
    key_closing (key_of c.args.said) c.args.to.now c.begin.new.self c.put_u32.new.self c.write_full.new.to c.end.new.self c.in_ok-begun.begun c.end.result c.in_ok-begun.ensures.begun c.in_ok-begun.ensures.ok c.in_ok-put_u32.ensures.ok
    c.in_ok-write_full.ensures c.end.ensures.tlv c.end.ensures.long
