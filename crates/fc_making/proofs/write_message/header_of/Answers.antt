use Rattle.std.proofs.Common.{ap}
use Rattle.fc_wire.specs.Flags.{FlagValues}
use Rattle.fc_wire.proofs.Unique.{same_flags}
use Rattle.fc_msg.specs.Reading.{flags_in}
use Rattle.fc_msg.proofs.Reading.{has_flags}
use Rattle.fc_making.specs.Writes.{header_for}
use Rattle.fc_making.proofs.write_message.header_of.Goals as goal

pub returns : goal.returns
returns c =
    ap (λ (f : FlagValues). record (header_for c.args.head) { flags = f }) (same_flags c.from_word.result (flags_in c.args.head.flags) c.args.head.flags c.from_word.ensures (has_flags c.args.head.flags))
