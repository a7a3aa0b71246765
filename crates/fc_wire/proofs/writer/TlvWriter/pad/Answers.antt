use Rattle.std.proofs.Common.{◌≤◌, length, arith, ap, ◌∙◌}
use Rattle.fc_wire.specs.Writing.{newest}
use Rattle.fc_wire.proofs.Ended.{newest_within}
use Rattle.fc_wire.proofs.writer.TlvWriter.pad.Goals as goal

pub overflow_sub-len : goal.overflow_sub-len
overflow_sub-len c =
    let within : newest c.self.inside.places.items ≤ length c.self.inside.bytes.items = newest_within (length c.self.inside.bytes.items) c.self.inside.places.items c.self.invariant in
    let same = c.last_of-start.ensures ∙ ap newest c.as_slice.ensures.value in
    omega (arith, within, same, c.len.ensures, c.self.inside.bytes.ok.0)
