use Rattle.fc_tree.proofs.Rooms.{by_key_step}
use Rattle.fc_tree.proofs.find.place_by.Goals as goal

pub returns : goal.returns
returns c = rw (by_key_step c.args.fields.now c.args.entries.now c.args.key.now c.as_slice.result.now c.args.bytes.now c.in_ok-written.written.items c.deref.result.now c.in_ok-place.place c.as_slice.ensures c.in_ok-written.ensures c.deref.ensures.value c.in_ok-place.ensures) c.there.ensures
