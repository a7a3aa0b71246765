use Rattle.fc_rows.proofs.Updating.{on_ok}
use Rattle.fc_instance.proofs.Changing.{one_roomier, one_roomy}
use Rattle.fc_instance.proofs.instance.make_room_at.Goals as goal

pub returns-clause-roomier : goal.returns-clause-roomier
returns-clause-roomier c = one_roomier c.args.slots.now.items c.args.component c.index_mut.result.now c.make_room.new.slot c.requires c.index_mut.ensures.value c.make_room.ensures.roomier

pub returns-clause-ok : goal.returns-clause-ok
returns-clause-ok c = on_ok c.make_room.result _ _ (one_roomy c.args.slots.now.items c.args.component c.index_mut.result.now c.make_room.new.slot c.requires c.index_mut.ensures.value c.make_room.ensures.roomier) c.make_room.ensures.ok
