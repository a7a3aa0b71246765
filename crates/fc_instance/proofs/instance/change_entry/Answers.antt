use Rattle.std.proofs.Common.{slice_get}
use Rattle.fc_instance.proofs.Changing.{back_again, fits_array, fits_on, held_changed, held_roomier, on_err, same_values, values_changed}
use Rattle.fc_instance.proofs.instance.change_entry.Goals as goal

pub returns-in_err-make_room_at-clause-err : goal.returns-in_err-make_room_at-clause-err
returns-in_err-make_room_at-clause-err c = on_err _ _ (same_values c.args.slots.now.items c.make_room_at.new.slots.items c.make_room_at.ensures.roomier)

pub returns-in_err-make_room_at-clause-held : goal.returns-in_err-make_room_at-clause-held
returns-in_err-make_room_at-clause-held c = held_roomier c.args.slots.now.items c.make_room_at.new.slots.items c.args.log.now.0 c.reserve.new.self.0 c.reserve.ensures.same c.make_room_at.ensures.roomier c.requires.undoable

pub returns-clause-now : goal.returns-clause-now
returns-clause-now c = values_changed c.args.slots.now.items c.make_room_at.new.slots.items c.exchange_at-old.new.slots.items c.args.component c.args.subscript c.args.value c.make_room_at.ensures.roomier c.in_ok-make_room_at.ensures.ok c.exchange_at-old.ensures.after

pub returns-clause-held : goal.returns-clause-held
returns-clause-held c = held_changed c.args.slots.now.items c.make_room_at.new.slots.items c.exchange_at-old.new.slots.items c.args.log.now.0 c.reserve.new.self.0 c.push.new.self.0 c.args.component c.args.subscript c.args.value
    (record { value = c.exchange_at-old.result; entering = c.args.leaving; leaving = c.args.again })
    c.make_room_at.ensures.roomier c.requires.undoable c.reserve.ensures.same c.exchange_at-old.ensures.given c.exchange_at-old.ensures.after
    (back_again c.args.subscript c.exchange_at-old.result c.args.entering c.args.leaving c.as_slice.result.now c.args.again (slice_get c.exchange_at-old.new.slots.items c.args.component) c.exchange_at-old.ensures.back c.as_slice.ensures c.requires.again) c.push.ensures.pushed

pub make_room_at-requires : goal.make_room_at-requires
make_room_at-requires c = fits_array c.args.subscript c.args.value c.args.entering c.args.leaving (slice_get c.args.slots.now.items c.args.component) c.requires.fits

pub exchange_at-old-requires-clause-fits : goal.exchange_at-old-requires-clause-fits
exchange_at-old-requires-clause-fits c = fits_on c.args.subscript c.args.value c.args.entering c.args.leaving c.as_slice.result.now c.args.slots.now.items c.make_room_at.new.slots.items c.args.component c.make_room_at.ensures.roomier c.as_slice.ensures c.requires.fits
