use Rattle.std.proofs.Common.{slice_get}
use Rattle.fc_instance.proofs.Changing.{fits_array, fits_on, on_err, same_values, values_changed}
use Rattle.fc_instance.proofs.instance.set_entry.Goals as goal

pub returns-in_err-make_room_at-clause-err : goal.returns-in_err-make_room_at-clause-err
returns-in_err-make_room_at-clause-err c = on_err _ _ (same_values c.args.slots.now.items c.make_room_at.new.slots.items c.make_room_at.ensures.roomier)

pub returns-clause-now : goal.returns-clause-now
returns-clause-now c = values_changed c.args.slots.now.items c.make_room_at.new.slots.items c.exchange_at.new.slots.items c.args.component c.args.subscript c.args.value c.make_room_at.ensures.roomier c.in_ok-make_room_at.ensures.ok c.exchange_at.ensures.after

pub make_room_at-requires : goal.make_room_at-requires
make_room_at-requires c = fits_array c.args.subscript c.args.value c.args.entering c.args.leaving (slice_get c.args.slots.now.items c.args.component) c.requires.fits

pub exchange_at-requires-clause-fits : goal.exchange_at-requires-clause-fits
exchange_at-requires-clause-fits c = fits_on c.args.subscript c.args.value c.args.entering c.args.leaving c.as_slice.result.now c.args.slots.now.items c.make_room_at.new.slots.items c.args.component c.make_room_at.ensures.roomier c.as_slice.ensures c.requires.fits
