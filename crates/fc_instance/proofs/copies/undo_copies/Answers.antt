use Rattle.std.proofs.Common.{arith, length, refl}
use Rattle.fc_instance.proofs.Copied.{copy_begins, copy_can, copy_ends, copy_undone}
use Rattle.fc_instance.proofs.copies.undo_copies.Goals as goal

pub loop-place-init : goal.loop-place-init
loop-place-init c =
    let all = copy_begins c.args.inverses.now (length c.args.inverses.now) c.args.slots.now.items refl c.requires in
    (all.0, all.1, omega arith)

pub undo_one-requires : goal.undo_one-requires
undo_one-requires c = copy_can c.args.inverses.now c.loop-place.place _ c.index-inverses-place.result c.in_ok-inverse.inverse c.loop-place.slots.items refl (omega arith) (omega arith) c.index-inverses-place.is c.loop-place.invariant.0 c.in_ok-inverse.ensures

pub loop-place-preserved : goal.loop-place-preserved
loop-place-preserved c =
    let next = copy_undone c.args.inverses.now c.loop-place.place _ c.index-inverses-place.result c.in_ok-inverse.inverse _ c.loop-place.slots.items c.undo_one.new.slots.items refl (omega arith) (omega arith) c.index-inverses-place.is
    c.loop-place.invariant.0 c.in_ok-inverse.ensures c.loop-place.invariant.1 c.undo_one.ensures in
    (next.0, next.1, omega arith)

pub returns : goal.returns
returns c = copy_ends c.args.inverses.now c.loop-place.place _ c.loop-place.slots.items (omega arith) c.loop-place.invariant.1
