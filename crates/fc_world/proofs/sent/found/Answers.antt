use Rattle.std.proofs.Common.{◌-◌, arith, length, refl}
use Rattle.std.proofs.lemmas.Option.{slice_get_read}
use Rattle.fc_world.proofs.Counting.{found, none_found}
use Rattle.fc_world.proofs.sent.found.Goals as goal

pub returns-then-begun-eq0 : goal.returns-then-begun-eq0
returns-then-begun-eq0 c = λ k. none_found c.args.batches.now c.args.number c.in_ok-place.place c.begun_at-begun.result k (omega arith) c.begun_at-begun.ensures.later (omega arith)

pub returns : goal.returns
returns c = λ k.
    found c.args.batches.now c.args.number c.in_ok-place.place c.begun_at-begun.result c.saturating_sub.result c.in_ok-batch.batch.now k (omega arith) (omega arith) (omega arith)
    c.begun_at-begun.ensures.within
    (slice_get_read c.args.batches.now (length c.args.batches.now) (c.begun_at-begun.result - 1) c.in_ok-batch.batch.now refl (omega arith) c.in_ok-batch.ensures.lookup.1)
    (c.begun_at-begun.ensures.begun (omega arith)) c.begun_at-begun.ensures.later c.saturating_sub.ensures
