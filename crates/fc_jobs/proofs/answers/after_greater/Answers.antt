use Rattle.std.proofs.Common.{◌≡◌, ℕ, Some, max, unwrap_or, ap, ◌∙◌}
use Rattle.fc_jobs.specs.Seats.{elements_of, seat_dropped}
use Rattle.fc_jobs.specs.Sending.{core_by}
use Rattle.std.proofs.Common.{map}
use Rattle.fc_jobs.proofs.Deposing.{deposed_is, same_elements}
use Rattle.fc_jobs.proofs.answers.after_greater.Goals as goal

pub returns-clause-elements : goal.returns-clause-elements
returns-clause-elements c = ap elements_of (c.in_ok-seats.ensures ∙ ap (map seat_dropped) c.as_slice.ensures) ∙ same_elements c.args.seats.now

pub returns-clause-core : goal.returns-clause-core
returns-clause-core c = λ begun.
    let most : c.max.result ≡ max (unwrap_or c.args.deposed 0) c.args.told = c.max.ensures ∙ ap (λ (n : ℕ). max n c.args.told) c.unwrap_or.ensures in
    ap (λ (n : ℕ). core_by c.args.life.now.epoch c.in_ok-seats.seats c.in_ok-jobs.jobs begun (Some n)) most
    ∙ deposed_is c.args.life.now.epoch c.args.seats.now c.in_ok-seats.seats c.args.jobs.now c.in_ok-jobs.jobs begun c.args.told c.args.element c.args.deposed
    (c.in_ok-seats.ensures ∙ ap (map seat_dropped) c.as_slice.ensures) c.in_ok-jobs.ensures
