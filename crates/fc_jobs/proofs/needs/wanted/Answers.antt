use Rattle.std.proofs.Common.{◌≡◌, ℕ, option_map, sym, ◌∙◌}
use Rattle.fc_protocol.specs.Collections.{or_next}
use Rattle.fc_protocol.specs.Jobs.{first_need}
use Rattle.fc_protocol.specs.MasterMachine.{floor_body}
use Rattle.fc_jobs.specs.Seats.{peer_of, alone}
use Rattle.fc_asks.specs.Bodies.{body_of}
use Rattle.fc_jobs.specs.JobViews.{jobs_of}
use Rattle.fc_jobs.proofs.Dues.{if_ok_on, wanted_last}
use Rattle.fc_jobs.proofs.needs.wanted.Goals as goal

pub returns : goal.returns
returns c =
    let seat = c.args.seat.now in
    let js = jobs_of c.args.jobs.now in
    if_ok_on (λ asks. (e : ℕ) → option_map (body_of e) asks ≡ or_next (first_need js seat.element) (floor_body seat.owes)) _ c.need_or_floor.result
    (λ asks f e d. f e ∙ sym (wanted_last (alone e (peer_of e seat) js d) seat.element (peer_of e seat) c.if-seat.false c.if-not-seat.false c.if-not-seat-2.false)) c.need_or_floor.ensures
