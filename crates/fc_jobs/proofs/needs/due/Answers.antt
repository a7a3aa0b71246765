use Rattle.std.proofs.Common.{None, Some, option_map, sym, ap, ◌∙◌}
use Rattle.fc_jobs.specs.Seats.{peer_of, alone}
use Rattle.fc_asks.specs.Bodies.{body_of}
use Rattle.fc_jobs.specs.JobViews.{jobs_of}
use Rattle.fc_jobs.proofs.Dues.{due_open}
use Rattle.fc_jobs.proofs.needs.due.Goals as goal

pub returns-in-None-clause-exact : goal.returns-in-None-clause-exact
returns-in-None-clause-exact c = λ e.
    let seat = c.args.seat.now in
    sym (due_open (alone e (peer_of e seat) (jobs_of c.args.jobs.now) None) seat.element None (sym (c.is_open.ensures e) ∙ c.if-not-is_open.false)
    (sym (c.in_ok-wanted.ensures e None) ∙ ap (option_map (body_of e)) c.in-None.is))

pub returns-in-Some-clause-exact : goal.returns-in-Some-clause-exact
returns-in-Some-clause-exact c = λ e.
    let seat = c.args.seat.now in
    c.unspent.ensures.exact e ∙ sym (due_open (alone e (peer_of e seat) (jobs_of c.args.jobs.now) None) seat.element (Some (body_of e c.in-Some.asks)) (sym (c.is_open.ensures e) ∙ c.if-not-is_open.false)
    (sym (c.in_ok-wanted.ensures e None) ∙ ap (option_map (body_of e)) c.in-Some.is))
