use Rattle.std.proofs.Common.{option_map, sym, ap, ◌∙◌}
use Rattle.fc_protocol.specs.Jobs.{first_need as first_needed}
use Rattle.fc_protocol.specs.MasterMachine.{floor_body}
use Rattle.fc_asks.specs.Bodies.{body_of}
use Rattle.fc_jobs.specs.JobViews.{jobs_of}
use Rattle.fc_jobs.proofs.Dues.{some_next, none_next}
use Rattle.fc_jobs.proofs.needs.need_or_floor.Goals as goal

pub returns-in-Some : goal.returns-in-Some
returns-in-Some c = λ e. some_next (first_needed (jobs_of c.args.jobs.now) c.args.seat.now.element) (floor_body c.args.seat.now.owes) (body_of e c.in-Some.asks) (sym (c.in_ok-asks.ensures e) ∙ ap (option_map (body_of e)) c.in-Some.is)

pub returns-in-None : goal.returns-in-None
returns-in-None c = λ e. c.floor_asks.ensures e ∙ none_next (first_needed (jobs_of c.args.jobs.now) c.args.seat.now.element) (floor_body c.args.seat.now.owes) (sym (c.in_ok-asks.ensures e) ∙ ap (option_map (body_of e)) c.in-None.is)
