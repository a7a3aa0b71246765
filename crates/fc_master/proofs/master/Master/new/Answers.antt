use Rattle.std.proofs.Common.{List, [], None, ap, ◌∙◌}
use Rattle.fc_jobs.specs.declared.job.Job.{Job}
use Rattle.fc_jobs.specs.declared.seat.Seat.{Seat}
use Rattle.fc_jobs.specs.Seats.{elements_of}
use Rattle.fc_jobs.specs.Sending.{are_apart, core_by, nothing_begun}
use Rattle.fc_master.proofs.Unknown.{fresh, same_elements}
use Rattle.fc_master.proofs.master.Master.new.Goals as goal

pub invariant_of-result : goal.invariant_of-result
invariant_of-result c = record { apart = ap are_apart (ap elements_of c.in_ok-seats.ensures ∙ same_elements c.args.elements.now) ∙ c.requires }

pub returns-clause-core : goal.returns-clause-core
returns-clause-core c =
    ap (λ (js : List Job). core_by c.args.epoch c.in_ok-seats.seats js nothing_begun None) c.new-3.ensures
    ∙ ap (λ (ss : List Seat). core_by c.args.epoch ss [] nothing_begun None) c.in_ok-seats.ensures
    ∙ fresh c.args.epoch c.args.elements.now
