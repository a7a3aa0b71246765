use Rattle.fc_jobs.specs.JobViews.{jobs_of}
use Rattle.fc_jobs.specs.Seats.{peer_of}
use Rattle.fc_master.proofs.Refusing.{idle_is}
use Rattle.fc_master.specs.Refusals.{begin_told_by}
use Rattle.fc_master.proofs.refusals.seat_fault.Goals as goal

pub returns-in-None-clause-told : goal.returns-in-None-clause-told
returns-in-None-clause-told c = λ e.
    idle_is (peer_of e c.args.seat.now) c.args.seat.now.element c.args.scope.now (jobs_of c.args.jobs.now) c.is_unready.result c.busy_at.result (begin_told_by c.engaged_fault.result) c.if-is_unready.false c.is_unready.ensures c.in-None.is c.busy_at.ensures (c.engaged_fault.ensures.told e)
