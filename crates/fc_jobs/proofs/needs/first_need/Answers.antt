use Rattle.std.proofs.Common.{option_map, sym, ap, ◌∙◌, arith}
use Rattle.fc_asks.specs.Bodies.{body_of}
use Rattle.fc_jobs.proofs.Dues.{need_here, need_later}
use Rattle.fc_jobs.proofs.needs.first_need.Goals as goal

pub returns-in-Some : goal.returns-in-Some
returns-in-Some c = λ e. need_here c.args.jobs.now c.loop-job.job-index c.job-item.result c.args.element (body_of e c.in-Some.asks) (omega arith) c.job-item.is
    (sym (c.in_ok-asks.ensures e) ∙ ap (option_map (body_of e)) c.in-Some.is) c.loop-job.invariant

pub loop-job-preserved : goal.loop-job-preserved
loop-job-preserved c = need_later c.args.jobs.now c.loop-job.job-index c.job-item.result c.args.element (omega arith) c.job-item.is
    (sym (c.in_ok-asks.ensures 0) ∙ ap (option_map (body_of 0)) c.in_default.is) c.loop-job.invariant
