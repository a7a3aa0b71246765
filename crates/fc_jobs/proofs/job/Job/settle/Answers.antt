use Rattle.std.proofs.Common.{ℕ, Bool, List, ap, ◌∙◌}
use Rattle.fc_protocol.specs.Collections.{among}
use Rattle.fc_jobs.specs.JobViews.{job_of}
use Rattle.fc_jobs.proofs.Laws.{among_push, on_ok_by}
use Rattle.fc_jobs.proofs.job.Job.settle.Goals as goal

pub returns : goal.returns
returns c =
    let j = c.args.self.now in
    on_ok_by c.push.result c.push.ensures.ok (λ e. ap (λ (f : ℕ → Bool). record (job_of j) { settled = f }) (ap (λ (ps : List ℕ). λ q. among q ps) e ∙ among_push c.args.element j.settled))
