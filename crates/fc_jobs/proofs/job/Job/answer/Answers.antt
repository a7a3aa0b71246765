use Rattle.std.proofs.Common.{ℕ, Option, ap, ◌∙◌}
use Rattle.fc_protocol.specs.declared.answers.Answer.{Answer}
use Rattle.fc_jobs.specs.JobViews.{job_of}
use Rattle.fc_asks.specs.Tables.{table}
use Rattle.fc_jobs.proofs.Laws.{table_placed, on_ok_by}
use Rattle.fc_jobs.proofs.job.Job.answer.Goals as goal

pub returns : goal.returns
returns c =
    let j = c.args.self.now in
    on_ok_by c.place.result c.place.ensures.ok (λ e. ap (λ (f : ℕ → Option Answer). record (job_of j) { answers = f }) (ap table e ∙ table_placed c.args.element c.args.answer j.answers))
