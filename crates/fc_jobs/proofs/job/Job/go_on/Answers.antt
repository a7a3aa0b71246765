use Rattle.std.proofs.Common.{ℕ, ap, ◌∙◌}
use Rattle.fc_jobs.specs.JobViews.{job_of}
use Rattle.fc_asks.specs.Tables.{counts}
use Rattle.fc_jobs.proofs.Laws.{counts_placed, one_more, no_more, le_is, le_not, on_ok_by}
use Rattle.fc_jobs.proofs.job.Job.go_on.Goals as goal

pub returns-then-done-changes_at : goal.returns-then-done-changes_at
returns-then-done-changes_at c =
    let j = c.args.self.now in
    let p = c.args.element in
    on_ok_by c.place.result c.place.ensures.ok (λ e. ap (λ (f : ℕ → ℕ). record (job_of j) { done = f })
    (ap counts e ∙ counts_placed p _ j.done ∙ one_more p _ j.done j.changes c.done_at-done.ensures (le_is _ _ _ _ c.done_at-done.ensures c.changes_at.ensures.same c.if-done-changes_at.true)))

pub returns-else-done-changes_at : goal.returns-else-done-changes_at
returns-else-done-changes_at c =
    let j = c.args.self.now in
    let p = c.args.element in
    on_ok_by c.place-else-done-changes_at.result c.place-else-done-changes_at.ensures.ok (λ e. ap (λ (f : ℕ → ℕ). record (job_of j) { done = f })
    (ap counts e ∙ counts_placed p _ j.done ∙ no_more p _ j.done j.changes c.done_at-done.ensures (le_not _ _ _ _ c.done_at-done.ensures c.changes_at.ensures.same c.if-done-changes_at.false)))
