use Rattle.std.proofs.Common.{◌≡◌, ℕ, IfOk, option_map, None, Some, sym, ◌∙◌, subst, ap}
use Rattle.fc_protocol.specs.Collections.{among as stands}
use Rattle.fc_asks.specs.Bodies.{body_of}
use Rattle.fc_jobs.specs.JobViews.{job_of}
use Rattle.fc_jobs.proofs.Dues.{needs_by}
use Rattle.fc_jobs.proofs.needs.needs.Goals as goal

pub returns-in-None : goal.returns-in-None
returns-in-None c =
    subst (λ t. IfOk c.undecided_asks.result (λ asks. (e : ℕ) → option_map (body_of e) asks ≡ t))
    (sym (needs_by (job_of c.args.job.now) c.args.element None (sym (ap (stands c.args.element) c.as_slice.ensures) ∙ (sym c.among.ensures ∙ c.if-not-among.false)) c.in-None.is)) c.undecided_asks.ensures

pub returns-in-Some : goal.returns-in-Some
returns-in-Some c = λ e. c.decided_asks.ensures e ∙ sym (needs_by (job_of c.args.job.now) c.args.element (Some c.in-Some.decision) (sym (ap (stands c.args.element) c.as_slice.ensures) ∙ (sym c.among.ensures ∙ c.if-not-among.false)) c.in-Some.is)
