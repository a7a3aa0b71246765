use Rattle.std.proofs.Common.{List, ap, sym, ◌∙◌}
use Rattle.fc_protocol.specs.MasterMachine.{own_job}
use Rattle.fc_jobs.specs.declared.job.Job.{Job}
use Rattle.fc_jobs.specs.JobViews.{jobs_of}
use Rattle.fc_master.proofs.Rested.{own_open}
use Rattle.fc_master.proofs.resting.Jobs.own.Goals as goal

pub returns-then-is_later : goal.returns-then-is_later
returns-then-is_later c =
    let x = c.args.txn in
    c.own_job.ensures
    ∙ ap (λ (js : List Job). own_job x (jobs_of js)) c.open.ensures
    ∙ own_open x c.args.self.now (sym c.is_later.ensures ∙ c.if-is_later.true)
