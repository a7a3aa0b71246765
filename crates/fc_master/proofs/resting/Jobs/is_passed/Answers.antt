use Rattle.std.proofs.Common.{◌+◌, List, nat_lt, ap, ◌∙◌}
use Rattle.fc_protocol.specs.MasterMachine.{last_count, reserved}
use Rattle.fc_jobs.specs.declared.job.Job.{Job}
use Rattle.fc_jobs.specs.JobViews.{jobs_of}
use Rattle.fc_master.proofs.Rested.{reserved_open}
use Rattle.fc_master.proofs.resting.Jobs.is_passed.Goals as goal

pub returns : goal.returns
returns c =
    let p = c.args.element in
    let n = c.args.sequence in
    c.is_passed.ensures
    ∙ ap (λ (js : List Job). nat_lt last_count (n + reserved p (jobs_of js))) c.open.ensures
    ∙ ap (λ r. nat_lt last_count (n + r)) (reserved_open p c.args.self.now)
