use Rattle.std.proofs.Common.{◌++◌, List, map, ap, ◌∙◌}
use Rattle.fc_protocol.specs.Jobs.{given_up}
use Rattle.fc_protocol.specs.MasterMachine.{finish, gives_up}
use Rattle.fc_jobs.specs.declared.job.Job.{Job}
use Rattle.fc_jobs.specs.declared.sending.CeOut.{CeOut}
use Rattle.fc_jobs.specs.JobViews.{jobs_of}
use Rattle.fc_jobs.specs.Sending.{spelled}
use Rattle.fc_master.specs.Masters.{core_of}
use Rattle.fc_master.proofs.Changing.{all_decided, given_up_is}
use Rattle.fc_master.proofs.Rested.{abort_behind, rested_done}
use Rattle.fc_master.specs.Resting.{with_tail}
use Rattle.fc_master.proofs.master.Master.give_up.Goals as goal

pub finish-requires-clause-done : goal.finish-requires-clause-done
finish-requires-clause-done c = rested_done c.args.self.now.jobs

pub returns-clause-core : goal.returns-clause-core
returns-clause-core c = λ k.
    let me = c.args.self.now in
    c.in_ok-outs.ensures.core (gives_up (core_of me) c.args.txn) k
    (given_up_is me c.in_ok-seats.seats (with_tail me.jobs.rested me.jobs.all c.in_ok-jobs.jobs) c.args.txn c.in_ok-seats.ensures
    (abort_behind me.life.epoch me.jobs.rested me.jobs.all c.in_ok-jobs.jobs (rested_done me.jobs) c.args.txn (c.in_ok-jobs.ensures ∙ ap (λ (js : List Job). all_decided me.life.epoch (map (given_up c.args.txn) (jobs_of js))) c.open.ensures)))

pub returns-clause-outs : goal.returns-clause-outs
returns-clause-outs c = λ k.
    let me = c.args.self.now in
    c.in_ok-outs.ensures.outs (gives_up (core_of me) c.args.txn) k
    (given_up_is me c.in_ok-seats.seats (with_tail me.jobs.rested me.jobs.all c.in_ok-jobs.jobs) c.args.txn c.in_ok-seats.ensures
    (abort_behind me.life.epoch me.jobs.rested me.jobs.all c.in_ok-jobs.jobs (rested_done me.jobs) c.args.txn (c.in_ok-jobs.ensures ∙ ap (λ (js : List Job). all_decided me.life.epoch (map (given_up c.args.txn) (jobs_of js))) c.open.ensures)))
    ∙ ap (λ (fs : List CeOut). fs ++ spelled me.life (finish k (gives_up (core_of me) c.args.txn)).says) c.new.ensures
