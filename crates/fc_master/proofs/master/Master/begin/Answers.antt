use Rattle.std.proofs.Common.{◌+◌, ◌++◌, ◌∷◌, [], List, sym, ap, ◌∙◌}
use Rattle.fc_protocol.specs.MasterMachine.{begins, sends_all}
use Rattle.fc_jobs.specs.declared.job.Job.{Job}
use Rattle.fc_jobs.specs.JobViews.{job_of, jobs_of}
use Rattle.fc_jobs.specs.Plans.{changes_in, participants_of, scopes_in}
use Rattle.fc_jobs.specs.Sending.{Begun, core_by, spelled}
use Rattle.fc_master.proofs.Changing.{all_decided}
use Rattle.fc_master.proofs.Entering.{begins_early, begun_core, plan_refusal}
use Rattle.fc_master.proofs.Rested.{one_behind, rested_done, sent_core, sent_says}
use Rattle.fc_master.specs.Resting.{with_tail}
use Rattle.fc_jobs.specs.Seats.{elements_of}
use Rattle.fc_master.proofs.Refusing.{refused_by}
use Rattle.fc_master.specs.Masters.{core_of}
use Rattle.fc_master.specs.Refusals.{begin_told, begin_told_by}
use Rattle.fc_master.proofs.master.Master.begin.Goals as goal

pub returns-in-Some-clause-refused : goal.returns-in-Some-clause-refused
returns-in-Some-clause-refused c =
    let same = plan_refusal (core_of c.args.self.now) c.in_ok-job.job c.args.plan c.in_ok-job.ensures.parts c.in_ok-job.ensures.changes c.in_ok-job.ensures.scopes in
    refused_by (begin_told c.in-Some.fault) _ (sym (ap begin_told_by c.in-Some.is) ∙ c.begin_fault.ensures ∙ same)

pub returns-in-Ok-clause-accepted : goal.returns-in-Ok-clause-accepted
returns-in-Ok-clause-accepted c =
    let same = plan_refusal (core_of c.args.self.now) c.in_ok-job.job c.args.plan c.in_ok-job.ensures.parts c.in_ok-job.ensures.changes c.in_ok-job.ensures.scopes in
    sym (c.begin_fault.ensures ∙ same) ∙ ap begin_told_by c.in_default.is

pub returns-in-Ok-clause-core : goal.returns-in-Ok-clause-core
returns-in-Ok-clause-core c = λ k.
    let me = c.args.self.now in
    let plan = c.args.plan in
    let j = c.in_ok-job.job in
    let same = plan_refusal (core_of me) j plan c.in_ok-job.ensures.parts c.in_ok-job.ensures.changes c.in_ok-job.ensures.scopes in
    let named = c.in_ok-job.ensures.txn (begins_early (core_of me) (participants_of plan) (changes_in plan) (scopes_in plan) (sym (c.begin_fault.ensures ∙ same) ∙ ap begin_told_by c.in_default.is)) in
    let e = me.life.epoch in
    let b : Begun = record { count = me.begun + 1; wanted = me.wanted } in
    let js = c.in_ok-jobs.jobs in
    let ss = c.in_ok-seats.seats in
    let ps = participants_of plan in
    ap (λ (us : List Job). core_by e c.send_due.new.seats us b me.deposed) c.in-Ok.ensures.ok
    ∙ sent_core k e me.jobs.rested ss c.send_due.new.seats me.jobs.all js b me.deposed (begins (core_of me) ps (changes_in plan) (scopes_in plan)) (rested_done me.jobs)
    (begun_core me j.txn ps (changes_in plan) (scopes_in plan) named ss (with_tail me.jobs.rested me.jobs.all js) (job_of j) c.in_ok-seats.ensures
    (one_behind e me.jobs.rested me.jobs.all js (rested_done me.jobs) (job_of j) (c.in_ok-jobs.ensures ∙ ap (λ (us : List Job). all_decided e (jobs_of us ++ job_of j ∷ [])) c.open.ensures)) c.in_ok-job.ensures.job)
    (ap (λ (us : List Job). core_by e c.send_due.new.seats us b me.deposed) (sym c.as_slice.ensures)
    ∙ c.in_ok-outs.ensures.core k b
    ∙ ap (λ (us : List Job). (sends_all k (elements_of ss) (core_by e ss us b me.deposed)).master) c.as_slice.ensures)

pub returns-in-Ok-clause-outs : goal.returns-in-Ok-clause-outs
returns-in-Ok-clause-outs c = λ k.
    let me = c.args.self.now in
    let plan = c.args.plan in
    let j = c.in_ok-job.job in
    let same = plan_refusal (core_of me) j plan c.in_ok-job.ensures.parts c.in_ok-job.ensures.changes c.in_ok-job.ensures.scopes in
    let named = c.in_ok-job.ensures.txn (begins_early (core_of me) (participants_of plan) (changes_in plan) (scopes_in plan) (sym (c.begin_fault.ensures ∙ same) ∙ ap begin_told_by c.in_default.is)) in
    let e = me.life.epoch in
    let b : Begun = record { count = me.begun + 1; wanted = me.wanted } in
    let js = c.in_ok-jobs.jobs in
    let ss = c.in_ok-seats.seats in
    let ps = participants_of plan in
    c.in_ok-outs.ensures.outs k b
    ∙ ap (λ (us : List Job). spelled me.life (sends_all k (elements_of ss) (core_by e ss us b me.deposed)).says) c.as_slice.ensures
    ∙ ap (spelled me.life)
    (sent_says k e me.jobs.rested ss c.send_due.new.seats me.jobs.all js b me.deposed (begins (core_of me) ps (changes_in plan) (scopes_in plan)) (rested_done me.jobs)
    (begun_core me j.txn ps (changes_in plan) (scopes_in plan) named ss (with_tail me.jobs.rested me.jobs.all js) (job_of j) c.in_ok-seats.ensures
    (one_behind e me.jobs.rested me.jobs.all js (rested_done me.jobs) (job_of j) (c.in_ok-jobs.ensures ∙ ap (λ (us : List Job). all_decided e (jobs_of us ++ job_of j ∷ [])) c.open.ensures)) c.in_ok-job.ensures.job))
