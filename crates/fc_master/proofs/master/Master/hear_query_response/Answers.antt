use Rattle.std.proofs.Common.{◌≡◌, ◌++◌, ℕ, List, ap, ◌∙◌}
use Rattle.fc_protocol.specs.MasterMachine.{Master as Core, decide_all, finish}
use Rattle.fc_jobs.specs.declared.job.Job.{Job}
use Rattle.fc_jobs.specs.declared.sending.CeOut.{CeOut}
use Rattle.fc_jobs.specs.Answers.{answered}
use Rattle.fc_jobs.specs.Sending.{core_by, spelled}
use Rattle.fc_jobs.proofs.Dues.{if_ok_on}
use Rattle.fc_jobs.proofs.Laws.{on_ok_by}
use Rattle.fc_master.specs.Masters.{begun_of, core_of}
use Rattle.fc_master.specs.Resting.{with_tail}
use Rattle.fc_master.proofs.master.Master.hear_query_response.Goals as goal

pub returns-clause-core : goal.returns-clause-core
returns-clause-core c =
    let me = c.args.self.now in
    on_ok_by c.finish.result c.finish.ensures.core (λ f k. f (answered (core_of me) c.args.element c.args.corr c.args.selects.now) k
    (c.in_ok-heard.ensures.core (begun_of me) ∙ ap (λ (js : List Job). decide_all (answered (core_by me.life.epoch me.seats js (begun_of me) me.deposed) c.args.element c.args.corr c.args.selects.now)) c.as_slice.ensures))

pub returns-clause-outs : goal.returns-clause-outs
returns-clause-outs c =
    let me = c.args.self.now in
    let h = c.in_ok-heard.heard in
    if_ok_on (λ (outs : List CeOut). (m : Core) (k : ℕ) → core_by me.life.epoch h.seats (with_tail 0 me.jobs.all h.jobs) (begun_of me) h.deposed ≡ decide_all m → outs ≡ c.new.result ++ spelled me.life (finish k m).says) _ c.finish.result
    (λ outs f k. f (answered (core_of me) c.args.element c.args.corr c.args.selects.now) k
    (c.in_ok-heard.ensures.core (begun_of me) ∙ ap (λ (js : List Job). decide_all (answered (core_by me.life.epoch me.seats js (begun_of me) me.deposed) c.args.element c.args.corr c.args.selects.now)) c.as_slice.ensures)
    ∙ ap (λ (fs : List CeOut). fs ++ spelled me.life (finish k (answered (core_of me) c.args.element c.args.corr c.args.selects.now)).says) c.new.ensures) c.finish.ensures.outs
