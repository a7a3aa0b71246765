use Rattle.std.proofs.Common.{◌≡◌, ◌++◌, ℕ, List}
use Rattle.fc_protocol.specs.MasterMachine.{Master as Core, decide_all, finish}
use Rattle.fc_jobs.specs.declared.sending.CeOut.{CeOut}
use Rattle.fc_jobs.specs.Sending.{core_by, spelled}
use Rattle.fc_jobs.proofs.Dues.{if_ok_on}
use Rattle.fc_jobs.proofs.Laws.{on_ok_by}
use Rattle.fc_master.specs.Masters.{begun_of, core_of}
use Rattle.fc_master.specs.Resting.{with_tail}
use Rattle.fc_master.proofs.Changing.{as_it_is}
use Rattle.fc_master.proofs.Rested.{rested_done, same_behind}
use Rattle.fc_master.proofs.master.Master.finish_unchanged.Goals as goal

pub finish-requires-clause-done : goal.finish-requires-clause-done
finish-requires-clause-done c = rested_done c.args.self.now.jobs

pub returns-clause-core : goal.returns-clause-core
returns-clause-core c =
    let me = c.args.self.now in
    let h = c.in_ok-heard.heard in
    on_ok_by c.finish.result c.finish.ensures.core (λ f k. f (core_of me) k (as_it_is me h.seats (with_tail me.jobs.rested me.jobs.all h.jobs) h.deposed c.in_ok-heard.ensures.seats (same_behind me.life.epoch me.jobs.rested me.jobs.all h.jobs (rested_done me.jobs) c.in_ok-heard.ensures.jobs) c.in_ok-heard.ensures.deposed))

pub returns-clause-outs : goal.returns-clause-outs
returns-clause-outs c =
    let me = c.args.self.now in
    let h = c.in_ok-heard.heard in
    if_ok_on (λ (outs : List CeOut). (m : Core) (k : ℕ) → core_by me.life.epoch h.seats (with_tail me.jobs.rested me.jobs.all h.jobs) (begun_of me) h.deposed ≡ decide_all m → outs ≡ c.args.first ++ spelled me.life (finish k m).says) _ c.finish.result
    (λ outs f k. f (core_of me) k (as_it_is me h.seats (with_tail me.jobs.rested me.jobs.all h.jobs) h.deposed c.in_ok-heard.ensures.seats (same_behind me.life.epoch me.jobs.rested me.jobs.all h.jobs (rested_done me.jobs) c.in_ok-heard.ensures.jobs) c.in_ok-heard.ensures.deposed)) c.finish.ensures.outs
