use Rattle.std.proofs.Common.{◌++◌, List, sym, ap, ◌∙◌}
use Rattle.fc_protocol.specs.MasterMachine.{sends_all}
use Rattle.fc_jobs.specs.declared.job.Job.{Job}
use Rattle.fc_jobs.specs.declared.sending.CeOut.{CeOut}
use Rattle.fc_jobs.specs.Seats.{elements_of}
use Rattle.fc_jobs.specs.Sending.{are_apart, core_by, spelled}
use Rattle.fc_master.specs.Masters.{begun_of}
use Rattle.fc_master.proofs.Rested.{sent_core, sent_says}
use Rattle.fc_master.proofs.master.Master.finish.Goals as goal

pub send_due-requires : goal.send_due-requires
send_due-requires c = ap are_apart c.requires.elements ∙ c.args.self.now.apart

pub invariant_of-self-2 : goal.invariant_of-self-2
invariant_of-self-2 c = record { apart = ap are_apart (c.in_ok-due.ensures.elements ∙ c.requires.elements) ∙ c.args.self.now.apart }

pub returns-clause-core : goal.returns-clause-core
returns-clause-core c = λ m k f.
    let me = c.args.self.now in
    let h = c.args.heard in
    let e = me.life.epoch in
    ap (λ (js : List Job). core_by e c.send_due.new.seats js (begun_of me) h.deposed) c.in_ok-replace.ensures.ok
    ∙ sent_core k e c.args.from h.seats c.send_due.new.seats me.jobs.all h.jobs (begun_of me) h.deposed m c.requires.done f
    (ap (λ (js : List Job). core_by e c.send_due.new.seats js (begun_of me) h.deposed) (sym c.as_slice.ensures)
    ∙ c.in_ok-due.ensures.core k (begun_of me)
    ∙ ap (λ (js : List Job). (sends_all k (elements_of h.seats) (core_by e h.seats js (begun_of me) h.deposed)).master) c.as_slice.ensures)

pub returns-clause-outs : goal.returns-clause-outs
returns-clause-outs c = λ m k f.
    let me = c.args.self.now in
    let h = c.args.heard in
    let e = me.life.epoch in
    c.in_ok-outs.ensures
    ∙ ap (λ (os : List CeOut). c.args.first ++ os)
    (c.in_ok-due.ensures.outs k (begun_of me)
    ∙ ap (λ (js : List Job). spelled me.life (sends_all k (elements_of h.seats) (core_by e h.seats js (begun_of me) h.deposed)).says) c.as_slice.ensures
    ∙ ap (spelled me.life) (sent_says k e c.args.from h.seats c.send_due.new.seats me.jobs.all h.jobs (begun_of me) h.deposed m c.requires.done f))
