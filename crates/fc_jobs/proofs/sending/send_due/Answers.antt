use Rattle.std.proofs.Common.{◌≡◌, ℕ, Option, IfOk, OnOk, sym, ap, ◌∙◌, subst}
use Rattle.fc_protocol.specs.MasterMachine.{Speaks, sends_all}
use Rattle.fc_jobs.specs.Seats.{elements_of}
use Rattle.fc_jobs.specs.Sending.{Begun, core_by, spelled}
use Rattle.fc_jobs.proofs.Finishing.{none_sent}
use Rattle.fc_jobs.proofs.sending.send_due.Goals as goal

pub returns-in-Some-clause-core : goal.returns-in-Some-clause-core
returns-in-Some-clause-core c = λ k begun.
    sym (ap (λ (r : Speaks). r.master) (none_sent k (elements_of c.args.seats.now) (core_by c.args.life.now.epoch c.args.seats.now c.args.jobs.now begun c.args.deposed) c.in-Some.field-0 c.in-Some.is))

pub returns-in-Some-clause-outs : goal.returns-in-Some-clause-outs
returns-in-Some-clause-outs c = λ k begun.
    c.new.ensures ∙ sym (ap (λ (r : Speaks). spelled c.args.life.now r.says)
    (none_sent k (elements_of c.args.seats.now) (core_by c.args.life.now.epoch c.args.seats.now c.args.jobs.now begun c.args.deposed) c.in-Some.field-0 c.in-Some.is))

pub returns-in-None-clause-core : goal.returns-in-None-clause-core
returns-in-None-clause-core c =
    subst (λ (t : Option ℕ). OnOk c.send_all.result ((k : ℕ) (begun : Begun) → core_by c.args.life.now.epoch c.send_all.new.seats c.args.jobs.now begun t
    ≡ (sends_all k (elements_of c.args.seats.now) (core_by c.args.life.now.epoch c.args.seats.now c.args.jobs.now begun t)).master)) (sym c.in-None.is) c.send_all.ensures.core

pub returns-in-None-clause-outs : goal.returns-in-None-clause-outs
returns-in-None-clause-outs c =
    subst (λ (t : Option ℕ). IfOk c.send_all.result (λ outs. (k : ℕ) (begun : Begun) → outs ≡ spelled c.args.life.now (sends_all k (elements_of c.args.seats.now) (core_by c.args.life.now.epoch c.args.seats.now c.args.jobs.now begun t)).says))
    (sym c.in-None.is) c.send_all.ensures.outs
