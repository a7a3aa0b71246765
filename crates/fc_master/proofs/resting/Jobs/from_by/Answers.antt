use Rattle.std.proofs.Common.{◌≡◌, take, option_map, sym, ap, subst, ◌∙◌}
use Rattle.fc_protocol.specs.MasterMachine.{Waiting}
use Rattle.fc_asks.specs.Bodies.{body_of}
use Rattle.fc_jobs.specs.JobViews.{jobs_of}
use Rattle.fc_jobs.specs.Seats.{waiting_of}
use Rattle.fc_master.specs.Resting.{LeavesAlone}
use Rattle.fc_master.proofs.Rested.{leaves_alone, same_waiting}
use Rattle.fc_master.proofs.resting.Jobs.from_by.Goals as goal

pub returns-then-leaves_rested-clause-leaves : goal.returns-then-leaves_rested-clause-leaves
returns-then-leaves_rested-clause-leaves c = λ e o f.
    let js = c.args.self.now in
    let w = c.in-Some.waits in
    let here : waiting_of e w ≡ o = same_waiting (waiting_of e w) o (ap (option_map (waiting_of e)) (sym c.in-Some.is) ∙ f) in
    subst (λ (v : Waiting). LeavesAlone (jobs_of (take js.rested js.all)) v.body) here
    (leaves_alone js.epoch js.passed (jobs_of (take js.rested js.all)) js.rest (body_of e w.asks) (sym (c.leaves_rested.ensures e) ∙ c.if-leaves_rested.true))
