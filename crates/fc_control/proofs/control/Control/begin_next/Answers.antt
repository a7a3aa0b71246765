use Rattle.std.proofs.Common.{◌∙◌, ◌++◌, [], refl, sym, subst, ap}
use Rattle.fc_peers.proofs.Acts.{acts_none, acts_on}
use Rattle.fc_peers.specs.Acting.{Acts}
use Rattle.fc_control.specs.Beginning.{begins_if}
use Rattle.fc_control.specs.ControlNode.{begins_next, begins_one, refusal_of}
use Rattle.fc_control.specs.Controls.{control_of}
use Rattle.fc_control.proofs.Going.{before, begun_more, begun_refused, begun_until, fewer_left, is_free, is_shut}
use Rattle.fc_control.proofs.control.Control.begin_next.Goals as goal

pub plans-init : goal.plans-init
plans-init g c = record { begun = ([], acts_none _, refl); count = refl }

pub plans-preserved : goal.plans-preserved
plans-preserved g c =
    let (acts, done, is) = c.plans.invariant.begun in
    let n = control_of c.plans.self in
    let plan = c.in-Ok-Some.plan in
    let next = sym c.in-Ok-Some.ensures ∙ c.in-Ok-Some.field-0-is in
    let told = c.in-Ok-true.ensures in
    let test = c.in-Ok-true.field-0-test in
    let free = is_free (refusal_of plan n) c.in-Ok-true.field-0 told.begun test in
    let all = acts ++ (begins_one plan n).acts in
    record {
      begun = (
        all,
        acts_on _ _ _ acts (begins_one plan n).acts done (subst (λ b. Acts (g.H.Hub.held c.plans.hub) (g.H.Hub.held c.begin.new.hub) (begins_if b plan n).acts) test told.acts),
        begun_more _ acts n plan is next free ∙ ap (λ m. before all (begins_next m)) (sym (told.ok ∙ ap (λ b. (begins_if b plan n).state) test)),
      );
      count = told.count ∙ c.plans.invariant.count;
    }

pub plans-smaller : goal.plans-smaller
plans-smaller g c =
    let n = control_of c.plans.self in
    let plan = c.in-Ok-Some.plan in
    let next = sym c.in-Ok-Some.ensures ∙ c.in-Ok-Some.field-0-is in
    fewer_left n (control_of c.begin.new.self) plan next (c.in-Ok-true.ensures.ok ∙ ap (λ b. (begins_if b plan n).state) c.in-Ok-true.field-0-test)

pub returns-in-Ok-false-clause-ok : goal.returns-in-Ok-false-clause-ok
returns-in-Ok-false-clause-ok g c =
    let (acts, done, is) = c.plans.invariant.begun in
    let n = control_of c.plans.self in
    let plan = c.in-Ok-Some.plan in
    let next = sym c.in-Ok-Some.ensures ∙ c.in-Ok-Some.field-0-is in
    let told = c.in-Ok-false.ensures in
    let test = c.in-Ok-false.field-0-test in
    let shut = is_shut (refusal_of plan n) c.in-Ok-false.field-0 told.begun test in
    told.ok ∙ ap (λ b. (begins_if b plan n).state) test ∙ sym (ap (λ t. t.state) (begun_refused _ acts n plan is next shut))

pub returns-in-Err-begin-clause-err : goal.returns-in-Err-begin-clause-err
returns-in-Err-begin-clause-err g c =
    let (acts, done, is) = c.plans.invariant.begun in
    let next = sym c.in-Ok-Some.ensures ∙ c.in-Ok-Some.field-0-is in
    begun_until c.in-Err-begin.stop _ _ _ _ acts (control_of c.plans.self) c.in-Ok-Some.plan is next done c.in-Err-begin.ensures.err
