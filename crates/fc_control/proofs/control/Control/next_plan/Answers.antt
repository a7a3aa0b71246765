use Rattle.std.proofs.Common.{◌≡◌, ◌∙◌, ap, drop, IfOk, subst}
use Rattle.fc_control.specs.Controls.{control_of}
use Rattle.fc_control.specs.Planning.{next_parts}
use Rattle.fc_control.proofs.Planning.{next_none, next_some}
use Rattle.fc_control.proofs.control.Control.next_plan.Goals as goal

pub returns-in-Some : goal.returns-in-Some
returns-in-Some c =
    let l = c.transactions.result.now in
    let k = c.len.result in
    let found = c.in-Some.ensures.lookup in
    let next = next_some l k c.in-Some.transaction.now found.3.0 found.1 in
    let same = ap (λ l. next_parts (drop k l)) c.transactions.ensures ∙ ap (λ k. next_parts (drop k (control_of c.args.self.now).plan)) c.len.ensures in
    subst (λ o. IfOk c.plan_of.result (λ plan. plan ≡ o)) (next ∙ same) c.plan_of.ensures

pub returns-in-None : goal.returns-in-None
returns-in-None c =
    let l = c.transactions.result.now in
    let k = c.len.result in
    let same = ap (λ l. next_parts (drop k l)) c.transactions.ensures ∙ ap (λ k. next_parts (drop k (control_of c.args.self.now).plan)) c.len.ensures in
    next_none l k c.in-None.ensures.lookup.3 ∙ same
