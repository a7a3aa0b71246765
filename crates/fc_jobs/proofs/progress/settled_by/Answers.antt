use Rattle.std.proofs.Common.{◌<◌, length, sym, ap, ◌∙◌, arith}
use Rattle.fc_protocol.specs.Jobs.{answer_is}
use Rattle.fc_asks.specs.Tables.{found}
use Rattle.fc_jobs.proofs.Laws.{kept, left, all_kept}
use Rattle.fc_jobs.proofs.progress.settled_by.Goals.{then-has_answer_for+in_ok-push, else-has_answer_for}
use Rattle.fc_jobs.proofs.progress.settled_by.Goals as goal

pub loop-entry-preserved : goal.loop-entry-preserved
loop-entry-preserved c =
    let xs = c.args.answers.now in
    let x = c.entry-item.result in
    let is = sym (c.has_answer_for.ensures ∙ ap (answer_is c.args.decision) c.look.ensures) in
    let l : c.loop-entry.entry-index < length xs = omega arith in
    elim c.if-has_answer_for.branch [
      | then-has_answer_for+in_ok-push w ↦
          kept (λ q. answer_is c.args.decision (found q xs)) xs c.loop-entry.entry-index x c.loop-entry.settled _ l c.entry-item.is (w.settled-is ∙ w.in_ok-push.ensures.ok) (is ∙ w.if-has_answer_for.true) c.loop-entry.invariant
      | else-has_answer_for w ↦
          left (λ q. answer_is c.args.decision (found q xs)) xs c.loop-entry.entry-index x c.loop-entry.settled _ l c.entry-item.is w.settled-is (is ∙ w.if-has_answer_for.false) c.loop-entry.invariant
    ]

pub returns : goal.returns
returns c = all_kept (λ q. answer_is c.args.decision (found q c.args.answers.now)) c.args.answers.now c.loop-entry.entry-index c.loop-entry.settled (omega arith)
    (λ q e. ap (answer_is c.args.decision) e) c.loop-entry.invariant
