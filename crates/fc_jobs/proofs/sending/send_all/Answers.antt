use Rattle.std.proofs.Common.{◌≡◌, ℕ, ◌+◌, ◌<◌, length, get_or, ap, ◌∙◌, arith}
use Rattle.fc_jobs.specs.Sending.{Begun, nothing_begun}
use Rattle.fc_jobs.proofs.SendingAll.{Goes, sent_goes, quiet_goes, master_end, outs_end, same_count}
use Rattle.fc_jobs.proofs.sending.send_all.Goals.{in-Some+in_ok-push, in_default}
use Rattle.fc_jobs.proofs.sending.send_all.Goals as goal

goes_on : (c : goal.Joined-branch-2) (k : ℕ) (begun : Begun) → Goes c.args.life.now c.args.jobs.now k begun c.match-branch-2.seats c.args.seats.now (c.loop-at.at + 1) c.match-branch-2.outs
goes_on c k begun =
    let s = c.index-as_slice-at.result in
    let l : c.loop-at.at < length c.loop-at.seats = omega arith in
    let g : s ≡ get_or c.loop-at.seats c.loop-at.at s = c.index-as_slice-at.is ∙ ap (λ xs. get_or xs c.loop-at.at s) c.as_slice.ensures in
    let x = c.loop-at.invariant.goes k begun in
    elim c.match-branch-2.branch [
      | in-Some+in_ok-push w ↦
          sent_goes c.args.life.now c.args.jobs.now k begun c.loop-at.seats c.args.seats.now c.loop-at.at c.loop-at.outs s l g c.requires x c.in_ok-sending.field-0 w.in-Some.sending _ _
          w.in-Some.is (w.seats-is ∙ w.set.ensures) (w.outs-is ∙ w.in_ok-push.ensures.ok) c.in_ok-sending.ensures.element c.in_ok-sending.ensures.peer c.in_ok-sending.ensures.out
      | in_default w ↦
          quiet_goes c.args.life.now c.args.jobs.now k begun c.loop-at.seats c.args.seats.now c.loop-at.at c.loop-at.outs s l g c.requires x c.in_ok-sending.field-0 _ _
          w.in_default.is w.seats-is w.outs-is c.in_ok-sending.ensures.peer
    ]

pub loop-at-preserved : goal.loop-at-preserved
loop-at-preserved c = record { count = same_count _ _ (goes_on c 0 nothing_begun).elements; goes = goes_on c }

pub returns-clause-elements : goal.returns-clause-elements
returns-clause-elements c = (c.loop-at.invariant.goes 0 nothing_begun).elements

pub returns-clause-core : goal.returns-clause-core
returns-clause-core c = λ k begun. master_end c.args.life.now c.args.jobs.now k begun c.loop-at.seats c.args.seats.now c.loop-at.at c.loop-at.outs (omega arith) (c.loop-at.invariant.goes k begun)

pub returns-clause-outs : goal.returns-clause-outs
returns-clause-outs c = λ k begun. outs_end c.args.life.now c.args.jobs.now k begun c.loop-at.seats c.args.seats.now c.loop-at.at c.loop-at.outs (omega arith) (c.loop-at.invariant.goes k begun)
