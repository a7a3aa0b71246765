use Rattle.std.proofs.Common.{◌≡◌, ◌≤◌, true, List, length, take, sym, subst, ◌∙◌, arith}
use Rattle.std.specs.List.{list_all}
use Rattle.fc_jobs.specs.declared.job.Job.{Job}
use Rattle.fc_jobs.specs.JobViews.{jobs_of}
use Rattle.fc_master.specs.Resting.{rests}
use Rattle.fc_master.proofs.Rested.{first_all, still_few, still_rest}
use Rattle.fc_master.proofs.resting.Jobs.replace.Goals as goal

pub rest_of-rested-requires-clause-few : goal.rest_of-rested-requires-clause-few
rest_of-rested-requires-clause-few c =
    let js = c.args.self.now in
    let few : c.lesser-rested.result ≤ length js.all = omega (arith, c.lesser-rested.ensures.other, js.few) in
    subst (λ (us : List Job). c.lesser-rested.result ≤ length us) (sym (c.as_slice.ensures ∙ c.in_ok-put_tail.ensures.ok)) (still_few c.args.from c.lesser-rested.result js.all c.args.tail c.lesser-rested.ensures.one few)

pub rest_of-rested-requires-clause-rest : goal.rest_of-rested-requires-clause-rest
rest_of-rested-requires-clause-rest c =
    let js = c.args.self.now in
    let r = c.lesser-rested.result in
    let few : r ≤ length js.all = omega (arith, c.lesser-rested.ensures.other, js.few) in
    subst (λ (us : List Job). list_all (rests js.epoch js.passed) (jobs_of (take r us)) ≡ true) (sym (c.as_slice.ensures ∙ c.in_ok-put_tail.ensures.ok))
    (still_rest js.epoch js.passed c.args.from r js.all c.args.tail c.lesser-rested.ensures.one few (first_all (rests js.epoch js.passed) js.all r js.rested c.lesser-rested.ensures.other js.rest))
