use Rattle.std.proofs.Common.{◌≡◌}
use Rattle.fc_protocol.specs.Messages.{stamp}
use Rattle.fc_jobs.specs.Seats.{peer_of, waiting_of}
use Rattle.fc_jobs.proofs.Asking.{question_is, no_question}
use Rattle.fc_jobs.proofs.answers.asked.Goals as goal

pub returns-in-Some-clause-some : goal.returns-in-Some-clause-some
returns-in-Some-clause-some c =
    let e = c.args.epoch in
    let w = c.in-Some.waits.now in
    question_is (stamp c.args.corr) (peer_of e c.args.seat.now).waits (waiting_of e w) c.in-Some.ensures.some.0 c.in-Some.ensures.some.1 c.question.result (c.question.ensures e)

pub returns-in-Some-clause-none : goal.returns-in-Some-clause-none
returns-in-Some-clause-none c =
    let e = c.args.epoch in
    let w = c.in-Some.waits.now in
    no_question (stamp c.args.corr) (peer_of e c.args.seat.now).waits (waiting_of e w) c.in-Some.ensures.some.0 c.in-Some.ensures.some.1 c.question.result (c.question.ensures e)
