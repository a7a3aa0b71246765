use Rattle.fc_hearing.proofs.Noticed.{answer_heard, beats_others}
use Rattle.fc_hearing.proofs.laws.heartbeats_are_heard.Goals as goal

pub returns-clause-beats : goal.returns-clause-beats
returns-clause-beats c = beats_others

pub returns-clause-answers : goal.returns-clause-answers
returns-clause-answers c = answer_heard
