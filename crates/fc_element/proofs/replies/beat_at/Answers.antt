use Rattle.std.proofs.Common.{ap, ◌∙◌, Some}
use Rattle.fc_performing.specs.Sending.{out}
use Rattle.fc_element.proofs.Beats.{at_place}
use Rattle.fc_element.proofs.replies.beat_at.Goals as goal

pub returns-in-Some-clause-exact : goal.returns-in-Some-clause-exact
returns-in-Some-clause-exact c =
    ap (λ m. Some (out c.in-Some.seen.1 m)) c.heartbeat.ensures.exact ∙ at_place c.args.id c.args.place c.args.associations.now _ c.in-Some.ensures

pub returns-in-None-clause-exact : goal.returns-in-None-clause-exact
returns-in-None-clause-exact c = at_place c.args.id c.args.place c.args.associations.now _ c.in-None.ensures
