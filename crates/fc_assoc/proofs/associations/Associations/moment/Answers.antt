use Rattle.std.proofs.Common.{◌∙◌, map, ap}
use Rattle.std.specs.List.{filter}
use Rattle.fc_assoc.specs.Associations.{is_past}
use Rattle.fc_assoc.proofs.Maps.{Pairs}
use Rattle.fc_assoc.proofs.Moments.{stays, silent_are}
use Rattle.fc_assoc.proofs.associations.Associations.moment.Goals as goal

pub invariant_of-self : goal.invariant_of-self
invariant_of-self c = (stays c.args.self.now c.self.inside.pairs.items c.keep_heard.new.pairs.items c.args.now c.args.dead c.self.view_is c.self.invariant c.keep_heard.ensures).kept

pub returns-clause-ended : goal.returns-clause-ended
returns-clause-ended c =
    c.in_ok-ids.ensures
    ∙ ap (λ (xs : Pairs). map (λ e. e.0) (filter (λ e. is_past e.1 c.args.now c.args.dead) xs)) c.as_slice.ensures.value
    ∙ silent_are c.args.self.now c.self.inside.pairs.items c.args.now c.args.dead c.self.view_is c.self.invariant

pub returns-clause-ok : goal.returns-clause-ok
returns-clause-ok c = (stays c.args.self.now c.self.inside.pairs.items c.keep_heard.new.pairs.items c.args.now c.args.dead c.self.view_is c.self.invariant c.keep_heard.ensures).after
