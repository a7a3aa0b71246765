use Rattle.std.proofs.Common.{sym, ◌∙◌}
use Rattle.fc_assoc.specs.Associations.{heard_at}
use Rattle.fc_assoc.proofs.Effects.{known, unknown, sets, renews, renews_none}
use Rattle.fc_assoc.proofs.associations.Associations.heard.Goals as goal

pub invariant_of-self : goal.invariant_of-self
invariant_of-self c = (sets c.args.self.now c.self.inside.pairs.items c.as_slice.result.now c.args.ce c.in-Ok.place (heard_at c.args.now c.args.peer) c.self.view_is c.self.invariant c.as_slice.ensures.value c.in-Ok.ensures).kept

pub returns-in-Ok-clause-answer : goal.returns-in-Ok-clause-answer
returns-in-Ok-clause-answer c = sym (known c.args.self.now c.self.inside.pairs.items c.as_slice.result.now c.args.ce c.in-Ok.place c.self.view_is c.self.invariant c.as_slice.ensures.value c.in-Ok.ensures)

pub returns-in-Ok-clause-after : goal.returns-in-Ok-clause-after
returns-in-Ok-clause-after c = (sets c.args.self.now c.self.inside.pairs.items c.as_slice.result.now c.args.ce c.in-Ok.place (heard_at c.args.now c.args.peer) c.self.view_is c.self.invariant c.as_slice.ensures.value c.in-Ok.ensures).after ∙ sym (renews c.args.self.now c.args.ce c.args.peer c.args.now (known c.args.self.now c.self.inside.pairs.items c.as_slice.result.now c.args.ce c.in-Ok.place c.self.view_is c.self.invariant c.as_slice.ensures.value c.in-Ok.ensures))

pub returns-in-Err-clause-answer : goal.returns-in-Err-clause-answer
returns-in-Err-clause-answer c = sym (unknown c.args.self.now c.self.inside.pairs.items c.as_slice.result.now c.args.ce c.in-Err.field-0 c.self.view_is c.self.invariant c.as_slice.ensures.value c.in-Err.ensures)

pub returns-in-Err-clause-after : goal.returns-in-Err-clause-after
returns-in-Err-clause-after c = sym (renews_none c.args.self.now c.args.ce c.args.peer c.args.now (unknown c.args.self.now c.self.inside.pairs.items c.as_slice.result.now c.args.ce c.in-Err.field-0 c.self.view_is c.self.invariant c.as_slice.ensures.value c.in-Err.ensures))
