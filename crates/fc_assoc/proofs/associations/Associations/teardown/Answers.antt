use Rattle.std.proofs.Common.{sym, ap, ◌∙◌}
use Rattle.fc_assoc.proofs.Maps.{map_of}
use Rattle.fc_assoc.proofs.Effects.{known, unknown, cuts, same_without}
use Rattle.fc_assoc.proofs.associations.Associations.teardown.Goals as goal

pub invariant_of-self : goal.invariant_of-self
invariant_of-self c = let p = (cuts c.args.self.now c.self.inside.pairs.items c.as_slice.result.now c.args.ce c.in-Ok.place c.self.view_is c.self.invariant c.as_slice.ensures.value c.in-Ok.ensures).kept in rw c.remove.ensures.items p

pub returns-in-Ok-clause-answer : goal.returns-in-Ok-clause-answer
returns-in-Ok-clause-answer c = sym (known c.args.self.now c.self.inside.pairs.items c.as_slice.result.now c.args.ce c.in-Ok.place c.self.view_is c.self.invariant c.as_slice.ensures.value c.in-Ok.ensures)

pub returns-in-Ok-clause-after : goal.returns-in-Ok-clause-after
returns-in-Ok-clause-after c = ap map_of c.remove.ensures.items ∙ (cuts c.args.self.now c.self.inside.pairs.items c.as_slice.result.now c.args.ce c.in-Ok.place c.self.view_is c.self.invariant c.as_slice.ensures.value c.in-Ok.ensures).after

pub returns-in-Err-clause-answer : goal.returns-in-Err-clause-answer
returns-in-Err-clause-answer c = sym (unknown c.args.self.now c.self.inside.pairs.items c.as_slice.result.now c.args.ce c.in-Err.field-0 c.self.view_is c.self.invariant c.as_slice.ensures.value c.in-Err.ensures)

pub returns-in-Err-clause-after : goal.returns-in-Err-clause-after
returns-in-Err-clause-after c = same_without c.args.self.now c.self.inside.pairs.items c.as_slice.result.now c.args.ce c.in-Err.field-0 c.self.view_is c.self.invariant c.as_slice.ensures.value c.in-Err.ensures
