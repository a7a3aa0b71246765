use Rattle.std.proofs.Common.{sym, ap, ◌∙◌, arith}
use Rattle.fc_assoc.specs.Associations.{heard_at}
use Rattle.fc_assoc.proofs.Maps.{map_of}
use Rattle.fc_assoc.proofs.Effects.{known, unknown, sets, puts, count, takes_known, takes_room, takes_none, enters, enters_none}
use Rattle.fc_assoc.proofs.associations.Associations.setup_answer.Goals as goal

pub invariant_of-self : goal.invariant_of-self
invariant_of-self c = (sets c.args.self.now c.self.inside.pairs.items c.as_slice.result.now c.args.ce c.in-Ok.place (heard_at c.args.now c.args.peer) c.self.view_is c.self.invariant c.as_slice.ensures.value c.in-Ok.ensures).kept

pub invariant_of-self-in-Err-2 : goal.invariant_of-self-in-Err-2
invariant_of-self-in-Err-2 c = let p = (puts c.args.self.now c.self.inside.pairs.items c.as_slice.result.now c.args.ce c.in-Err.field-0 (heard_at c.args.now c.args.peer) c.self.view_is c.self.invariant (omega (arith, c.len.ensures)) c.as_slice.ensures.value c.in-Err.ensures).kept in rw c.in_ok-insert-in-Err-2.ensures.items p

pub returns-in-Ok-clause-answer : goal.returns-in-Ok-clause-answer
returns-in-Ok-clause-answer c = sym (takes_known c.args.self.now c.args.ce (known c.args.self.now c.self.inside.pairs.items c.as_slice.result.now c.args.ce c.in-Ok.place c.self.view_is c.self.invariant c.as_slice.ensures.value c.in-Ok.ensures))

pub returns-in-Ok-clause-ok : goal.returns-in-Ok-clause-ok
returns-in-Ok-clause-ok c = (sets c.args.self.now c.self.inside.pairs.items c.as_slice.result.now c.args.ce c.in-Ok.place (heard_at c.args.now c.args.peer) c.self.view_is c.self.invariant c.as_slice.ensures.value c.in-Ok.ensures).after ∙ sym (enters c.args.self.now c.args.ce c.args.peer c.args.now (takes_known c.args.self.now c.args.ce (known c.args.self.now c.self.inside.pairs.items c.as_slice.result.now c.args.ce c.in-Ok.place c.self.view_is c.self.invariant c.as_slice.ensures.value c.in-Ok.ensures)))

pub returns-in-Err-clause-answer : goal.returns-in-Err-clause-answer
returns-in-Err-clause-answer c = sym (takes_none c.args.self.now c.args.ce (unknown c.args.self.now c.self.inside.pairs.items c.as_slice.result.now c.args.ce c.in-Err.field-0 c.self.view_is c.self.invariant c.as_slice.ensures.value c.in-Err.ensures) (omega (arith, count c.args.self.now c.self.inside.pairs.items c.self.view_is c.self.invariant, c.len.ensures)))

pub returns-in-Err-clause-ok : goal.returns-in-Err-clause-ok
returns-in-Err-clause-ok c = sym (enters_none c.args.self.now c.args.ce c.args.peer c.args.now (takes_none c.args.self.now c.args.ce (unknown c.args.self.now c.self.inside.pairs.items c.as_slice.result.now c.args.ce c.in-Err.field-0 c.self.view_is c.self.invariant c.as_slice.ensures.value c.in-Err.ensures) (omega (arith, count c.args.self.now c.self.inside.pairs.items c.self.view_is c.self.invariant, c.len.ensures))))

pub returns-in_ok-insert-in-Err-2-clause-answer : goal.returns-in_ok-insert-in-Err-2-clause-answer
returns-in_ok-insert-in-Err-2-clause-answer c = sym (takes_room c.args.self.now c.args.ce (unknown c.args.self.now c.self.inside.pairs.items c.as_slice.result.now c.args.ce c.in-Err.field-0 c.self.view_is c.self.invariant c.as_slice.ensures.value c.in-Err.ensures) (omega (arith, count c.args.self.now c.self.inside.pairs.items c.self.view_is c.self.invariant, c.len.ensures)))

pub returns-in_ok-insert-in-Err-2-clause-ok : goal.returns-in_ok-insert-in-Err-2-clause-ok
returns-in_ok-insert-in-Err-2-clause-ok c = ap map_of c.in_ok-insert-in-Err-2.ensures.items ∙ (puts c.args.self.now c.self.inside.pairs.items c.as_slice.result.now c.args.ce c.in-Err.field-0 (heard_at c.args.now c.args.peer) c.self.view_is c.self.invariant (omega (arith, c.len.ensures)) c.as_slice.ensures.value c.in-Err.ensures).after ∙ sym (enters c.args.self.now c.args.ce c.args.peer c.args.now (takes_room c.args.self.now c.args.ce (unknown c.args.self.now c.self.inside.pairs.items c.as_slice.result.now c.args.ce c.in-Err.field-0 c.self.view_is c.self.invariant c.as_slice.ensures.value c.in-Err.ensures) (omega (arith, count c.args.self.now c.self.inside.pairs.items c.self.view_is c.self.invariant, c.len.ensures))))
