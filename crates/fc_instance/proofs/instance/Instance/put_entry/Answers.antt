use Rattle.std.proofs.Common.{ap, arith, option_map}
use Rattle.fc_instance.specs.Histories.{Held}
use Rattle.fc_instance.proofs.Changing.{none_done, some_done}
use Rattle.fc_instance.proofs.Undoing.{changed_held, changed_kept, nonzero}
use Rattle.fc_instance.proofs.instance.Instance.put_entry.Goals as goal

pub invariant_of-self-in-Some : goal.invariant_of-self-in-Some
invariant_of-self-in-Some c = changed_kept c.self.inside.slots.items c.change_entry.new.slots.items c.self.inside.log.0 c.change_entry.new.log.0 c.self.inside.marks.items c.self.invariant (omega (arith, nonzero _ c.if-is_empty.ensures, c.self.inside.marks.ok.0)) c.change_entry.ensures.held

pub invariant_of-self-in_err-change_entry-in-Some : goal.invariant_of-self-in_err-change_entry-in-Some
invariant_of-self-in_err-change_entry-in-Some c = changed_kept c.self.inside.slots.items c.change_entry.new.slots.items c.self.inside.log.0 c.change_entry.new.log.0 c.self.inside.marks.items c.self.invariant (omega (arith, nonzero _ c.if-is_empty.ensures, c.self.inside.marks.ok.0)) c.change_entry.ensures.held

pub returns-in_err-change_entry-in-Some-clause-held : goal.returns-in_err-change_entry-in-Some-clause-held
returns-in_err-change_entry-in-Some-clause-held c = changed_held c.args.self.now c.self.inside.slots.items c.change_entry.new.slots.items c.self.inside.log.0 c.change_entry.new.log.0 c.self.inside.marks.items c.self.view_is c.self.invariant c.change_entry.ensures.held

pub returns-in_ok-change_entry-in-Some-clause-held : goal.returns-in_ok-change_entry-in-Some-clause-held
returns-in_ok-change_entry-in-Some-clause-held c = changed_held c.args.self.now c.self.inside.slots.items c.change_entry.new.slots.items c.self.inside.log.0 c.change_entry.new.log.0 c.self.inside.marks.items c.self.view_is c.self.invariant c.change_entry.ensures.held

pub returns-then-is_empty-clause-done : goal.returns-then-is_empty-clause-done
returns-then-is_empty-clause-done c = some_done _ c.self.inside.slots.items c.deref.result.now c.args.subscript c.args.component c.args.value (option_map (λ x. x.now) c.as_ref.result) _ c.in-Some.entering c.in-Some.leaving (ap (λ (h : Held). h.now) c.self.view_is) c.deref.ensures.value c.as_ref.ensures.value c.in-Some.is c.in_ok-keys_at.ensures

pub returns-in-None-clause-done : goal.returns-in-None-clause-done
returns-in-None-clause-done c = none_done _ c.self.inside.slots.items c.deref.result.now c.args.subscript c.args.component c.args.value (option_map (λ x. x.now) c.as_ref.result) _ (ap (λ (h : Held). h.now) c.self.view_is) c.deref.ensures.value c.as_ref.ensures.value c.in-None.is c.in_ok-keys_at.ensures

pub returns-in_ok-change_entry-in-Some-clause-done : goal.returns-in_ok-change_entry-in-Some-clause-done
returns-in_ok-change_entry-in-Some-clause-done c = some_done _ c.self.inside.slots.items c.deref.result.now c.args.subscript c.args.component c.args.value (option_map (λ x. x.now) c.as_ref.result) _ c.in-Some.entering c.in-Some.leaving (ap (λ (h : Held). h.now) c.self.view_is) c.deref.ensures.value c.as_ref.ensures.value c.in-Some.is c.in_ok-keys_at.ensures
