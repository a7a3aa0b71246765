use Rattle.std.proofs.Common.{sym, ap, ◌∙◌}
use Rattle.fc_store.specs.Stores.{mark_of}
use Rattle.fc_exec.proofs.Marking.{begins_at, begins_unmarked}
use Rattle.fc_exec.proofs.running.RunningRunner.mark.Goals as goal

pub returns-clause-ok : goal.returns-clause-ok
returns-clause-ok c =
    begins_at c.args.self.now.store.ghost_name c.args.self.now.scope.items c.in_ok-mark.mark c.args.self.now.mark c.args.self.now.store.now c.mark_for.new.self (sym c.is_some.ensures ∙ c.if-is_some.false)
    (c.in_ok-mark.ensures.ok ∙ ap (λ scope. mark_of scope c.args.self.now.store.now) c.deref.ensures.value) c.in_ok-mark.ensures.marked

pub returns-clause-state : goal.returns-clause-state
returns-clause-state c =
    begins_unmarked c.args.self.now.store.ghost_name c.args.self.now.scope.items c.in_ok-mark.mark c.args.self.now.mark c.args.self.now.store.now c.mark_for.new.self (sym c.is_some.ensures ∙ c.if-is_some.false)
    (c.in_ok-mark.ensures.ok ∙ ap (λ scope. mark_of scope c.args.self.now.store.now) c.deref.ensures.value) c.in_ok-mark.ensures.marked
