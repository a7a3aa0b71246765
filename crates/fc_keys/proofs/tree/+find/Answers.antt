use Rattle.std.proofs.Common.{sym, ap, ◌∙◌}
use Rattle.fc_keys.specs.Trees.{pairs_of}
use Rattle.fc_keys.specs.declared.tree.Fork.{Fork}
use Rattle.fc_keys.proofs.Keyed.{in_left, in_right, found_here}
use Rattle.fc_keys.proofs.tree.+find.Goals as goal

pub returns-in-Less : goal.returns-in-Less
returns-in-Less t c = λ s.
    let d = in_left c.args.tree.now c.in-Branch.fork.value c.args.key.now c.as_slice.result.now c.cmp.result (ap pairs_of c.in-Branch.is) (c.as_slice.ensures ∙ ap (λ (f : Fork). f.key) c.deref.ensures) c.cmp.ensures c.in-Less.is s in
    (rw c.deref-in-Less.ensures at c.find.ensures) d.sorted ∙ sym d.found

pub returns-in-Greater : goal.returns-in-Greater
returns-in-Greater t c = λ s.
    let d = in_right c.args.tree.now c.in-Branch.fork.value c.args.key.now c.as_slice.result.now c.cmp.result (ap pairs_of c.in-Branch.is) (c.as_slice.ensures ∙ ap (λ (f : Fork). f.key) c.deref.ensures) c.cmp.ensures c.in-Greater.is s in
    (rw c.deref-in-Greater.ensures at c.find-in-Greater.ensures) d.sorted ∙ sym d.found

pub returns-in-Equal : goal.returns-in-Equal
returns-in-Equal t c = λ s.
    rw c.deref-in-Equal.ensures (sym (found_here c.args.tree.now c.in-Branch.fork.value c.args.key.now c.as_slice.result.now c.cmp.result (ap pairs_of c.in-Branch.is) (c.as_slice.ensures ∙ ap (λ (f : Fork). f.key) c.deref.ensures) c.cmp.ensures c.in-Equal.is s))
