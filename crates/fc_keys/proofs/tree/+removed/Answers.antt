use Rattle.std.proofs.Common.{◌≡◌, ◌++◌, sym, ap, ◌∙◌, rules, Some}
use Rattle.fc_keys.specs.Trees.{pairs_of}
use Rattle.fc_keys.specs.declared.tree.Fork.{Fork}
use Rattle.fc_keys.proofs.Keyed.{in_left, in_right, found_here, kept_here, before, behind}
use Rattle.fc_keys.proofs.tree.+removed.Goals as goal

pub returns-in-Less-clause-node : goal.returns-in-Less-clause-node
returns-in-Less-clause-node t c = λ s.
    let d = in_left c.args.tree c.in-Branch.fork.value c.args.key.now c.as_slice.result.now c.cmp.result (ap pairs_of c.in-Branch.is) (c.as_slice.ensures ∙ ap (λ (f : Fork). f.key) c.deref.ensures) c.cmp.ensures c.in-Less.is s in
    let side : pairs_of c.replace-side.result ≡ pairs_of c.in-Branch.fork.value.left = ap pairs_of (c.replace-side.ensures.value ∙ ap (λ (f : Fork). f.left) c.deref_mut.ensures.value) in
    (rw side at c.removed-side.ensures.node) d.sorted ∙ sym d.found

pub returns-in-Less-clause-pairs : goal.returns-in-Less-clause-pairs
returns-in-Less-clause-pairs t c = λ s.
    let d = in_left c.args.tree c.in-Branch.fork.value c.args.key.now c.as_slice.result.now c.cmp.result (ap pairs_of c.in-Branch.is) (c.as_slice.ensures ∙ ap (λ (f : Fork). f.key) c.deref.ensures) c.cmp.ensures c.in-Less.is s in
    let side : pairs_of c.replace-side.result ≡ pairs_of c.in-Branch.fork.value.left = ap pairs_of (c.replace-side.ensures.value ∙ ap (λ (f : Fork). f.left) c.deref_mut.ensures.value) in
    let fork = c.in-Branch.fork.value in
    let whole : pairs_of c.balanced.result ≡ before (fork.key, fork.subscript) (pairs_of fork.right) (pairs_of c.removed-side.result.0) = search rules in
    whole ∙ ap (before (fork.key, fork.subscript) (pairs_of fork.right)) ((rw side at c.removed-side.ensures.pairs) d.sorted) ∙ sym d.kept

pub returns-in-Greater-clause-node : goal.returns-in-Greater-clause-node
returns-in-Greater-clause-node t c = λ s.
    let d = in_right c.args.tree c.in-Branch.fork.value c.args.key.now c.as_slice.result.now c.cmp.result (ap pairs_of c.in-Branch.is) (c.as_slice.ensures ∙ ap (λ (f : Fork). f.key) c.deref.ensures) c.cmp.ensures c.in-Greater.is s in
    let side : pairs_of c.replace-side-in-Greater.result ≡ pairs_of c.in-Branch.fork.value.right = ap pairs_of (c.replace-side-in-Greater.ensures.value ∙ ap (λ (f : Fork). f.right) c.deref_mut-in-Greater.ensures.value) in
    (rw side at c.removed-side-in-Greater.ensures.node) d.sorted ∙ sym d.found

pub returns-in-Greater-clause-pairs : goal.returns-in-Greater-clause-pairs
returns-in-Greater-clause-pairs t c = λ s.
    let d = in_right c.args.tree c.in-Branch.fork.value c.args.key.now c.as_slice.result.now c.cmp.result (ap pairs_of c.in-Branch.is) (c.as_slice.ensures ∙ ap (λ (f : Fork). f.key) c.deref.ensures) c.cmp.ensures c.in-Greater.is s in
    let side : pairs_of c.replace-side-in-Greater.result ≡ pairs_of c.in-Branch.fork.value.right = ap pairs_of (c.replace-side-in-Greater.ensures.value ∙ ap (λ (f : Fork). f.right) c.deref_mut-in-Greater.ensures.value) in
    let fork = c.in-Branch.fork.value in
    let whole : pairs_of c.balanced-in-Greater.result ≡ behind (pairs_of fork.left) (fork.key, fork.subscript) (pairs_of c.removed-side-in-Greater.result.0) = search rules in
    whole ∙ ap (behind (pairs_of fork.left) (fork.key, fork.subscript)) ((rw side at c.removed-side-in-Greater.ensures.pairs) d.sorted) ∙ sym d.kept

pub returns-in-Equal-clause-node : goal.returns-in-Equal-clause-node
returns-in-Equal-clause-node t c = λ s.
    let same : c.deref-in-Equal.result.now.subscript ≡ c.in-Branch.fork.value.subscript = search rules in
    ap Some same ∙ sym (found_here c.args.tree c.in-Branch.fork.value c.args.key.now c.as_slice.result.now c.cmp.result (ap pairs_of c.in-Branch.is) (c.as_slice.ensures ∙ ap (λ (f : Fork). f.key) c.deref.ensures) c.cmp.ensures c.in-Equal.is s)

pub returns-in-Equal-clause-pairs : goal.returns-in-Equal-clause-pairs
returns-in-Equal-clause-pairs t c = λ s.
    let fork = c.in-Branch.fork.value in
    let both : pairs_of c.joined.result ≡ pairs_of fork.left ++ pairs_of fork.right = search rules in
    both ∙ sym (kept_here c.args.tree c.in-Branch.fork.value c.args.key.now c.as_slice.result.now c.cmp.result (ap pairs_of c.in-Branch.is) (c.as_slice.ensures ∙ ap (λ (f : Fork). f.key) c.deref.ensures) c.cmp.ensures c.in-Equal.is s)
