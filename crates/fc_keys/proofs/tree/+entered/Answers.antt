use Rattle.std.proofs.Common.{◌≡◌, sym, ap, ◌∙◌, is_some, rules, List, ℕ}
use Rattle.fc_keys.specs.Keys.{key_cmp}
use Rattle.fc_keys.specs.Trees.{pairs_of}
use Rattle.fc_keys.specs.declared.tree.Fork.{Fork}
use Rattle.fc_keys.proofs.Keyed.{in_left, in_right, found_here, entered_around, before, behind}
use Rattle.fc_keys.proofs.tree.+entered.Goals as goal

pub returns-in-Less-clause-back : goal.returns-in-Less-clause-back
returns-in-Less-clause-back t c = λ s.
    let d = in_left c.args.tree c.in-Branch.fork.value c.args.key c.as_slice-in-Branch.result.now c.cmp.result (ap pairs_of c.in-Branch.is) (c.as_slice-in-Branch.ensures ∙ ap (λ (f : Fork). f.key) c.deref.ensures) (c.cmp.ensures ∙ ap (λ (x : List ℕ). key_cmp x c.as_slice-in-Branch.result.now) c.as_slice.ensures) c.in-Less.is s in
    let side : pairs_of c.replace-side.result ≡ pairs_of c.in-Branch.fork.value.left = ap pairs_of (c.replace-side.ensures.value ∙ ap (λ (f : Fork). f.left) c.deref_mut-in-Less.ensures.value) in
    (rw side at c.entered-side.ensures.back) d.sorted ∙ ap is_some (sym d.found)

pub returns-in-Less-clause-pairs : goal.returns-in-Less-clause-pairs
returns-in-Less-clause-pairs t c = λ s.
    let d = in_left c.args.tree c.in-Branch.fork.value c.args.key c.as_slice-in-Branch.result.now c.cmp.result (ap pairs_of c.in-Branch.is) (c.as_slice-in-Branch.ensures ∙ ap (λ (f : Fork). f.key) c.deref.ensures) (c.cmp.ensures ∙ ap (λ (x : List ℕ). key_cmp x c.as_slice-in-Branch.result.now) c.as_slice.ensures) c.in-Less.is s in
    let side : pairs_of c.replace-side.result ≡ pairs_of c.in-Branch.fork.value.left = ap pairs_of (c.replace-side.ensures.value ∙ ap (λ (f : Fork). f.left) c.deref_mut-in-Less.ensures.value) in
    let fork = c.in-Branch.fork.value in
    let whole : pairs_of c.balanced.result ≡ before (fork.key, fork.subscript) (pairs_of fork.right) (pairs_of c.entered-side.result.0) = search rules in
    entered_around (is_some c.entered-side.result.1) _ _ _ _ _ c.args.key c.args.subscript d ((rw side at c.entered-side.ensures.pairs) d.sorted) whole

pub returns-in-Greater-clause-back : goal.returns-in-Greater-clause-back
returns-in-Greater-clause-back t c = λ s.
    let d = in_right c.args.tree c.in-Branch.fork.value c.args.key c.as_slice-in-Branch.result.now c.cmp.result (ap pairs_of c.in-Branch.is) (c.as_slice-in-Branch.ensures ∙ ap (λ (f : Fork). f.key) c.deref.ensures) (c.cmp.ensures ∙ ap (λ (x : List ℕ). key_cmp x c.as_slice-in-Branch.result.now) c.as_slice.ensures) c.in-Greater.is s in
    let side : pairs_of c.replace-side-in-Greater.result ≡ pairs_of c.in-Branch.fork.value.right = ap pairs_of (c.replace-side-in-Greater.ensures.value ∙ ap (λ (f : Fork). f.right) c.deref_mut-in-Greater.ensures.value) in
    (rw side at c.entered-side-in-Greater.ensures.back) d.sorted ∙ ap is_some (sym d.found)

pub returns-in-Greater-clause-pairs : goal.returns-in-Greater-clause-pairs
returns-in-Greater-clause-pairs t c = λ s.
    let d = in_right c.args.tree c.in-Branch.fork.value c.args.key c.as_slice-in-Branch.result.now c.cmp.result (ap pairs_of c.in-Branch.is) (c.as_slice-in-Branch.ensures ∙ ap (λ (f : Fork). f.key) c.deref.ensures) (c.cmp.ensures ∙ ap (λ (x : List ℕ). key_cmp x c.as_slice-in-Branch.result.now) c.as_slice.ensures) c.in-Greater.is s in
    let side : pairs_of c.replace-side-in-Greater.result ≡ pairs_of c.in-Branch.fork.value.right = ap pairs_of (c.replace-side-in-Greater.ensures.value ∙ ap (λ (f : Fork). f.right) c.deref_mut-in-Greater.ensures.value) in
    let fork = c.in-Branch.fork.value in
    let whole : pairs_of c.balanced-in-Greater.result ≡ behind (pairs_of fork.left) (fork.key, fork.subscript) (pairs_of c.entered-side-in-Greater.result.0) = search rules in
    entered_around (is_some c.entered-side-in-Greater.result.1) _ _ _ _ _ c.args.key c.args.subscript d ((rw side at c.entered-side-in-Greater.ensures.pairs) d.sorted) whole

pub returns-in-Equal-clause-back : goal.returns-in-Equal-clause-back
returns-in-Equal-clause-back t c = λ s.
    sym (ap is_some (found_here c.args.tree c.in-Branch.fork.value c.args.key c.as_slice-in-Branch.result.now c.cmp.result (ap pairs_of c.in-Branch.is) (c.as_slice-in-Branch.ensures ∙ ap (λ (f : Fork). f.key) c.deref.ensures) (c.cmp.ensures ∙ ap (λ (x : List ℕ). key_cmp x c.as_slice-in-Branch.result.now) c.as_slice.ensures) c.in-Equal.is s))
