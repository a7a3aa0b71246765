use Rattle.std.proofs.Common.{◌≡◌, ℕ, [], drop, nat_cmp}
use Rattle.std.specs.BTreeSet.{contains}
use Rattle.fc_value.specs.Sparse.{changes_in, is_named}
use Rattle.fc_value.proofs.sparse.read_changes.Given as goal

abbrev pub invariant-loop-ilv : goal.invariant-loop-ilv
invariant-loop-ilv l = record {
  so_far : changes_in l.ty l.changes (drop l.ilv-index l.ilvs) ≡ changes_in l.ty [] l.ilvs;
  seen : (q : ℕ) → contains nat_cmp l.seen q ≡ is_named l.changes q;
}
