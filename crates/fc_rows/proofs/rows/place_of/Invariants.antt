use Rattle.std.proofs.Common.{◌≡◌, ◌≤◌, ◌-◌, ℕ, length}
use Rattle.std.specs.List.{AllWithin}
use Rattle.std.specs.declared.cmp.Ordering.TheVariants.{Less, Greater}
use Rattle.std.specs.Ordering.{nat_cmp}
use Rattle.fc_value.specs.declared.value.Value.{Value}
use Rattle.fc_rows.proofs.rows.place_of.Given as goal

abbrev pub invariant-loop-low : goal.invariant-loop-low
invariant-loop-low l = record {
  ordered : l.low ≤ l.high;
  within : l.high ≤ length l.entries;
  below : AllWithin (λ (e : ℕ × Value). nat_cmp e.0 l.subscript ≡ Less) l.entries 0 l.low;
  above : AllWithin (λ (e : ℕ × Value). nat_cmp e.0 l.subscript ≡ Greater) l.entries l.high (length l.entries);
}

abbrev pub decreases-loop-low : goal.decreases-loop-low
decreases-loop-low l = l.high - l.low
