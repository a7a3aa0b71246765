use Rattle.std.proofs.Common.{ap, ◌∙◌, List, ℕ}
use Rattle.std.specs.Ordering.{nat_cmp}
use Rattle.std.specs.FinMap.{from_sorted}
use Rattle.fc_tree.proofs.Places.{none}
use Rattle.fc_value.specs.declared.value.Value.{Value}
use Rattle.fc_rows.proofs.rows.RowList.new.Goals as goal

pub returns : goal.returns
returns c = ap (λ (es : List (ℕ × Value)). from_sorted {R = nat_cmp} es) c.new.ensures.items ∙ none nat_cmp Value
