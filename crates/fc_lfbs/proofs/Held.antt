-- Of the transactions that are told no more are held than there are.
use Rattle.std.proofs.Common.{◌≡◌, ◌≤◌, refl, ap, ◌∙◌, not, List, length, map, arith}
use Rattle.std.proofs.lemmas.List.{length-map}
use Rattle.std.proofs.lemmas.List.Filters.{length-filter_both}
use Rattle.std.specs.List.{filter}
use Rattle.fc_value.specs.declared.value.Value.{Value}
use Rattle.fc_lfbs.specs.LiveValues.{Txn, is_held, transaction}

pub held_few : (xs : List Txn) (vs : List Value) → vs ≡ map transaction (filter is_held xs) → length xs ≤ 4096 → length vs ≤ 65536
held_few xs vs e few = omega (arith, ap length e ∙ length-map (filter is_held xs) transaction, length-filter_both is_held (λ x. not (is_held x)) (λ x. refl) xs, few)
