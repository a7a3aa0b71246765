use Rattle.std.proofs.Common.{◌≡◌, drop}
use Rattle.std.specs.BTreeSet.{insert_key}
use Rattle.std.specs.List.{fold}
use Rattle.std.specs.Ordering.{nat_cmp}
use Rattle.fc_types.specs.Components.{ComponentDecl}
use Rattle.fc_element.specs.Configuration.{rising_ids}
use Rattle.fc_element.proofs.configured.rising_ids.Given as goal

abbrev pub invariant-loop-component : goal.invariant-loop-component
invariant-loop-component l =
    fold (λ ids (c : ComponentDecl). insert_key nat_cmp ids c.id) l.ids.keys (drop l.component-index l.components) ≡ rising_ids l.components
