use Rattle.std.proofs.Common.{◌≡◌, drop}
use Rattle.std.specs.List.{list_all}
use Rattle.fc_types.specs.Classes.{type_is_ranged}
use Rattle.fc_types.proofs.class_rules.types_are_ranged.Given as goal

abbrev pub invariant-loop-component : goal.invariant-loop-component
invariant-loop-component l = list_all (λ x. type_is_ranged x.ty) (drop l.component-index l.components) ≡ list_all (λ x. type_is_ranged x.ty) l.components
