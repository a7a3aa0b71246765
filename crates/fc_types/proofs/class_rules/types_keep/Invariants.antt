use Rattle.std.proofs.Common.{◌≡◌, drop}
use Rattle.std.specs.List.{list_all}
use Rattle.fc_types.specs.Types.{throughout}
use Rattle.fc_types.specs.TypeRules.{keeps}
use Rattle.fc_types.proofs.class_rules.types_keep.Given as goal

abbrev pub invariant-loop-component : goal.invariant-loop-component
invariant-loop-component l = list_all (λ x. throughout (keeps l.rule) x.ty) (drop l.component-index l.components) ≡ list_all (λ x. throughout (keeps l.rule) x.ty) l.components
