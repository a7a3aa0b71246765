use Rattle.std.proofs.Common.{◌≡◌, drop}
use Rattle.std.specs.List.{list_all}
use Rattle.fc_types.specs.Types.{field_ty, throughout}
use Rattle.fc_types.specs.TypeRules.{keeps}
use Rattle.fc_types.proofs.type_rules.+throughout.Given as goal

abbrev pub invariant-holds_in_fields-loop-field : goal.invariant-holds_in_fields-loop-field
invariant-holds_in_fields-loop-field l =
    list_all (λ f. throughout (keeps l.rule) (field_ty f)) (drop l.field-index l.field-items)
    ≡ list_all (λ f. throughout (keeps l.rule) (field_ty f)) l.field-items
