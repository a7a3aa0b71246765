use Rattle.std.proofs.Common.{◌≡◌, drop}
use Rattle.std.specs.List.{list_all}
use Rattle.fc_types.specs.Types.{field_ty, nests}
use Rattle.fc_types.proofs.depth.+depth.Given as goal

abbrev pub invariant-fields_nest_within-loop-field : goal.invariant-fields_nest_within-loop-field
invariant-fields_nest_within-loop-field l =
    list_all (λ f. nests l.levels (field_ty f)) (drop l.field-index l.field-items) ≡ list_all (λ f. nests l.levels (field_ty f)) l.field-items
