-- The rules of a declared type by their names.
use Rattle.std.specs.Prelude.{Bool}
use Rattle.fc_types.specs.Types.{has_distinct_ids, is_in_range, fits_inside, has_atomic_keys}
use Rattle.fc_types.specs.declared.type_rules.TypeRule.{TypeRule}
use Rattle.fc_types.specs.declared.type_rules.TypeRule.TheVariants.{DistinctIds, Range, Fit, AtomicKeys}
use Rattle.fc_types.specs.declared.ty.Ty.{Ty}

-- whether a type keeps the rule, apart from the types inside it
abbrev pub keeps : TypeRule → Ty → Bool
keeps DistinctIds = has_distinct_ids
keeps Range = is_in_range
keeps Fit = fits_inside
keeps AtomicKeys = has_atomic_keys
