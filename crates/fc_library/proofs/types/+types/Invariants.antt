use Rattle.std.proofs.Common.{◌≡◌, ◌+◌, ◌*◌, ◌++◌, drop, Ok}
use Rattle.toml.specs.Data.{members_depth, items_depth}
use Rattle.toml.specs.View.{items_view, table_view}
use Rattle.fc_base.specs.Answers.{◌>>=◌}
use Rattle.fc_library.specs.Types.{each, field_in, type_of}
use Rattle.fc_library.proofs.types.+types.Given as goal

abbrev pub invariant-fields-values : goal.invariant-fields-values
invariant-fields-values l = (each (field_in type_of) (items_view (drop l.value-index l.values)) >>= λ xs. Ok (l.fields ++ xs)) ≡ each (field_in type_of) (items_view l.values)

abbrev pub decreases-type_of : goal.decreases-type_of
decreases-type_of l = 4 * members_depth (table_view l.table.now) + 3

abbrev pub decreases-struct_type : goal.decreases-struct_type
decreases-struct_type l = 4 * members_depth (table_view l.table.now) + 2

abbrev pub decreases-array_type : goal.decreases-array_type
decreases-array_type l = 4 * members_depth (table_view l.table.now) + 2

abbrev pub decreases-fields : goal.decreases-fields
decreases-fields l = 4 * items_depth (items_view l.values.now) + 5

abbrev pub decreases-field : goal.decreases-field
decreases-field l = 4 * members_depth (table_view l.table.now) + 4

abbrev pub decreases-entry_type : goal.decreases-entry_type
decreases-entry_type l = 4 * members_depth (table_view l.table.now) + 4
