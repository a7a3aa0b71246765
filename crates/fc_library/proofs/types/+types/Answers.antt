use Rattle.std.proofs.Common.{rules, arith, codes}
use Rattle.std.proofs.lemmas.Result.{err_from_is_err_and}
use Rattle.toml.specs.View.{table_view, items_view}
use Rattle.fc_library.proofs.Depths.{type_law, table_at_depth, tables_at_depth}
use Rattle.fc_library.specs.Types.{field_in, type_of}
use Rattle.fc_library.proofs.Steps.{table_item_depth, each_fails, each_goes_on}
use Rattle.fc_library.proofs.types.+types.Goals as goal

pub type_of-returns-in-Bool : goal.type_of-returns-in-Bool
type_of-returns-in-Bool t c = rw (type_law, c.in-Bool.is)

pub type_of-returns-in-Number : goal.type_of-returns-in-Number
type_of-returns-in-Number t c = rw (type_law, c.in-Number.is) c.number_type.ensures

pub type_of-returns-in-String : goal.type_of-returns-in-String
type_of-returns-in-String t c = rw (type_law, c.in-String.is) c.string_type.ensures

pub type_of-returns-in-Octets : goal.type_of-returns-in-Octets
type_of-returns-in-Octets t c = rw (type_law, c.in-Octets.is) c.octets_type.ensures

pub type_of-returns-in-Bytes : goal.type_of-returns-in-Bytes
type_of-returns-in-Bytes t c = rw (type_law, c.in-Bytes.is) c.bytes_type.ensures

pub type_of-returns-in-Struct : goal.type_of-returns-in-Struct
type_of-returns-in-Struct t c = rw (type_law, c.in-Struct.is) c.struct_type.ensures

pub type_of-returns-in-Array : goal.type_of-returns-in-Array
type_of-returns-in-Array t c = rw (type_law, c.in-Array.is) c.array_type.ensures

pub array_type-entry_type-requires : goal.array_type-entry_type-requires
array_type-entry_type-requires t c =
    let inside = table_at_depth (codes "entry") (table_view c.args.table.now) (table_view c.in_ok-inside.inside.now) (search rules) in
    (omega (arith, c.decreases), tt)

pub struct_type-fields-requires : goal.struct_type-fields-requires
struct_type-fields-requires t c =
    let inside = tables_at_depth (codes "fields") (table_view c.args.table.now) (items_view c.in_ok-tables.tables.now) (search rules) in
    (omega (arith, c.decreases), tt)

pub fields-field-requires : goal.fields-field-requires
fields-field-requires t c =
    let inside = table_item_depth c.args.values.now c.values.value-index c.value-item.result c.in-Table.table c.values-test.true c.value-item.is c.in-Table.is in
    (omega (arith, c.decreases), tt)

pub fields-returns-in_err-field : goal.fields-returns-in_err-field
fields-returns-in_err-field t c =
    let (fault, is, same) = err_from_is_err_and c.from_residual.result c.from_residual.ensures.1 in
    rw (is, same)
    (each_fails (field_in type_of) c.args.values.now c.values.value-index c.value-item.result c.in-Table.table c.in_err-field.field-0.0 c.values.fields _ c.values-test.true
    c.value-item.is c.in-Table.is c.in_err-field.ensures c.values.invariant)

pub fields-values-preserved : goal.fields-values-preserved
fields-values-preserved t c =
    each_goes_on (field_in type_of) c.args.values.now c.values.value-index c.value-item.result c.in-Table.table c.values.fields c.push.new.self c.in_ok-field.field-0 _ c.values-test.true
    c.value-item.is c.in-Table.is c.in_ok-field.ensures (search rules) c.values.invariant
