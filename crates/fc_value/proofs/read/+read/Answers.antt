use mir.Val.{SFits}
use mir.Syntax.{w128}
use Rattle.std.proofs.lemmas.Int.{to_z-of_z}
use Rattle.std.proofs.Common.{rules, sym, ◌∙◌, subst, arith, map}
use Rattle.std.proofs.lemmas.Result.{err_from_is_err_and}
use Rattle.fc_value.specs.Outcomes.{Fails}
use Rattle.fc_value.specs.Reading.{each_in, inside, inside_at}
use Rattle.fc_types.specs.declared.ty.Ty.TheOpen.{Ty-F}
use Rattle.fc_types.specs.declared.ty.Ty.TheVariants as v
use Rattle.fc_value.proofs.Layers.{given, given_group, given_number, given_table}
use Rattle.fc_value.proofs.Conditions.{some_left, none_left}
use Rattle.fc_value.proofs.Shrinking.{inside_shrinks, entries_end, entries_go, entries_fail, fields_go, fields_fail}
use Rattle.fc_value.proofs.read.+read.Goals as goal

pub read_entries-returns-in_err-rest : goal.read_entries-returns-in_err-rest
read_entries-returns-in_err-rest t c =
    let p = err_from_is_err_and c.from_residual.result c.from_residual.ensures.1 in
    rw (p.1, p.2)
    (entries_fail (inside c.args.entry.now) (inside_shrinks c.args.entry.now) c.args.limit c.loop-rest.entries.entries c.loop-rest.rest.now c.in_err-rest.field-0.0 _
    (some_left _ c.loop-rest-test.ensures) c.in_err-rest.ensures.exact c.loop-rest.invariant)

pub read_entries-loop-rest-preserved : goal.read_entries-loop-rest-preserved
read_entries-loop-rest-preserved t c =
    entries_go (inside c.args.entry.now) (inside_shrinks c.args.entry.now) c.args.limit c.loop-rest.entries.entries c.read_entry.new.entries.entries c.loop-rest.rest.now c.in_ok-rest.rest.now _
    (some_left _ c.loop-rest-test.ensures) c.in_ok-rest.ensures.exact c.loop-rest.invariant

pub read_entries-returns : goal.read_entries-returns
read_entries-returns t c =
    sym c.loop-rest.invariant
    ∙ entries_end (inside c.args.entry.now) (inside_shrinks c.args.entry.now) c.args.limit c.loop-rest.entries.entries c.loop-rest.rest.now (none_left _ c.loop-rest-test.ensures)

pub read_fields-returns-in_err-value-clause-exact : goal.read_fields-returns-in_err-value-clause-exact
read_fields-returns-in_err-value-clause-exact t c =
    let p = err_from_is_err_and c.from_residual-in_err-value.result c.from_residual-in_err-value.ensures.1 in
    rw (p.1, p.2)
    (subst (λ fs. Fails c.in_err-value.field-0.0 (each_in (map inside_at fs) c.args.bytes.now)) c.as_slice-field-items.ensures
    (fields_fail c.as_slice-field-items.result.now c.loop-field.field-index c.field-item.result c.loop-field.rest.now c.loop-field.values c.in_err-value.field-0.0 _
    c.loop-field-test.true c.field-item.is c.in_err-value.ensures.exact c.loop-field.invariant.so_far))

pub read_fields-loop-field-preserved : goal.read_fields-loop-field-preserved
read_fields-loop-field-preserved t c = record {
  so_far = fields_go c.as_slice-field-items.result.now c.loop-field.field-index c.field-item.result c.loop-field.rest.now c.in_ok-value.behind.now c.loop-field.values _ c.in_ok-value.value _
      c.loop-field-test.true c.field-item.is c.in_ok-value.ensures.exact c.in_ok-push.ensures.ok c.loop-field.invariant.so_far;
  short = omega (arith, c.in_ok-value.ensures.short, c.loop-field.invariant.short);
}

pub read_inside-returns-in-Bool-clause-exact : goal.read_inside-returns-in-Bool-clause-exact
read_inside-returns-in-Bool-clause-exact t c =
    given (λ x. (x.0, x.1.now)) c.read_truth.result c.args.ty.now Ty-F.Bool c.args.bytes.now (c.in-Bool.is ∙ sym (v.rolls-Bool)) c.read_truth.ensures.exact

pub read_inside-returns-in-Number-clause-exact : goal.read_inside-returns-in-Number-clause-exact
read_inside-returns-in-Number-clause-exact t c =
    let n = c.in-Number in
    let low : SFits w128 c.in-Number.min = search rules in
    let high : SFits w128 c.in-Number.max = search rules in
    given_number (λ x. (x.0, x.1.now)) c.read_number.result c.args.ty.now n.width n.signed n.min n.max _ _ c.args.bytes.now (n.is ∙ sym (v.rolls-Number n.width n.signed n.min n.max))
    (to_z-of_z w128 n.min low) (to_z-of_z w128 n.max high) c.read_number.ensures.exact

pub read_inside-returns-in-String-clause-exact : goal.read_inside-returns-in-String-clause-exact
read_inside-returns-in-String-clause-exact t c =
    given (λ x. (x.0, x.1.now)) c.read_held_text.result c.args.ty.now (Ty-F.String c.in-String.length) c.args.bytes.now (c.in-String.is ∙ sym (v.rolls-String c.in-String.length)) c.read_held_text.ensures.exact

pub read_inside-returns-in-Octets-clause-exact : goal.read_inside-returns-in-Octets-clause-exact
read_inside-returns-in-Octets-clause-exact t c =
    given (λ x. (x.0, x.1.now)) c.read_held_octets.result c.args.ty.now (Ty-F.Octets c.in-Octets.length) c.args.bytes.now (c.in-Octets.is ∙ sym (v.rolls-Octets c.in-Octets.length)) c.read_held_octets.ensures.exact

pub read_inside-returns-in-Bytes-clause-exact : goal.read_inside-returns-in-Bytes-clause-exact
read_inside-returns-in-Bytes-clause-exact t c =
    given (λ x. (x.0, x.1.now)) c.read_fixed.result c.args.ty.now (Ty-F.Bytes c.in-Bytes.length) c.args.bytes.now (c.in-Bytes.is ∙ sym (v.rolls-Bytes c.in-Bytes.length)) c.read_fixed.ensures.exact

pub read_inside-returns-in-Struct-clause-exact : goal.read_inside-returns-in-Struct-clause-exact
read_inside-returns-in-Struct-clause-exact t c =
    given_group (λ x. (x.0, x.1.now)) c.read_group.result c.args.ty.now c.in-Struct.fields c.args.bytes.now (c.in-Struct.is ∙ sym (v.rolls-Struct c.in-Struct.fields)) c.read_group.ensures.exact

pub read_inside-returns-in-Array-clause-exact : goal.read_inside-returns-in-Array-clause-exact
read_inside-returns-in-Array-clause-exact t c =
    let a = c.in-Array in
    given_table (λ x. (x.0, x.1.now)) c.read_held_table.result c.args.ty.now a.entry c.get.result.now a.entries a.keys c.as_slice.result.now c.args.bytes.now
    (a.is ∙ sym (v.rolls-Array a.entry a.entries a.keys)) c.get.ensures c.as_slice.ensures c.read_held_table.ensures.exact
