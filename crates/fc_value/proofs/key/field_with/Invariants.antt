use Rattle.std.proofs.Common.{◌≡◌, drop}
use Rattle.fc_value.specs.Keys.{field_with}
use Rattle.fc_value.proofs.key.field_with.Given as goal

abbrev pub invariant-loop-field : goal.invariant-loop-field
invariant-loop-field l = field_with (drop l.field-index l.fields) l.rest l.id ≡ field_with l.fields l.values l.id
