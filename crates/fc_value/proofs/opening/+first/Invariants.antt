use Rattle.std.proofs.Common.{◌≡◌, take, map}
use Rattle.fc_value.specs.Opening.{opening_at}
use Rattle.fc_value.proofs.opening.+first.Given as goal

abbrev pub invariant-first_of_fields-loop-field : goal.invariant-first_of_fields-loop-field
invariant-first_of_fields-loop-field l = l.values ≡ map opening_at (take l.field-index l.field-items)
