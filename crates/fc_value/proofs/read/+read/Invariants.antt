use Rattle.std.proofs.Common.{◌≡◌, ◌++◌, ◌≤◌, [], map, drop, length, Ok}
use Rattle.fc_base.specs.Answers.{◌>>=◌}
use Rattle.fc_value.specs.Reading.{each_in, inside, inside_at, entries_in}
use Rattle.fc_value.proofs.read.+read.Given as goal

abbrev pub invariant-read_fields-loop-field : goal.invariant-read_fields-loop-field
invariant-read_fields-loop-field l = record {
  so_far : (each_in (map inside_at (drop l.field-index l.field-items)) l.rest >>= λ y. Ok (l.values ++ y.0, y.1)) ≡ each_in (map inside_at l.field-items) l.bytes;
  short : length l.rest ≤ length l.bytes;
}

abbrev pub invariant-read_entries-loop-rest : goal.invariant-read_entries-loop-rest
invariant-read_entries-loop-rest l = entries_in (inside l.entry) l.limit l.entries.entries l.rest ≡ entries_in (inside l.entry) l.limit [] l.bytes

abbrev pub decreases-read_entries-loop-rest : goal.decreases-read_entries-loop-rest
decreases-read_entries-loop-rest l = length l.rest
