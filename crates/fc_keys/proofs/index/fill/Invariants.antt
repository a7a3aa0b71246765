use Rattle.std.proofs.Common.{◌≡◌, ◌+◌, vec_len, vec_capacity}
use Rattle.fc_keys.proofs.index.fill.Given as goal

abbrev pub invariant-loop : goal.invariant-loop
invariant-loop l = record {
  len : vec_len l.blanks ≡ vec_len l.initial.blanks + l.counter;
  capacity : vec_capacity l.blanks ≡ vec_capacity l.initial.blanks;
}
