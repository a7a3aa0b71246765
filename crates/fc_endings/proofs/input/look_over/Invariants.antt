use Rattle.std.proofs.Common.{◌≡◌, ◌≤◌, length}
use Rattle.std.specs.Io.KnownBytes.{Consumes}
use Rattle.fc_endings.proofs.input.look_over.Given as goal

abbrev pub invariant-reads : goal.invariant-reads
invariant-reads g l = record {
  read : Consumes (g.S.Source.left l.fn.input) (g.S.Source.left l.input) l.held.items;
  count : length l.held.items ≡ l.count;
  limit : l.count ≤ 67108864;
  turns : l.counter ≤ l.count;
  source : g.S.Source.faults l.input ≡ g.S.Source.faults l.fn.input;
}
