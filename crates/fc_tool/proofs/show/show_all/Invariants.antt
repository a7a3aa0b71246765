use Rattle.std.proofs.Common.{◌≡◌, ◌≤◌, ◌<◌, List, ℕ, length}
use Rattle.std.specs.Io.KnownBytes.{Appends, Consumes}
use Rattle.fc_msg.specs.declared.message.Message.{Message}
use Rattle.fc_wire.specs.Frames.{IsPartial}
use Rattle.fc_tool.specs.Show.{Reaches, text_of}
use Rattle.fc_tool.proofs.show.show_all.Given as goal

abbrev pub invariant-reads : goal.invariant-reads
invariant-reads g l = record {
  shown : (bytes : List ℕ) × (hs : List Message) × Consumes (g.S.Source.left l.fn.input) (g.S.Source.left l.input) bytes
      × (length bytes ≡ l.count) × Reaches bytes hs l.splitter
      × Appends (g.K.Sink.written l.fn.out) (g.K.Sink.written l.out) (text_of hs);
  partial : IsPartial l.splitter;
  few : length l.splitter < 262144;
  fed : length l.splitter ≤ l.count;
  limit : l.count ≤ 67108864;
  turns : l.counter ≤ l.count;
  source : g.S.Source.faults l.input ≡ g.S.Source.faults l.fn.input;
  unflushed : g.K.Sink.flushed l.out ≡ g.K.Sink.flushed l.fn.out;
  sink : g.K.Sink.faults l.out ≡ g.K.Sink.faults l.fn.out;
}
