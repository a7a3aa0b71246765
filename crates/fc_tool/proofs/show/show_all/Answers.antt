use Rattle.std.proofs.Common.{◌≡◌, ◌++◌, [], arith, length, ◌∙◌, append-nil, length-append}
use Rattle.std.proofs.KnownBytes.{Consumes-trans}
use Rattle.fc_endings.specs.declared.stops.Stop.TheVariants.{NoMemory}
use Rattle.fc_tool.proofs.Reaching.{reaches_on, reaches_fed}
use Rattle.fc_tool.proofs.Shows.{memory_ends, no_item, rest_ends, refused_ends, stopped_ends, too_long_ends, reaches_length, text_on}
use Rattle.fc_tool.proofs.show.show_all.Goals as goal

pub returns-in-Err-Memory-clause-ends : goal.returns-in-Err-Memory-clause-ends
returns-in-Err-Memory-clause-ends g c =
    let (bytes, hs, consumed, count, there, lines) = c.reads.invariant.shown in
    memory_ends NoMemory _ bytes hs _ _ _ _ _ _ consumed c.in-Err-Memory.ensures.err.1 (omega arith) there lines

pub returns-then-given-eq0-clause-ends : goal.returns-then-given-eq0-clause-ends
returns-then-given-eq0-clause-ends g c =
    let (bytes, hs, consumed, count, there, lines) = c.reads.invariant.shown in
    let (piece, is, size, most, more, end) = c.in-Ok.ensures.fed in
    let none : piece ≡ [] = no_item piece (size ∙ c.if-given-eq0.true) in
    let rest : c.rest.result.now ≡ c.reads.splitter = c.rest.ensures ∙ (rw (none, append-nil) at is) in
    rest_ends c.show_rest.result _ bytes hs _ _ _ _ _ _ _ _ consumed (rw none at more) (end c.if-given-eq0.true) (omega arith) count
    (rw rest there) (rw rest c.reads.invariant.partial) lines c.show_rest.ensures.ends

pub returns-then-left-eq0-clause-ends : goal.returns-then-left-eq0-clause-ends
returns-then-left-eq0-clause-ends g c =
    let (bytes, hs, consumed, count, there, lines) = c.reads.invariant.shown in
    let (piece, is, size, most, more, end) = c.in-Ok.ensures.fed in
    let one : length piece ≡ 1 = omega (arith, size, most, c.next_piece.ensures.one c.if-left-eq0.true) in
    too_long_ends 67108864 bytes hs _ piece _ _ _ _ _ consumed more (omega arith) one there c.reads.invariant.partial lines

pub returns-in-Ok-Some-clause-ends : goal.returns-in-Ok-Some-clause-ends
returns-in-Ok-Some-clause-ends g c =
    let (bytes, hs, consumed, count, there, lines) = c.reads.invariant.shown in
    let (piece, is, size, most, more, end) = c.in-Ok.ensures.fed in
    refused_ends _ bytes hs _ piece _ _ _ _ _ _ _ c.show_piece.new.splitter _ consumed more (omega (arith, size, most)) (omega (arith, size, most)) there lines (rw (c.in-Ok-Some.field-0-is, is) at c.in-Ok-Some.ensures.ends)

pub returns-in-Err-clause-ends : goal.returns-in-Err-clause-ends
returns-in-Err-clause-ends g c =
    let (bytes, hs, consumed, count, there, lines) = c.reads.invariant.shown in
    let (piece, is, size, most, more, end) = c.in-Ok.ensures.fed in
    stopped_ends c.in-Err.stop _ bytes hs _ piece _ _ _ _ _ _ _ c.show_piece.new.splitter consumed more (omega (arith, size, most)) (omega (arith, size, most)) there lines (rw is at c.in-Err.ensures.ends)

pub reads-preserved : goal.reads-preserved
reads-preserved g c =
    let (bytes, hs, consumed, count, there, lines) = c.reads.invariant.shown in
    let (piece, is, size, most, more, end) = c.in-Ok.ensures.fed in
    let (ks, there_too, partial, lines_too) = rw (c.in-Ok-None.field-0-is) at c.in-Ok-None.ensures.ends in
    let fed_there = rw is at there_too in
    record {
      shown = (
        bytes ++ piece,
        hs ++ ks,
        Consumes-trans _ _ _ bytes piece consumed more,
        length-append bytes piece ∙ omega (arith, size),
        reaches_on (bytes ++ piece) hs (c.reads.splitter ++ piece) ks _ (reaches_fed bytes hs c.reads.splitter piece there) fed_there,
        text_on hs ks _ _ _ lines lines_too,
      );
      partial = partial;
      few = c.in-Ok-None.ensures.few c.in-Ok-None.field-0-is;
      fed = omega (arith, size, reaches_length _ ks _ fed_there, length-append c.reads.splitter piece, c.reads.invariant.fed);
      limit = omega (arith, size, most);
      turns = omega arith;
      source = c.in-Ok.ensures.cause.ok ∙ c.reads.invariant.source;
      unflushed = c.in-Ok-None.ensures.unflushed ∙ c.reads.invariant.unflushed;
      sink = c.in-Ok-None.ensures.count ∙ c.reads.invariant.sink;
    }
