-- One input ends in one way.
use Rattle.std.proofs.Common.{◌≡◌, ◌≤◌, ◌+◌, ◌-◌, ℕ, List, [], ◌∷◌, ◌++◌, length, take, drop, append_assoc, append-nil, arith, refl, sym, ap, ◌∙◌, inl, inr, Option, None, Some, Ok, length-append, lit<}
use Rattle.std.specs.Io.KnownBytes.{Consumes, IsAtEnd}
use Rattle.std.proofs.lemmas.List.{take_all, take-append-drop, take-append-le}
use Rattle.std.proofs.lemmas.Grind.{flat_map-append}
use Rattle.std.proofs.lemmas.Bool.{cases_lt}
use Rattle.std.proofs.Math.Seq.{take-append-add}
use Rattle.std.specs.List.{AllByRecursion}
use Rattle.fc_msg.specs.declared.message.Message.{Message}
use Rattle.fc_wire.specs.Frames.{frame_len, IsFrame, IsPartial, joined, Frames}
use Rattle.fc_wire.proofs.Cutting.{cut_once, cut_exists, cut_frame}
use Rattle.fc_msg.specs.declared.fault.Refusal.{Refusal}
use Rattle.fc_endings.proofs.Looking.{all_read, front_read}
use Rattle.fc_tool.specs.declared.show.Shown.{Shown}
use Rattle.fc_tool.specs.declared.show.Shown.TheVariants.{Done, ReadFault, Refused, TooLong}
use Rattle.fc_msg.specs.Faults.{fault_of}
use Rattle.fc_msg.specs.Messages.{Spells}
use Rattle.fc_tool.specs.Show.{IsVerdict, AreMessages, Reaches, ShowEnds}
use Rattle.fc_msg.proofs.Reading.{never_both}
use Rattle.fc_tool.proofs.Judged.{is_frame}

are_frames : (hs : List Message) (frames : List (List ℕ)) → AreMessages hs frames → AllByRecursion IsFrame frames
are_frames [] [] all = tt
are_frames [] (f ∷ fs) all = absurd all
are_frames (h ∷ hs) [] all = absurd all
are_frames (h ∷ hs) (f ∷ fs) all = (is_frame h f all.0, are_frames hs fs all.1)

both_frames : (frames others : List (List ℕ)) → AllByRecursion IsFrame frames → AllByRecursion IsFrame others → AllByRecursion IsFrame (frames ++ others)
both_frames [] others all more = more
both_frames (f ∷ fs) others all more = (all.0, both_frames fs others all.1 more)

-- one of the frames is a message
one_of : (hs : List Message) (front : List (List ℕ)) (frame : List ℕ) (back : List (List ℕ)) → AreMessages hs (front ++ frame ∷ back) → (h : Message) × Spells h frame
one_of [] [] frame back all = absurd all
one_of [] (f ∷ fs) frame back all = absurd all
one_of (h ∷ hs) [] frame back all = (h, all.0)
one_of (h ∷ hs) (f ∷ fs) frame back all = one_of hs fs frame back all.1

-- bytes that are messages and less than a frame have no whole frame that is refused
no_refusal : (bytes more : List ℕ) (hs ks : List Message) (rest last : List ℕ) (fault : Refusal) → Reaches bytes hs rest → frame_len rest ≤ length rest
    → fault_of (take (frame_len rest) rest) ≡ Some fault → Reaches (bytes ++ more) ks last → IsPartial last → ⊥
no_refusal bytes more hs ks rest last fault there le refused whole partial =
    let n = frame_len rest in
    let frame = take n rest in
    let beyond = drop n rest ++ more in
    let cut = cut_exists beyond in
    let all : bytes ++ more ≡ joined (there.frames ++ frame ∷ cut.0) ++ cut.1 =
    rw (flat_map-append, append_assoc, append_assoc, ← cut.2.whole) (ap (λ l. l ++ more) there.whole ∙ append_assoc (joined there.frames) rest more
    ∙ ap (λ l. joined there.frames ++ l) (ap (λ l. l ++ more) (sym (take-append-drop n rest)) ∙ append_assoc frame (drop n rest) more)) in
    let one : Frames (bytes ++ more) (there.frames ++ frame ∷ cut.0) cut.1 = record {
      whole = all;
      each = both_frames there.frames (frame ∷ cut.0) (are_frames hs there.frames there.each) (cut_frame rest le, cut.2.each);
      partial = cut.2.partial;
    } in
    let two : Frames (bytes ++ more) whole.frames last = record {
      whole = whole.whole;
      each = are_frames ks whole.frames whole.each;
      partial = partial;
    } in
    let same = cut_once (bytes ++ more) (there.frames ++ frame ∷ cut.0) whole.frames cut.1 last one two in
    let beat = one_of ks there.frames frame cut.0 (rw (← same.0) at whole.each) in
    never_both frame beat.0 fault beat.1 refused

-- ---- what was read of known bytes

looked_front : (limit : ℕ) (bytes read more : List ℕ) → bytes ≡ read ++ more → (rest : List ℕ) × (take limit bytes ≡ take limit read ++ rest)
looked_front limit bytes read more is =
    elim (cases_lt (length read) limit) [
      | inl short ↦
          let n = limit - length read in
          let size : limit ≡ length read + n = omega arith in
          let le : length read ≤ limit = omega arith in
          (take n more, ap (take limit) is ∙ ap (λ k. take k (read ++ more)) size ∙ take-append-add read more n ∙ ap (λ l. l ++ take n more) (sym (take_all limit read le)))
      | inr long ↦ ([], ap (take limit) is ∙ take-append-le limit read more long ∙ sym (append-nil (take limit read)))
    ]

-- ---- no two verdicts

done_long : (limit : ℕ) (bytes : List ℕ) (l k o p n m : Option (List ℕ)) → ShowEnds limit (Ok Done) (Some bytes) l o n → ShowEnds limit (Ok TooLong) (Some bytes) k p m → ⊥
done_long limit bytes l k o p n m (read, consumed, (end, le, hs, there, lines)) (reads, consumes, (lt, ks, last, whole, partial, writes)) =
    let same = all_read bytes read l consumed end in
    let (more, split) = front_read bytes reads k consumes in
    absurd (omega (arith, ap length same, ap length split, length-append reads more))

refused_long : (limit : ℕ) (bytes : List ℕ) (l k o p n m : Option (List ℕ)) → ShowEnds limit (Ok Refused) (Some bytes) l o n → ShowEnds limit (Ok TooLong) (Some bytes) k p m → ⊥
refused_long limit bytes l k o p n m (read, consumed, (within, hs, rest, frame, fault, there, inl (le, cut), is, lines)) (reads, consumes, (lt, ks, last, whole, partial, writes)) =
    let (more, split) = front_read bytes read l consumed in
    let (beyond, parts) = front_read bytes reads k consumes in
    let (after, looked) = looked_front limit bytes read more split in
    let long : limit ≤ length reads = omega arith in
    let all : take limit bytes ≡ take limit reads = ap (take limit) parts ∙ take-append-le limit reads beyond long in
    no_refusal (take limit read) after hs ks rest last fault there le (rw cut at is) (rw (← looked, all) whole) partial
refused_long limit bytes l k o p n m (read, consumed, (within, hs, rest, frame, fault, there, inr (end, little, some, cut), is, lines)) (reads, consumes, (lt, ks, last, whole, partial, writes)) =
    let same = all_read bytes read l consumed end.0 in
    let (more, split) = front_read bytes reads k consumes in
    absurd (omega (arith, end.1, ap length same, ap length split, length-append reads more))

refused_done : (limit : ℕ) (bytes : List ℕ) (l k o p n m : Option (List ℕ)) → ShowEnds limit (Ok Refused) (Some bytes) l o n → ShowEnds limit (Ok Done) (Some bytes) k p m → ⊥
refused_done limit bytes l k o p n m (read, consumed, (within, hs, rest, frame, fault, there, inl (le, cut), is, lines)) (reads, consumes, (finish, small, ks, whole, writes)) =
    let (more, split) = front_read bytes read l consumed in
    let same = all_read bytes reads k consumes finish in
    let (after, looked) = looked_front limit bytes read more split in
    let fits : length bytes ≤ limit = omega (arith, ap length same) in
    let all : take limit read ++ after ≡ reads = sym looked ∙ take_all limit bytes fits ∙ same in
    no_refusal (take limit read) after hs ks rest [] fault there le (rw cut at is) (rw all whole) (lit< tt)
refused_done limit bytes l k o p n m (read, consumed, (within, hs, rest, frame, fault, there, inr (end, little, some, cut), is, lines)) (reads, consumes, (finish, small, ks, whole, writes)) =
    let same : read ≡ reads = sym (all_read bytes read l consumed end.0) ∙ all_read bytes reads k consumes finish in
    let one : Frames reads there.frames rest = record {
      whole = sym same ∙ sym (take_all limit read end.1) ∙ there.whole;
      each = are_frames hs there.frames there.each;
      partial = little;
    } in
    let two : Frames reads whole.frames [] = record {
      whole = whole.whole;
      each = are_frames ks whole.frames whole.each;
      partial = lit< tt;
    } in
    some (cut_once reads there.frames whole.frames rest [] one two).1

pub one_verdict : (e f : Shown) (limit : ℕ) (bytes : List ℕ) (l k o p n m : Option (List ℕ)) → IsVerdict e → IsVerdict f
    → ShowEnds limit (Ok e) (Some bytes) l o n → ShowEnds limit (Ok f) (Some bytes) k p m → e ≡ f
one_verdict Done Done limit bytes l k o p n m v w x y = refl
one_verdict Done Refused limit bytes l k o p n m v w x y = absurd (refused_done limit bytes k l p o m n y x)
one_verdict Done TooLong limit bytes l k o p n m v w x y = absurd (done_long limit bytes l k o p n m x y)
one_verdict Refused Done limit bytes l k o p n m v w x y = absurd (refused_done limit bytes l k o p n m x y)
one_verdict Refused Refused limit bytes l k o p n m v w x y = refl
one_verdict Refused TooLong limit bytes l k o p n m v w x y = absurd (refused_long limit bytes l k o p n m x y)
one_verdict TooLong Done limit bytes l k o p n m v w x y = absurd (done_long limit bytes k l p o m n y x)
one_verdict TooLong Refused limit bytes l k o p n m v w x y = absurd (refused_long limit bytes k l p o m n y x)
one_verdict TooLong TooLong limit bytes l k o p n m v w x y = refl
one_verdict ReadFault f limit bytes l k o p n m v w x y = absurd v
one_verdict Done ReadFault limit bytes l k o p n m v w x y = absurd w
one_verdict Refused ReadFault limit bytes l k o p n m v w x y = absurd w
one_verdict TooLong ReadFault limit bytes l k o p n m v w x y = absurd w
