-- What the lines that were written say of the bytes, and how `show` ends from how a piece of its input ended.
use Rattle.std.proofs.Common.{◌≡◌, ◌≤◌, ◌-◌, ◌+◌, ℕ, List, [], ◌∷◌, ◌++◌, length, take, append_assoc, append-nil, arith, refl, sym, ap, ◌∙◌, inl, inr, Option, Result, Ok, Err, None, Some, IfOk, subst, length-append}
use Rattle.std.specs.Io.KnownBytes.{Appends, Consumes, Keeps, IsAtEnd}
use Rattle.std.proofs.KnownBytes.{Appends-kept, Appends-nil, Appends-trans, Consumes-trans, Consumes-kept}
use Rattle.std.proofs.lemmas.List.{take_all, take-append-le}
use Rattle.std.proofs.lemmas.Grind.{flat_map-append}
use Rattle.fc_base.specs.Content.{AppendsFront}
use Rattle.fc_msg.specs.declared.message.Message.{Message}
use Rattle.fc_wire.specs.Frames.{frame_len, joined, IsPartial}
use Rattle.fc_msg.specs.declared.fault.Refusal.{Refusal}
use Rattle.fc_endings.proofs.Endings.{none_written, whole_front}
use Rattle.fc_tool.specs.declared.show.Shown.{Shown}
use Rattle.fc_tool.specs.declared.show.Shown.TheVariants.{Done, ReadFault, Refused, TooLong}
use Rattle.fc_endings.specs.declared.stops.Stop.{Stop}
use Rattle.fc_tool.specs.Text.{refusal_text}
use Rattle.fc_tool.specs.Show.{Reaches, text_of, IsNextText, StoppedAt, PieceEnds, RestEnds, ShowEnds}
use Rattle.fc_tool.proofs.Reaching.{reaches_fed, reaches_on}

-- ---- what was written

pub front_after : (a b c : Option (List ℕ)) (xs ys : List ℕ) → Appends a b xs → AppendsFront b c ys → AppendsFront a c (xs ++ ys)
front_after a b c xs ys first then_front =
    (xs ++ then_front.0, then_front.1, rw append_assoc (ap (λ l. xs ++ l) then_front.2), Appends-trans a b c xs then_front.0 first then_front.3)

front_kept : (a b c : Option (List ℕ)) (xs : List ℕ) → AppendsFront a b xs → Keeps b c → AppendsFront a c xs
front_kept a b c xs (front, back, split, first) kept = (front, back, split, Appends-kept a b c front first kept)

pub text_on : (hs ks : List Message) (a b c : Option (List ℕ)) → Appends a b (text_of hs) → Appends b c (text_of ks) → Appends a c (text_of (hs ++ ks))
text_on hs ks a b c first second = rw flat_map-append (Appends-trans a b c _ _ first second)

text_then : (hs ks : List Message) (text : List ℕ) → text_of (hs ++ ks) ++ text ≡ text_of hs ++ (text_of ks ++ text)
text_then hs ks text = rw (flat_map-append, append_assoc) refl

-- ---- a piece

-- nothing was written of the bytes
pub stops_at_once : (fed : ℕ) (bytes : List ℕ) (known : Option (List ℕ)) → StoppedAt ⊥ fed bytes known known
stops_at_once fed bytes known = ([], bytes, [], record { frames = []; whole = refl; each = tt }, inl refl, none_written known [])

-- the writing stopped within the lines that were gathered
pub lines_stop : (fed : ℕ) (bytes : List ℕ) (hs : List Message) (rest next text : List ℕ) (old new : Option (List ℕ))
    → Reaches bytes hs rest → IsNextText ⊥ (fed - length rest) rest next → text ≡ text_of hs ++ next → AppendsFront old new text → StoppedAt ⊥ fed bytes old new
lines_stop fed bytes hs rest next text old new there is e front = (hs, rest, next, there, is, rw e at front)

-- ---- the whole

consumes_none : (known : Option (List ℕ)) → Consumes known known []
consumes_none None = tt
consumes_none (Some xs) = refl

pub no_item : (xs : List ℕ) → length xs ≡ 0 → xs ≡ []
no_item [] e = refl
no_item (x ∷ xs) e = absurd (omega arith)

pub reaches_length : (bytes : List ℕ) (hs : List Message) (rest : List ℕ) → Reaches bytes hs rest → length rest ≤ length bytes
reaches_length bytes hs rest there = omega (arith, ap length there.whole, length-append (joined there.frames) rest)

-- the writing had not begun on what comes next
pub stops_here : (at_end : Type 0) (place : ℕ) (bytes : List ℕ) (hs : List Message) (rest : List ℕ) (old new : Option (List ℕ)) → Reaches bytes hs rest
    → Appends old new (text_of hs) → StoppedAt at_end place bytes old new
stops_here at_end place bytes hs rest old new there lines = (hs, rest, [], there, inl refl, (text_of hs, [], refl, lines))

-- a read found no memory
pub memory_ends : (stop : Stop) (limit : ℕ) (bytes : List ℕ) (hs : List Message) (rest : List ℕ) (before mid left old new : Option (List ℕ))
    → Consumes before mid bytes → Keeps mid left → length bytes ≤ limit → Reaches bytes hs rest → Appends old new (text_of hs)
    → ShowEnds limit (Err stop) before left old new
memory_ends stop limit bytes hs rest before mid left old new consumed kept le there lines =
    (bytes, Consumes-kept before mid left bytes consumed kept, (omega arith, stops_here _ _ (take limit bytes) hs rest old new (rw (take_all limit bytes le) there) lines))

-- the end of the input came
pub rest_ends : (how : Result Shown Stop) (limit : ℕ) (bytes : List ℕ) (hs : List Message) (rest : List ℕ) (fed : ℕ) (before mid left old now new : Option (List ℕ))
    → Consumes before mid bytes → Consumes mid left [] → IsAtEnd left → length bytes ≤ limit → length bytes ≡ fed → Reaches bytes hs rest → IsPartial rest
    → Appends old now (text_of hs) → RestEnds (fed - length rest) rest how now new → ShowEnds limit how before left old new
rest_ends (Ok Done) limit bytes hs rest fed before mid left old now new consumed none end le is there partial lines (nothing, ends) =
    (bytes, rw append-nil at (Consumes-trans before mid left bytes [] consumed none), (end, le, hs, rw nothing at there, rw append-nil at (Appends-trans old now new _ _ lines ends)))
rest_ends (Ok Refused) limit bytes hs rest fed before mid left old now new consumed none end le is there partial lines (some, fault, refused, ends) =
    let whole = take_all limit bytes le in
    let place : length (take limit bytes) - length rest ≡ fed - length rest = ap (λ l. length l - length rest) whole ∙ ap (λ n. n - length rest) is in (
      bytes,
      rw append-nil at (Consumes-trans before mid left bytes [] consumed none),
      (le, hs, rest, rest, fault, rw whole there, inr ((end, le), partial, some, refl), refused, rw place (Appends-trans old now new _ _ lines ends)),
    )
rest_ends (Ok ReadFault) limit bytes hs rest fed before mid left old now new consumed none end le is there partial lines ends = absurd ends
rest_ends (Ok TooLong) limit bytes hs rest fed before mid left old now new consumed none end le is there partial lines ends = absurd ends
rest_ends (Err stop) limit bytes hs rest fed before mid left old now new consumed none end le is there partial lines (some, inl nothing) = (
  bytes,
  rw append-nil at (Consumes-trans before mid left bytes [] consumed none),
  (omega arith, stops_here _ _ (take limit bytes) hs rest old new (rw (take_all limit bytes le) there) (rw append-nil at (Appends-trans old now new _ _ lines nothing))),
)
rest_ends (Err stop) limit bytes hs rest fed before mid left old now new consumed none end le is there partial lines (some, inr (fault, refused, front)) =
    let whole = take_all limit bytes le in
    let place : length (take limit bytes) - length rest ≡ fed - length rest = ap (λ l. length l - length rest) whole ∙ ap (λ n. n - length rest) is in (
      bytes,
      rw append-nil at (Consumes-trans before mid left bytes [] consumed none),
      (
        omega arith,
        (
          hs,
          rest,
          refusal_text (fed - length rest) fault,
          rw whole there,
          rw place (inr (rest, inr ((end, le), partial, some, refl), inr (fault, refused, refl))),
          front_after old now new _ _ lines front,
        ),
      ),
    )

next_there : (at_end : Type 0) (place : ℕ) (rest text : List ℕ) → IsNextText ⊥ place rest text → IsNextText at_end place rest text
next_there at_end place rest text (inl none) = inl none
next_there at_end place rest text (inr (frame, inl whole, is)) = inr (frame, inl whole, is)
next_there at_end place rest text (inr (frame, inr never, is)) = absurd never.0

-- a frame of the piece was refused
pub refused_ends : (limit : ℕ) (bytes : List ℕ) (hs : List Message) (rest piece : List ℕ) (fed : ℕ) (before mid left old now new : Option (List ℕ)) (last : List ℕ) (fault : Refusal)
    → Consumes before mid bytes → Consumes mid left piece → length bytes + length piece ≤ limit → length bytes + length piece ≡ fed → Reaches bytes hs rest
    → Appends old now (text_of hs) → PieceEnds fed (rest ++ piece) last (Ok (Some fault)) now new → ShowEnds limit (Ok Refused) before left old new
refused_ends limit bytes hs rest piece fed before mid left old now new last fault consumed more le count there lines (ks, after, there_too, whole, is, lines_too) =
    let looked : take limit (bytes ++ piece) ≡ bytes ++ piece = take_all limit (bytes ++ piece) (omega (arith, length-append bytes piece)) in
    let place : length (take limit (bytes ++ piece)) - length after ≡ fed - length after =
    ap (λ l. length l - length after) looked ∙ ap (λ n. n - length after) (length-append bytes piece ∙ count) in (
      bytes ++ piece,
      Consumes-trans before mid left bytes piece consumed more,
      (
        omega (arith, length-append bytes piece),
        hs ++ ks,
        after,
        take (frame_len after) after,
        fault,
        rw looked (reaches_on (bytes ++ piece) hs (rest ++ piece) ks after (reaches_fed bytes hs rest piece there) there_too),
        inl (whole, refl),
        is,
        rw (place, text_then hs ks _) (Appends-trans old now new _ _ lines lines_too),
      ),
    )

-- the writing stopped within the piece
pub stopped_ends : (stop : Stop) (limit : ℕ) (bytes : List ℕ) (hs : List Message) (rest piece : List ℕ) (fed : ℕ) (before mid left old now new : Option (List ℕ)) (last : List ℕ)
    → Consumes before mid bytes → Consumes mid left piece → length bytes + length piece ≤ limit → length bytes + length piece ≡ fed → Reaches bytes hs rest
    → Appends old now (text_of hs) → PieceEnds fed (rest ++ piece) last (Err stop) now new → ShowEnds limit (Err stop) before left old new
stopped_ends stop limit bytes hs rest piece fed before mid left old now new last consumed more le count there lines (ks, after, text, there_too, next, lines_too) =
    let looked : take limit (bytes ++ piece) ≡ bytes ++ piece = take_all limit (bytes ++ piece) (omega (arith, length-append bytes piece)) in
    let place : length (take limit (bytes ++ piece)) - length after ≡ fed - length after =
    ap (λ l. length l - length after) looked ∙ ap (λ n. n - length after) (length-append bytes piece ∙ count) in (
      bytes ++ piece,
      Consumes-trans before mid left bytes piece consumed more,
      (
        omega (arith, length-append bytes piece),
        (
          hs ++ ks,
          after,
          text,
          rw looked (reaches_on (bytes ++ piece) hs (rest ++ piece) ks after (reaches_fed bytes hs rest piece there) there_too),
          rw place (next_there _ _ after text next),
          rw (text_then hs ks _) (front_after old now new _ _ lines lines_too),
        ),
      ),
    )

-- a piece came past the limit
pub too_long_ends : (limit : ℕ) (bytes : List ℕ) (hs : List Message) (rest piece : List ℕ) (before mid left old new : Option (List ℕ))
    → Consumes before mid bytes → Consumes mid left piece → length bytes ≡ limit → length piece ≡ 1 → Reaches bytes hs rest → IsPartial rest
    → Appends old new (text_of hs) → ShowEnds limit (Ok TooLong) before left old new
too_long_ends limit bytes hs rest piece before mid left old new consumed more is one there partial lines =
    let all : limit ≤ length bytes = omega arith in
    let le : length bytes ≤ limit = omega arith in
    let looked : take limit (bytes ++ piece) ≡ bytes = take-append-le limit bytes piece all ∙ take_all limit bytes le in (
      bytes ++ piece,
      Consumes-trans before mid left bytes piece consumed more,
      (omega (arith, length-append bytes piece), hs, rest, rw looked there, partial, lines),
    )

-- ---- after the flush

-- what was written stands after the flush
flush_ends : (shown : Shown) (limit : ℕ) (before left old mid new : Option (List ℕ)) → ShowEnds limit (Ok shown) before left old mid → Keeps mid new
    → ShowEnds limit (Ok shown) before left old new
flush_ends Done limit before left old mid new (bytes, consumed, (end, le, hs, there, lines)) kept =
    (bytes, consumed, (end, le, hs, there, Appends-kept old mid new _ lines kept))
flush_ends ReadFault limit before left old mid new (bytes, consumed, (le, hs, rest, there, partial, lines)) kept =
    (bytes, consumed, (le, hs, rest, there, partial, Appends-kept old mid new _ lines kept))
flush_ends Refused limit before left old mid new (bytes, consumed, (le, hs, rest, frame, fault, there, next, is, lines)) kept =
    (bytes, consumed, (le, hs, rest, frame, fault, there, next, is, Appends-kept old mid new _ lines kept))
flush_ends TooLong limit before left old mid new (bytes, consumed, (lt, hs, rest, there, partial, lines)) kept =
    (bytes, consumed, (lt, hs, rest, there, partial, Appends-kept old mid new _ lines kept))

-- all was written, and the flush stopped
flush_stops : (shown : Shown) (stop : Stop) (limit : ℕ) (before left old mid new : Option (List ℕ)) → ShowEnds limit (Ok shown) before left old mid → Keeps mid new
    → ShowEnds limit (Err stop) before left old new
flush_stops Done stop limit before left old mid new (bytes, consumed, (end, le, hs, there, lines)) kept = (
  bytes,
  consumed,
  (omega arith, (hs, [], [], rw (take_all limit bytes le) there, inl refl, rw append-nil (whole_front old new _ (Appends-kept old mid new _ lines kept)))),
)
flush_stops ReadFault stop limit before left old mid new (bytes, consumed, (le, hs, rest, there, partial, lines)) kept = (
  bytes,
  consumed,
  (omega arith, (hs, rest, [], rw (take_all limit bytes le) there, inl refl, rw append-nil (whole_front old new _ (Appends-kept old mid new _ lines kept)))),
)
flush_stops Refused stop limit before left old mid new (bytes, consumed, (le, hs, rest, frame, fault, there, next, is, lines)) kept = (
  bytes,
  consumed,
  (
    omega arith,
    (
      hs,
      rest,
      refusal_text (length (take limit bytes) - length rest) fault,
      there,
      inr (frame, next, inr (fault, is, refl)),
      whole_front old new _ (Appends-kept old mid new _ lines kept),
    ),
  ),
)
flush_stops TooLong stop limit before left old mid new (bytes, consumed, (lt, hs, rest, there, partial, lines)) kept =
    (bytes, consumed, (omega arith, (hs, rest, [], there, inl refl, rw append-nil (whole_front old new _ (Appends-kept old mid new _ lines kept)))))

pub show_finished : (shown : Shown) (how : Result Shown Stop) (limit : ℕ) (before left old mid new : Option (List ℕ)) → ShowEnds limit (Ok shown) before left old mid
    → IfOk how (λ last. last ≡ shown) → Keeps mid new → ShowEnds limit how before left old new
show_finished shown (Ok last) limit before left old mid new ends is kept =
    subst (λ e. ShowEnds limit (Ok e) before left old new) (sym is) (flush_ends shown limit before left old mid new ends kept)
show_finished shown (Err stop) limit before left old mid new ends is kept = flush_stops shown stop limit before left old mid new ends kept
