-- The frames of bytes, one by one.
use Rattle.std.proofs.Common.{◌≡◌, ◌≤◌, ◌<◌, ℕ, zero, suc, List, [], ◌∷◌, ◌++◌, append-nil, append_assoc, length, take, drop, true, false, nat_lt, refl, sym, ap, ◌∙◌, arith, inl, inr}
use Rattle.std.proofs.lemmas.Bool.{cases_lt}
use Rattle.std.proofs.lemmas.Bool.Decides.{nat_tests}
use Rattle.std.proofs.lemmas.List.{length-drop}
use Rattle.fc_wire.specs.Frames.{frame_len, without_first}
use Rattle.fc_msg.specs.Splitting.{Call, Split, after_call, after_calls, feed, first_frame, next}
use Rattle.fc_peers.specs.Streams.{asked, cut_of}

abbrev pub cut : List (List ℕ) → List ℕ → Split
cut taken rest = record { taken = taken; rest = rest }

-- other frames were taken before
abbrev pub behind : List (List ℕ) → Split → Split
behind frames s = cut (frames ++ s.taken) s.rest

abbrev pub in_front : List ℕ → Split → Split
in_front frame s = cut (frame ∷ s.taken) s.rest

is_less : (m n : ℕ) → m < n → nat_lt m n ≡ true
is_less m n lt = grind (arith, nat_tests)

not_less : (m n : ℕ) → n ≤ m → nat_lt m n ≡ false
not_less m n le = grind (arith, nat_tests)

-- what is taken later does not hang on what was taken before
later : (calls : List Call) (before taken : List (List ℕ)) (bytes : List ℕ) → after_calls (cut (before ++ taken) bytes) calls ≡ behind before (after_calls (cut taken bytes) calls)
later [] before taken bytes = refl
later (feed piece ∷ calls) before taken bytes = later calls before taken (bytes ++ piece)
later (next ∷ calls) before taken bytes =
    ap (λ l. after_calls (cut l (without_first bytes)) calls) (append_assoc before taken (first_frame bytes)) ∙ later calls before (taken ++ first_frame bytes) (without_first bytes)

-- so many calls
abbrev cut_by : ℕ → List ℕ → Split
cut_by count bytes = after_calls (cut [] bytes) (asked count)

none_taken : (bytes : List ℕ) → length bytes < frame_len bytes → after_call (cut [] bytes) next ≡ cut [] bytes
none_taken bytes lt = rw (is_less (length bytes) (frame_len bytes) lt) refl

one_taken : (bytes : List ℕ) → frame_len bytes ≤ length bytes → after_call (cut [] bytes) next ≡ cut (take (frame_len bytes) bytes ∷ []) (drop (frame_len bytes) bytes)
one_taken bytes le = rw (not_less (length bytes) (frame_len bytes) le) refl

short : (count : ℕ) (bytes : List ℕ) → length bytes < frame_len bytes → cut_by count bytes ≡ cut [] bytes
short zero bytes lt = refl
short (suc count) bytes lt = ap (λ s. after_calls s (asked count)) (none_taken bytes lt) ∙ short count bytes lt

long : (count : ℕ) (bytes : List ℕ) → frame_len bytes ≤ length bytes → cut_by (suc count) bytes ≡ in_front (take (frame_len bytes) bytes) (cut_by count (drop (frame_len bytes) bytes))
long count bytes le =
    ap (λ s. after_calls s (asked count)) (one_taken bytes le) ∙ later (asked count) (take (frame_len bytes) bytes ∷ []) [] (drop (frame_len bytes) bytes)

-- how many calls there are does not matter, where there are enough
enough : (count more : ℕ) (bytes : List ℕ) → length bytes ≤ count → length bytes ≤ more → cut_by count bytes ≡ cut_by more bytes
enough zero more bytes l m = let lt : length bytes < frame_len bytes = omega arith in sym (short more bytes lt)
enough (suc count) zero bytes l m = let lt : length bytes < frame_len bytes = omega arith in short (suc count) bytes lt
enough (suc count) (suc more) bytes l m =
    elim (cases_lt (length bytes) (frame_len bytes)) [
      | inl lt ↦ short (suc count) bytes lt ∙ sym (short (suc more) bytes lt)
      | inr le ↦
          let n = frame_len bytes in
          let less = enough count more (drop n bytes) (omega (arith, length-drop n bytes)) (omega (arith, length-drop n bytes)) in
          long count bytes le ∙ ap (in_front (take n bytes)) less ∙ sym (long more bytes le)
    ]

-- less than a frame is no frame
pub cut_partial : (bytes : List ℕ) → length bytes < frame_len bytes → cut_of bytes ≡ cut [] bytes
unfolding cut_of
cut_partial bytes lt = short (length bytes) bytes lt

-- the first frame, and those behind it
pub cut_whole : (bytes : List ℕ) → frame_len bytes ≤ length bytes → cut_of bytes ≡ in_front (take (frame_len bytes) bytes) (cut_of (drop (frame_len bytes) bytes))
unfolding cut_of
cut_whole bytes le =
    let n = frame_len bytes in
    enough (length bytes) (suc (length bytes)) bytes (omega arith) (omega arith) ∙ long (length bytes) bytes le
    ∙ ap (in_front (take n bytes)) (enough (length bytes) (length (drop n bytes)) (drop n bytes) (omega (arith, length-drop n bytes)) (omega arith))

-- after the first frame is taken
pub without_whole : (bytes : List ℕ) → frame_len bytes ≤ length bytes → without_first bytes ≡ drop (frame_len bytes) bytes
without_whole bytes le = rw (not_less (length bytes) (frame_len bytes) le) refl

pub without_partial : (bytes : List ℕ) → length bytes < frame_len bytes → without_first bytes ≡ bytes
without_partial bytes lt = rw (is_less (length bytes) (frame_len bytes) lt) refl
