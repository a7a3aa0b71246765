-- The frames of bytes that come in two pieces, and of all bytes.
use Rattle.std.proofs.Common.{◌≡◌, ◌≤◌, ◌<◌, ℕ, zero, suc, List, [], ◌∷◌, ◌++◌, length, take, drop, refl, sym, subst, ap, ◌∙◌, arith, inl, inr, append_assoc, length-append}
use Rattle.std.proofs.lemmas.Bool.{cases_lt}
use Rattle.std.proofs.lemmas.List.{length-drop, take-append-drop, take-append-le, drop-append-le, get_or_append_left}
use Rattle.fc_wire.specs.Frames.{Frames, frame_len, joined}
use Rattle.fc_wire.proofs.Cutting.{cut_frame}
use Rattle.fc_msg.specs.Splitting.{Split}
use Rattle.fc_peers.specs.Streams.{cut_of, frames, rest}
use Rattle.fc_peers.proofs.Cut.{cut, cut_partial, cut_whole, in_front}

short_front : (front back : List ℕ) → length front < frame_len front → cut_of (front ++ back) ≡ cut (frames front ++ frames (rest front ++ back)) (rest (rest front ++ back))
short_front front back lt = sym (ap (λ c. cut (c.taken ++ frames (c.rest ++ back)) (rest (c.rest ++ back))) (cut_partial front lt))

cut_go : (fuel : ℕ) (front back : List ℕ) → length front ≤ fuel → cut_of (front ++ back) ≡ cut (frames front ++ frames (rest front ++ back)) (rest (rest front ++ back))
cut_go zero front back le = let lt : length front < frame_len front = omega arith in short_front front back lt
cut_go (suc fuel) front back le =
    elim (cases_lt (length front) (frame_len front)) [
      | inl lt ↦ short_front front back lt
      | inr whole ↦
          let n = frame_len front in
          let same : frame_len (front ++ back) ≡ frame_len front =
          omega (arith, get_or_append_left front back 0 2 (omega arith), get_or_append_left front back 0 3 (omega arith)) in
          let fits : frame_len (front ++ back) ≤ length (front ++ back) = omega (arith, same, length-append front back) in
          let more = cut_go fuel (drop n front) back (omega (arith, length-drop n front)) in
          cut_whole (front ++ back) fits
          ∙ ap (λ k. in_front (take k (front ++ back)) (cut_of (drop k (front ++ back)))) same
          ∙ ap (λ f. in_front f (cut_of (drop n (front ++ back)))) (take-append-le n front back whole)
          ∙ ap (λ t. in_front (take n front) (cut_of t)) (drop-append-le n front back whole)
          ∙ ap (in_front (take n front)) more
          ∙ sym (ap (λ c. cut (c.taken ++ frames (c.rest ++ back)) (rest (c.rest ++ back))) (cut_whole front whole))
    ]

pub cut_on : (front back : List ℕ) → cut_of (front ++ back) ≡ cut (frames front ++ frames (rest front ++ back)) (rest (rest front ++ back))
cut_on front back = cut_go (length front) front back (omega arith)

-- ---- what is left

pub rest_more : (bytes : List ℕ) → frame_len bytes ≤ length bytes → rest bytes ≡ rest (drop (frame_len bytes) bytes)
rest_more bytes le = ap (λ c. c.rest) (cut_whole bytes le)

pub rest_all : (bytes : List ℕ) → length bytes < frame_len bytes → rest bytes ≡ bytes
rest_all bytes lt = ap (λ c. c.rest) (cut_partial bytes lt)

-- ---- the frames are those of the stream

cut_at : (bytes : List ℕ) (c : Split) → cut_of bytes ≡ c → Frames bytes c.taken c.rest → Frames bytes (frames bytes) (rest bytes)
cut_at bytes c is there = subst (λ c. Frames bytes c.taken c.rest) (sym is) there

cut_frames : (fuel : ℕ) (bytes : List ℕ) → length bytes ≤ fuel → Frames bytes (frames bytes) (rest bytes)
cut_frames zero bytes le = let lt : length bytes < frame_len bytes = omega arith in cut_at bytes _ (cut_partial bytes lt) (record { whole = refl; each = tt; partial = lt })
cut_frames (suc fuel) bytes le =
    elim (cases_lt (length bytes) (frame_len bytes)) [
      | inl lt ↦ cut_at bytes _ (cut_partial bytes lt) (record { whole = refl; each = tt; partial = lt })
      | inr whole ↦
          let n = frame_len bytes in
          let more = cut_frames fuel (drop n bytes) (omega (arith, length-drop n bytes)) in
          cut_at bytes _ (cut_whole bytes whole) (
          record {
            whole = sym (take-append-drop n bytes) ∙ ap (λ l. take n bytes ++ l) more.whole ∙ sym (append_assoc (take n bytes) (joined (frames (drop n bytes))) (rest (drop n bytes)));
            each = (cut_frame bytes whole, more.each);
            partial = more.partial;
          })
    ]

pub frames_cut : (bytes : List ℕ) → Frames bytes (frames bytes) (rest bytes)
frames_cut bytes = cut_frames (length bytes) bytes (omega arith)
