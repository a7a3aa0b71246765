-- A splitter has taken the first frames of the whole stream.
use Rattle.std.proofs.Common.{◌≡◌, ◌≤◌, ◌<◌, ℕ, List, [], ◌∷◌, ◌++◌, length, take, drop, append_assoc, append-nil, arith, refl, sym, ap, ◌∙◌, inl, inr}
use Rattle.std.specs.List.{AllByRecursion}
use Rattle.std.proofs.lemmas.Bool.{cases_lt}
use Rattle.std.proofs.lemmas.Bool.Decides.{nat_tests}
use Rattle.std.proofs.lemmas.Grind.{flat_map-append}
use Rattle.std.proofs.lemmas.List.{take-append-drop}
use Rattle.fc_wire.specs.Frames.{IsFrame, frame_len, joined, without_first}
use Rattle.fc_wire.proofs.Cutting.{cut_frame}
use Rattle.fc_msg.specs.Splitting.{Call, feed, next, Split, after_call, after_calls, fed, first_frame}

first_of_whole : (bytes : List ℕ) → frame_len bytes ≤ length bytes → first_frame bytes ≡ take (frame_len bytes) bytes ∷ []
first_of_whole bytes le = grind (arith, nat_tests)

first_of_partial : (bytes : List ℕ) → length bytes < frame_len bytes → first_frame bytes ≡ []
first_of_partial bytes lt = grind (arith, nat_tests)

without_whole : (bytes : List ℕ) → frame_len bytes ≤ length bytes → without_first bytes ≡ drop (frame_len bytes) bytes
without_whole bytes le = grind (arith, nat_tests)

without_partial : (bytes : List ℕ) → length bytes < frame_len bytes → without_first bytes ≡ bytes
without_partial bytes lt = grind (arith, nat_tests)

-- the first frame and what stands after it are the bytes
parted : (bytes : List ℕ) → (joined (first_frame bytes) ++ without_first bytes ≡ bytes) × AllByRecursion IsFrame (first_frame bytes)
parted bytes =
    elim (cases_lt (length bytes) (frame_len bytes)) [
      | inl lt ↦ (rw (first_of_partial bytes lt, without_partial bytes lt) refl, rw (first_of_partial bytes lt) tt)
      | inr le ↦ (
        rw (first_of_whole bytes le, without_whole bytes le, append-nil, take-append-drop) refl,
        rw (first_of_whole bytes le) (cut_frame bytes le, tt),
      )
    ]

both : (frames others : List (List ℕ)) → AllByRecursion IsFrame frames → AllByRecursion IsFrame others → AllByRecursion IsFrame (frames ++ others)
both [] others all more = more
both (f ∷ fs) others all more = (all.0, both fs others all.1 more)

-- after the calls, what was taken and what is left are the stream so far
pub kept : (calls : List Call) (s : Split) (before : List ℕ) → before ≡ joined s.taken ++ s.rest → AllByRecursion IsFrame s.taken
    → (before ++ fed calls ≡ joined (after_calls s calls).taken ++ (after_calls s calls).rest) × AllByRecursion IsFrame (after_calls s calls).taken
kept [] s before is all = (rw append-nil is, all)
kept (feed piece ∷ calls) s before is all =
    let after = kept calls (after_call s (feed piece)) (before ++ piece) (ap (λ l. l ++ piece) is ∙ append_assoc (joined s.taken) s.rest piece) all in
    (sym (append_assoc before piece (fed calls)) ∙ after.0, after.1)
kept (next ∷ calls) s before is all =
    let parts = parted s.rest in
    let taken : before ≡ joined (s.taken ++ first_frame s.rest) ++ without_first s.rest =
    is ∙ ap (λ l. joined s.taken ++ l) (sym parts.0) ∙ sym (append_assoc (joined s.taken) (joined (first_frame s.rest)) (without_first s.rest))
    ∙ ap (λ l. l ++ without_first s.rest) (sym (rw flat_map-append refl)) in
    kept calls (after_call s next) before taken (both s.taken (first_frame s.rest) all parts.1)
