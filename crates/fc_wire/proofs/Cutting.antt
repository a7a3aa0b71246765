-- A stream is cut into frames in exactly one way.
use Rattle.std.proofs.Common.{◌≡◌, ◌≤◌, ℕ, zero, suc, List, [], ◌∷◌, ◌++◌, length, take, drop, append_assoc, arith, refl, sym, ap, ◌∙◌, inl, inr, length-append}
use Rattle.std.proofs.lemmas.List.{take_at, drop_at, take-append-drop, length-take-le, length-drop, get_or-take, get_or_append_left}
use Rattle.std.proofs.lemmas.Bool.{cases_lt}
use Rattle.std.specs.List.{AllByRecursion}
use Rattle.fc_wire.specs.Frames.{frame_len, IsFrame, IsPartial, joined, Frames}

-- the length stands in the first bytes
front_len : (frame more : List ℕ) → IsFrame frame → frame_len (frame ++ more) ≡ length frame
front_len frame more is = omega (arith, get_or_append_left frame more 0 2 (omega arith), get_or_append_left frame more 0 3 (omega arith))

pub cut_frame : (bytes : List ℕ) → frame_len bytes ≤ length bytes → IsFrame (take (frame_len bytes) bytes)
cut_frame bytes le =
    let n = frame_len bytes in
    omega (arith, length-take-le n bytes le, get_or-take n bytes 2 0 (omega arith), get_or-take n bytes 3 0 (omega arith))

once : (frames others : List (List ℕ)) (rest last : List ℕ) → AllByRecursion IsFrame frames → AllByRecursion IsFrame others → IsPartial rest → IsPartial last
    → joined frames ++ rest ≡ joined others ++ last → (frames ≡ others) × (rest ≡ last)
once [] [] rest last all each partial less same = (refl, same)
once [] (g ∷ gs) rest last all each partial less same =
    let whole : rest ≡ g ++ (joined gs ++ last) = same ∙ append_assoc g (joined gs) last in
    absurd (omega (arith, ap frame_len whole ∙ front_len g (joined gs ++ last) each.0, ap length whole, length-append g (joined gs ++ last)))
once (f ∷ fs) [] rest last all each partial less same =
    let whole : last ≡ f ++ (joined fs ++ rest) = sym same ∙ append_assoc f (joined fs) rest in
    absurd (omega (arith, ap frame_len whole ∙ front_len f (joined fs ++ rest) all.0, ap length whole, length-append f (joined fs ++ rest)))
once (f ∷ fs) (g ∷ gs) rest last all each partial less same =
    let whole : f ++ (joined fs ++ rest) ≡ g ++ (joined gs ++ last) = sym (append_assoc f (joined fs) rest) ∙ same ∙ append_assoc g (joined gs) last in
    let size : length f ≡ length g = sym (front_len f (joined fs ++ rest) all.0) ∙ ap frame_len whole ∙ front_len g (joined gs ++ last) each.0 in
    let heads : f ≡ g = sym (take_at f (joined fs ++ rest) (length f) refl) ∙ ap (take (length f)) whole ∙ take_at g (joined gs ++ last) (length f) (sym size) in
    let tails : joined fs ++ rest ≡ joined gs ++ last =
    sym (drop_at f (joined fs ++ rest) (length f) refl) ∙ ap (drop (length f)) whole ∙ drop_at g (joined gs ++ last) (length f) (sym size) in
    let more = once fs gs rest last all.1 each.1 partial less tails in
    (cc (heads, more.0), more.1)

pub cut_once : (bytes : List ℕ) (frames others : List (List ℕ)) (rest last : List ℕ) → Frames bytes frames rest → Frames bytes others last → (frames ≡ others) × (rest ≡ last)
cut_once bytes frames others rest last one two = once frames others rest last one.each two.each one.partial two.partial (sym one.whole ∙ two.whole)

some_cut : (fuel : ℕ) (bytes : List ℕ) → length bytes ≤ fuel → (frames : List (List ℕ)) × (rest : List ℕ) × Frames bytes frames rest
some_cut zero bytes le = ([], bytes, record { whole = refl; each = tt; partial = omega arith })
some_cut (suc fuel) bytes le =
    elim (cases_lt (length bytes) (frame_len bytes)) [
      | inl less ↦ ([], bytes, record { whole = refl; each = tt; partial = less })
      | inr whole ↦
          let n = frame_len bytes in
          let more = some_cut fuel (drop n bytes) (omega (arith, length-drop n bytes)) in (
            take n bytes ∷ more.0,
            more.1,
            record {
              whole = sym (take-append-drop n bytes) ∙ ap (λ l. take n bytes ++ l) more.2.whole ∙ sym (append_assoc (take n bytes) (joined more.0) more.1);
              each = (cut_frame bytes whole, more.2.each);
              partial = more.2.partial;
            },
          )
    ]

pub cut_exists : (bytes : List ℕ) → (frames : List (List ℕ)) × (rest : List ℕ) × Frames bytes frames rest
cut_exists bytes = some_cut (length bytes) bytes (omega arith)
