-- Readers one after the other, and items of lines, go on with other lines where they fail.
use Rattle.std.proofs.Common.{◌≡◌, ◌<◌, ◌≤◌, ◌+◌, ◌*◌, ℕ, zero, suc, Bool, true, false, cond, List, [], ◌∷◌, ◌++◌, length, Result, Ok, Err, append_assoc, length-append, refl, sym, ap, ◌∙◌, arith, eqb-true}
use Rattle.fc_lines.specs.LineWords.{LinesLeft, lines_left, spaces_before, stands_at}
use Rattle.fc_text.specs.TextGrammar.{Line, SpellsLine, AreEach}
use Rattle.fc_base.specs.Answers.{◌>>=◌}
use Rattle.fc_lines.specs.TextPlaces.{TextPlace}
use Rattle.fc_lines.specs.LineReading.{Reader}
use Rattle.fc_text.specs.TextReading.{and_more, each_at, many_at, some_at}
use Rattle.fc_text.proofs.Completions.{same_place}
use Rattle.fc_text.proofs.CompletedLines.{SameTo, Completes, pure_err}
use Rattle.fc_text.proofs.ReadLines.{Gives}
use Rattle.fc_text.proofs.ReadItems.{Before}
use Rattle.fc_text.proofs.SoundWords.{Found}

-- what was read is read again, whatever stands behind it above a level
pub record Again {X : Type 0} (bound : ℕ) (R : Reader X) (left : LinesLeft) (x : X) (rest : LinesLeft) : Type 0 where
  pub front : List (List ℕ)
  pub is : left.lines ≡ front ++ rest.lines
  pub taken : rest.taken ≡ left.taken + length front
  pub again : (others : List (List ℕ)) (taken : ℕ) → Before bound others → Gives (R (lines_left taken (front ++ others))) x others

abbrev pub ReadsAgain : {X : Type 0} → ℕ → Reader X → Type 0
ReadsAgain {X = X} bound R = (left : LinesLeft) (x : X) (rest : LinesLeft) → R left ≡ Ok (x, rest) → Again bound R left x rest

-- lines that are taken are counted
abbrev pub Counts : {X : Type 0} → Reader X → Type 0
Counts {X = X} R = (left : LinesLeft) (x : X) (rest : LinesLeft) → R left ≡ Ok (x, rest) → rest.taken + length rest.lines ≡ left.taken + length left.lines

-- by what is spelled, and what is read of it
pub again_by : {X : Type 0} (bound : ℕ) (R : Reader X) (f : X → List Line) (P : X → Type 0)
    → ((left : LinesLeft) (x : X) (rest : LinesLeft) → R left ≡ Ok (x, rest) → Found (f x) left rest × P x)
    → ((x : X) (texts rest : List (List ℕ)) (taken : ℕ) → P x → AreEach SpellsLine (f x) texts → Before bound rest → Gives (R (lines_left taken (texts ++ rest))) x rest)
    → Counts R → ReadsAgain bound R
again_by bound R f P sound reads counts left x rest e =
    let s = sound left x rest e in
    let found = s.0 in
    record {
      front = found.0;
      is = found.1;
      taken = omega (arith, counts left x rest e, ap length found.1, length-append found.0 rest.lines);
      again = λ others taken before. reads x found.0 others taken s.1 found.2 before;
    }

-- lines behind a front that is the same
pub behind_front : (taken more : ℕ) (p : TextPlace) (front all lines others : List (List ℕ)) → all ≡ front ++ lines → more ≡ taken + length front → SameTo more p lines others → SameTo taken p all (front ++ others)
behind_front taken more p front all lines others is count s = record {
  front = front ++ s.front;
  back = s.back;
  more = s.more;
  is = is ∙ ap (λ l. front ++ l) s.is ∙ sym (append_assoc front s.front s.back);
  other = ap (λ l. front ++ l) s.other ∙ sym (append_assoc front s.front s.more);
  line = omega (arith, s.line, count, length-append front s.front);
  rest = s.rest;
}

-- what reads behind something else: it ends well at the end of the lines, and goes on with lines above a level where it fails
pub record GoesBehind {X Y : Type 0} (bound : ℕ) (K : X × LinesLeft → Result (Y × LinesLeft) TextPlace) : Type 0 where
  pub ends : (x : X) → (y : Y) × ((taken : ℕ) → Gives (K (x, lines_left taken [])) y [])
  pub goes : (x : X) (left : LinesLeft) (p : TextPlace) → K (x, left) ≡ Err p
      → (others : List (List ℕ)) × (y : Y) × ((taken : ℕ) → Gives (K (x, lines_left taken others)) y []) × SameTo left.taken p left.lines others × Before bound others

module _ {X Y : Type 0} (bound : ℕ) (R : Reader X) (K : X × LinesLeft → Result (Y × LinesLeft) TextPlace) (first : Completes R) (again : ReadsAgain bound R) (behind : GoesBehind bound K) where
  abbrev Mended : LinesLeft → TextPlace → Type 0
  Mended left p = (others : List (List ℕ)) × (y : Y) × ((taken : ℕ) → Gives (R (lines_left taken others) >>= K) y []) × SameTo left.taken p left.lines others

  with_end : (others : List (List ℕ)) (x : X) → ((taken : ℕ) → Gives (R (lines_left taken others)) x []) → (taken : ℕ) → Gives (R (lines_left taken others) >>= K) ((behind.ends x).0) []
  with_end others x is taken =
      let r = is taken in
      let z = (behind.ends x).1 r.0 in
      (z.0, ap (λ r. r >>= K) r.1 ∙ z.1)

  mend : (left : LinesLeft) (p : TextPlace) (r : Result (X × LinesLeft) TextPlace) → R left ≡ r → (r >>= K) ≡ Err p → Mended left p
  mend left p (Err q) is h =
      let d = first.completes left p (is ∙ ap Err (same_place q p h)) in
      (d.0, (behind.ends d.1).0, with_end d.0 d.1 d.2, d.3)
  mend left p (Ok x) is h =
      let d = behind.goes x.0 x.1 p h in
      let a = again left x.0 x.1 is in (
        a.front ++ d.0,
        d.1,
        (λ taken.
            let r = a.again d.0 taken d.4 in
            let z = d.2 r.0 in
            (z.0, ap (λ r. r >>= K) r.1 ∙ z.1)),
        behind_front left.taken x.1.taken p a.front left.lines x.1.lines d.0 a.is a.taken d.3,
      )

  pub then_goes : Completes {X = Y} (λ left. R left >>= λ x. K x)
  then_goes = record {
    others = first.others;
    value = (behind.ends first.value).0;
    is = with_end first.others first.value first.is;
    completes = λ left p h. mend left p (R left) refl h;
  }

-- items at a level
pub record IsItem {X : Type 0} (level : ℕ) (one : Reader X) : Type 0 where
  pub goes : Completes one
  pub again : ReadsAgain (suc level) one
  pub stands : (left : LinesLeft) (x : X) (rest : LinesLeft) → one left ≡ Ok (x, rest) → stands_at level left.lines ≡ true

module _ {X : Type 0} (level : ℕ) (one : Reader X) (item : IsItem level one) where
  pub no_items : (fuel taken : ℕ) → each_at fuel level one (lines_left taken []) ≡ Ok ([], lines_left taken [])
  no_items zero taken = refl
  no_items (suc fuel) taken = refl

  stands_here : (lines : List (List ℕ)) → stands_at level lines ≡ true → 0 < length lines
  stands_here [] e = cc
  stands_here (l ∷ ls) e = omega arith

  stands_before : (lines : List (List ℕ)) → stands_at level lines ≡ true → Before (suc level) lines
  stands_before [] e = tt
  stands_before (l ∷ ls) e = (level, omega arith, eqb-true (spaces_before l) (2 * level) e)

  abbrev Items : LinesLeft → TextPlace → Type 0
  Items left p = (others : List (List ℕ)) × (xs : List X) × ((taken fuel : ℕ) → length others ≤ fuel → Gives (each_at fuel level one (lines_left taken others)) xs []) × SameTo left.taken p left.lines others × (stands_at level others ≡ true)

  and_others : (all others : List (List ℕ)) (x : X) (xs : List X) → stands_at level all ≡ true → length others < length all → ((taken : ℕ) → Gives (one (lines_left taken all)) x others)
      → ((taken fuel : ℕ) → length others ≤ fuel → Gives (each_at fuel level one (lines_left taken others)) xs [])
      → (taken fuel : ℕ) → length all ≤ fuel → Gives (each_at fuel level one (lines_left taken all)) (x ∷ xs) []
  and_others all others x xs there less first more taken zero enough = absurd (omega (arith, less, enough))
  and_others all others x xs there less first more taken (suc fuel) enough =
      let r = first taken in
      let z = more r.0 fuel (omega (arith, less, enough)) in
      (z.0, rw (there, r.1, z.1) refl)

  each_mend : (fuel : ℕ) (left : LinesLeft) (p : TextPlace) → each_at fuel level one left ≡ Err p → Items left p
  each_mend zero left p h = cc
  each_mend (suc fuel) left p h = by (stands_at level left.lines) (each_mend fuel) h
    where
      first_or_others : ((left : LinesLeft) (p : TextPlace) → each_at fuel level one left ≡ Err p → Items left p) → (r : Result (X × LinesLeft) TextPlace) → one left ≡ r
          → (r >>= λ x. and_more x.0 (each_at fuel level one x.1)) ≡ Err p → Items left p
      first_or_others more (Err q) is h =
          let d = item.goes.completes left p (is ∙ ap Err (same_place q p h)) in
          let r = d.2 0 in
          let there = item.stands (lines_left 0 d.0) d.1 (lines_left r.0 []) r.1 in
          (d.0, d.1 ∷ [], and_others d.0 [] d.1 [] there (stands_here d.0 there) d.2 (λ taken fuel enough. (taken, no_items fuel taken)), d.3, there)
      first_or_others more (Ok x) is h =
          let d = more x.1 p (pure_err (each_at fuel level one x.1) (λ xs. (x.0 ∷ xs.0, xs.1)) p h) in
          let a = item.again left x.0 x.1 is in
          let next = stands_before d.0 d.4 in
          let alone = a.again [] 0 tt in
          let some = stands_here (a.front ++ []) (item.stands (lines_left 0 (a.front ++ [])) x.0 (lines_left alone.0 []) alone.1) in
          let r = a.again d.0 0 next in
          let there = item.stands (lines_left 0 (a.front ++ d.0)) x.0 (lines_left r.0 d.0) r.1 in (
            a.front ++ d.0,
            x.0 ∷ d.1,
            and_others (a.front ++ d.0) d.0 x.0 d.1 there (omega (arith, some, length-append a.front [], length-append a.front d.0)) (λ taken. a.again d.0 taken next) d.2,
            behind_front left.taken x.1.taken p a.front left.lines x.1.lines d.0 a.is a.taken d.3,
            there,
          )

      by : (t : Bool) → ((left : LinesLeft) (p : TextPlace) → each_at fuel level one left ≡ Err p → Items left p)
          → cond {A = Result (List X × LinesLeft) TextPlace} t (one left >>= λ x. and_more x.0 (each_at fuel level one x.1)) (Ok ([], left)) ≡ Err p → Items left p
      by true more h = first_or_others more (one left) refl h
      by false more h = cc

  pub many_goes : Completes (many_at level one)
  unfolding many_at
  many_goes = record {
    others = [];
    value = [];
    is = λ taken. (taken, refl);
    completes = λ left p h.
        let d = each_mend (length left.lines) left p h in
        (d.0, d.1, (λ taken. d.2 taken (length d.0) (omega arith)), d.3);
  }

  -- the others behind the first
  pub others_go : GoesBehind (suc level) (λ (x : X × LinesLeft). and_more x.0 (many_at level one x.1))
  unfolding many_at
  others_go = record {
    ends = λ x. (x ∷ [], λ taken. (taken, refl));
    goes = λ x left p h.
        let d = each_mend (length left.lines) left p (pure_err (each_at (length left.lines) level one left) (λ xs. (x ∷ xs.0, xs.1)) p h) in (
          d.0,
          x ∷ d.1,
          (λ taken.
              let r = d.2 taken (length d.0) (omega arith) in
              (r.0, ap (and_more x) r.1)),
          d.3,
          stands_before d.0 d.4,
        );
  }

  pub some_goes : Completes (some_at level one)
  unfolding some_at
  some_goes = then_goes (suc level) one (λ x. and_more x.0 (many_at level one x.1)) item.goes item.again others_go
