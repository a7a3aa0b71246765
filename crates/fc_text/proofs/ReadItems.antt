-- Items whose lines stand one after the other are read, while the next line stands at their level.
use Rattle.std.proofs.Common.{◌≡◌, ◌<◌, ◌≤◌, ◌*◌, ℕ, zero, suc, true, false, List, [], ◌∷◌, ◌++◌, length, Ok, append_assoc, refl, sym, ap, subst, ◌∙◌, arith, length-append, eq-eqb, ne_eqb}
use Rattle.std.specs.List.{flat_map, AllByRecursion}
use Rattle.fc_lines.specs.LineWords.{lines_left, stands_at, spaces_before}
use Rattle.fc_text.specs.TextGrammar.{Line, SpellsLine, AreEach}
use Rattle.fc_lines.specs.LineReading.{Reader}
use Rattle.fc_text.specs.TextReading.{each_at, many_at, some_at}
use Rattle.fc_text.proofs.PlainWords.{Whole}
use Rattle.fc_text.proofs.ReadLines.{Gives, spaces_are}

-- the next line, if there is one, stands above this level
abbrev pub Before : ℕ → List (List ℕ) → Type 0
Before level [] = Unit {0}
Before level (l ∷ ls) = (k : ℕ) × (k < level) × (spaces_before l ≡ 2 * k)

pub not_there : (level : ℕ) (lines : List (List ℕ)) → Before level lines → stands_at level lines ≡ false
not_there level [] h = refl
not_there level (l ∷ ls) (k, less, e) = ne_eqb (spaces_before l) (2 * level) (λ same. omega (arith, less, e, same))

pub before_more : (level more : ℕ) (lines : List (List ℕ)) → level ≤ more → Before level lines → Before more lines
before_more level more [] le h = tt
before_more level more (l ∷ ls) le (k, less, e) = (k, omega (arith, less, le), e)

-- pieces of two lists of things
pub each_split : {A : Type 0} (Is : A → List ℕ → Type 0) (xs ys : List A) (texts : List (List ℕ)) → AreEach Is (xs ++ ys) texts
    → (a : List (List ℕ)) × (b : List (List ℕ)) × (texts ≡ a ++ b) × AreEach Is xs a × AreEach Is ys b
each_split Is [] ys texts h = ([], texts, refl, tt, h)
each_split Is (x ∷ xs) ys [] h = absurd h
each_split Is (x ∷ xs) ys (t ∷ ts) h =
    let more = each_split Is xs ys ts h.1 in
    (t ∷ more.0, more.1, ap (λ l. t ∷ l) more.2, (h.0, more.3), more.4)

-- lines that begin with one at this level
pub record Begins (level : ℕ) (ls : List Line) : Type 0 where
  pub first : Line
  pub more : List Line
  pub is : ls ≡ first ∷ more
  pub level_is : first.level ≡ level
  pub whole : Whole first

pub record Stands (level : ℕ) (texts rest : List (List ℕ)) : Type 0 where
  pub there : stands_at level (texts ++ rest) ≡ true
  pub some : 0 < length texts
  pub before : Before (suc level) (texts ++ rest)

stands_by : (level : ℕ) (l : Line) (ls : List Line) (texts rest : List (List ℕ)) → l.level ≡ level → Whole l → AreEach SpellsLine (l ∷ ls) texts → Stands level texts rest
stands_by level l ls [] rest e whole h = absurd h
stands_by level l ls (t ∷ ts) rest e whole h =
    let spaces : spaces_before t ≡ 2 * level = spaces_are l t whole h.0 ∙ ap (λ n. 2 * n) e in
    record { there = eq-eqb (spaces_before t) (2 * level) spaces; some = omega arith; before = (level, omega arith, spaces) }

pub stands : (level : ℕ) (ls : List Line) (texts rest : List (List ℕ)) → Begins level ls → AreEach SpellsLine ls texts → Stands level texts rest
stands level ls texts rest b h = stands_by level b.first b.more texts rest b.level_is b.whole (subst (λ l. AreEach SpellsLine l texts) b.is h)

module _ {X : Type 0} (f : X → List Line) (P : X → Type 0) (one : Reader X) (level : ℕ) (begins : (x : X) → Begins level (f x)) where
  -- what stands behind an item stands above what is deeper
  pub follows : (xs : List X) (texts rest : List (List ℕ)) → AreEach SpellsLine (flat_map f xs) texts → Before level rest → Before (suc level) (texts ++ rest)
  follows [] [] rest h b = before_more level (suc level) rest (omega arith) b
  follows [] (t ∷ ts) rest h b = absurd h
  follows (x ∷ xs) texts rest h b =
      let s = each_split SpellsLine (f x) (flat_map f xs) texts h in
      let here = stands level (f x) s.0 (s.1 ++ rest) (begins x) s.3 in
      subst (Before (suc level)) (sym (append_assoc s.0 s.1 rest) ∙ ap (λ l. l ++ rest) (sym s.2)) here.before

  enough : (xs : List X) (texts : List (List ℕ)) → AreEach SpellsLine (flat_map f xs) texts → length xs ≤ length texts
  enough [] texts h = omega arith
  enough (x ∷ xs) texts h =
      let s = each_split SpellsLine (f x) (flat_map f xs) texts h in
      let here = stands level (f x) s.0 [] (begins x) s.3 in
      omega (arith, ap length s.2, length-append s.0 s.1, here.some, enough xs s.1 s.4)

  module _ (reads : (x : X) (texts rest : List (List ℕ)) (taken : ℕ) → P x → AreEach SpellsLine (f x) texts → Before (suc level) rest → Gives (one (lines_left taken (texts ++ rest))) x rest) where
    none_by : (fuel taken : ℕ) (rest : List (List ℕ)) → Before level rest → each_at fuel level one (lines_left taken rest) ≡ Ok ([], lines_left taken rest)
    none_by zero taken rest b = refl
    none_by (suc fuel) taken rest b = rw (not_there level rest b) refl

    each_reads : (xs : List X) (fuel taken : ℕ) (texts rest : List (List ℕ)) → length xs ≤ fuel → AllByRecursion P xs → AreEach SpellsLine (flat_map f xs) texts → Before level rest
        → Gives (each_at fuel level one (lines_left taken (texts ++ rest))) xs rest
    each_reads [] fuel taken [] rest le all h b = (taken, none_by fuel taken rest b)
    each_reads [] fuel taken (t ∷ ts) rest le all h b = absurd h
    each_reads (x ∷ xs) zero taken texts rest le all h b = absurd (omega (arith, le))
    each_reads (x ∷ xs) (suc fuel) taken texts rest le all h b =
        let s = each_split SpellsLine (f x) (flat_map f xs) texts h in
        let same : texts ++ rest ≡ s.0 ++ (s.1 ++ rest) = ap (λ l. l ++ rest) s.2 ∙ append_assoc s.0 s.1 rest in
        let here = stands level (f x) s.0 (s.1 ++ rest) (begins x) s.3 in
        let first = reads x s.0 (s.1 ++ rest) taken all.0 s.3 (follows xs s.1 rest s.4 b) in
        let more = each_reads xs fuel first.0 s.1 rest (omega (arith, le)) all.1 s.4 b in
        (more.0, ap (λ l. each_at (suc fuel) level one (lines_left taken l)) same ∙ rw (here.there, first.1, more.1) refl)

    pub many_reads : (xs : List X) (taken : ℕ) (texts rest : List (List ℕ)) → AllByRecursion P xs → AreEach SpellsLine (flat_map f xs) texts → Before level rest
        → Gives (many_at level one (lines_left taken (texts ++ rest))) xs rest
    unfolding many_at
    many_reads xs taken texts rest all h b =
        each_reads xs (length (texts ++ rest)) taken texts rest (omega (arith, enough xs texts h, length-append texts rest)) all h b

    pub some_reads : (xs : List X) (taken : ℕ) (texts rest : List (List ℕ)) → 0 < length xs → AllByRecursion P xs → AreEach SpellsLine (flat_map f xs) texts → Before level rest
        → Gives (some_at level one (lines_left taken (texts ++ rest))) xs rest
    unfolding some_at
    some_reads [] taken texts rest some all h b = absurd (omega (arith, some))
    some_reads (x ∷ xs) taken texts rest some all h b =
        let s = each_split SpellsLine (f x) (flat_map f xs) texts h in
        let same : texts ++ rest ≡ s.0 ++ (s.1 ++ rest) = ap (λ l. l ++ rest) s.2 ∙ append_assoc s.0 s.1 rest in
        let first = reads x s.0 (s.1 ++ rest) taken all.0 s.3 (follows xs s.1 rest s.4 b) in
        let more = many_reads xs first.0 s.1 rest all.1 s.4 b in
        (more.0, ap (λ l. some_at level one (lines_left taken l)) same ∙ rw (first.1, more.1) refl)
