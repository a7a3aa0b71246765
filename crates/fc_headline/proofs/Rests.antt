-- What is done in a mode is clean, and lies where it may.
use Rattle.std.proofs.Common.{◌≡◌, ◌≢◌, ℕ, zero, suc, ◌+◌, ◌-◌, ◌<◌, ◌==◌, ◌&&◌, ◌||◌, Bool, true, false, cond, List, [], ◌∷◌, ◌++◌, length, take, map, replicate, get_or, Option, Some, None, ⊎_elim, refl, sym, ap, ◌∙◌, subst, eqb-true, arith}
use Rattle.std.specs.List.{items_where_true}
use Rattle.std.proofs.lemmas.Bool.{eqb-false}
use Rattle.std.proofs.lemmas.List.Quantifiers.{position-Some}
use Rattle.fc_modes.specs.Modes.{codes_of, first_refused, accepted, outcome, outcome_by}
use Rattle.fc_modes.specs.declared.mode.Mode.{Mode}
use Rattle.fc_modes.specs.declared.mode.Mode.TheVariants.{AllOrNone, UntilFailure, Continue}
use Rattle.fc_modes.proofs.Folds.{codes_long}
use Rattle.fc_modes.proofs.Positions.{is_refused, zeros, bad, good}
use Rattle.fc_machine.specs.ElementState.{Entry, ops_of, held_ops, bares, first_code}
use Rattle.fc_headline.specs.Folds.{Clean}
use Rattle.fc_machine.specs.Ground.{Place, Ground, Lawful, Commute, inside_by}
use Rattle.fc_machine.specs.Transactions.{within, with_place, places}
use Rattle.fc_headline.proofs.Blocks.{Apart}
use Rattle.fc_headline.proofs.Scopes.{Lies, Fine, or_left, or_right, never}
use Rattle.fc_protocol.specs.Collections.{In}
use Rattle.fc_protocol.specs.Records.{is_held, is_taken, any_taken}
use Rattle.fc_protocol.specs.Scopes.{Scope, same_place, covers}
use Rattle.fc_protocol.proofs.Basics.{AllOf, all_in, both, in_either, cond_false}

head_same : {A : Type 0} (a b : A) (xs ys : List A) → a ∷ xs ≡ b ∷ ys → (a ≡ b) × (xs ≡ ys)
head_same a b xs ys e = (cc, cc)

module _ {Config Op : Type 0} (effect : Config → Op → Config × ℕ) where
  clean_zeros : (c : Config) (ops : List Op) → codes_of effect c ops ≡ replicate (length ops) 0 → Clean effect c ops
  clean_zeros c [] e = tt
  clean_zeros c (op ∷ ops) e = let v = head_same (effect c op).1 0 (codes_of effect (effect c op).0 ops) (replicate (length ops) 0) e in (v.0, clean_zeros (effect c op).0 ops v.1)

  pub clean_none : (c : Config) (ops : List Op) → first_refused effect c ops ≡ None → Clean effect c ops
  clean_none c ops e = clean_zeros c ops (zeros (codes_of effect c ops) e ∙ ap (λ n. replicate n 0) (codes_long effect c ops))

  -- the first code of an outcome in which something is refused
  refused_code : (at : ℕ) (code : ℕ) (rest : List ℕ) → (code ≡ 0 → ⊥) → first_code (replicate at 255 ++ code ∷ rest) ≡ 0 → ⊥
  refused_code zero code rest b e = b (⊎_elim (λ u. eqb-true code 0 u) (λ u. sym (cond_false (code == 0) (first_code rest) code u) ∙ e) (both (code == 0)))
  refused_code (suc at) code rest b e = cc

  clean_by : (c : Config) (ops : List Op) (o : Option ℕ) → first_refused effect c ops ≡ o → first_code (outcome_by effect o AllOrNone c ops).codes ≡ 0 → Clean effect c ops
  clean_by c ops None e z = clean_none c ops e
  clean_by c ops (Some at) e z =
      let found : (at < length (codes_of effect c ops)) × (is_refused (get_or (codes_of effect c ops) at 0) ≡ true) × ((k : ℕ) → k < at → is_refused (get_or (codes_of effect c ops) k 0) ≡ false) = position-Some is_refused (codes_of effect c ops) at 0 e in
      absurd (refused_code at (get_or (codes_of effect c ops) at 0) (replicate (length ops - (at + 1)) 255) (bad (get_or (codes_of effect c ops) at 0) found.1) z)

  -- a rest whose first code is 0 is clean
  pub clean_rest_codes : (c : Config) (ops : List Op) → first_code (outcome effect AllOrNone c ops).codes ≡ 0 → Clean effect c ops
  clean_rest_codes c ops z = clean_by c ops (first_refused effect c ops) refl z

  clean_take : (at : ℕ) (c : Config) (ops : List Op) → at < length (codes_of effect c ops) → ((k : ℕ) → k < at → get_or (codes_of effect c ops) k 0 ≡ 0) → Clean effect c (take at ops)
  clean_take zero c ops l z = tt
  clean_take (suc at) c [] l z = tt
  clean_take (suc at) c (op ∷ ops) l z = (z 0 (omega arith), clean_take at (effect c op).0 ops (omega arith) (λ k i. z (suc k) (omega arith)))

  accepted_if : (b : Bool) (c : Config) (op : Op) (ops : List Op) (ns : List ℕ) → ((effect c op).1 == 0) ≡ b → (b ≡ false → (effect c op).0 ≡ c) → Clean effect (effect c op).0 (items_where_true (map (λ code. code == 0) ns) ops)
      → Clean effect c (items_where_true (b ∷ map (λ code. code == 0) ns) (op ∷ ops))
  accepted_if true c op ops ns e k r = (eqb-true (effect c op).1 0 e, r)
  accepted_if false c op ops ns e k r = subst (λ t. Clean effect t (items_where_true (map (λ code. code == 0) ns) ops)) (k refl) r

  module _ (kept : (c : Config) (op : Op) → (effect c op).1 ≢ 0 → (effect c op).0 ≡ c) where
    clean_accepted : (c : Config) (ops : List Op) → Clean effect c (accepted (codes_of effect c ops) ops)
    clean_accepted c [] = tt
    clean_accepted c (op ∷ ops) =
        accepted_if ((effect c op).1 == 0) c op ops (codes_of effect (effect c op).0 ops) refl (λ b. kept c op (eqb-false (effect c op).1 0 b)) (clean_accepted (effect c op).0 ops)

    done_by : (mode : Mode) (c : Config) (ops : List Op) (o : Option ℕ) → first_refused effect c ops ≡ o → Clean effect c (outcome_by effect o mode c ops).done
    done_by mode c ops None e = clean_none c ops e
    done_by AllOrNone c ops (Some at) e = tt
    done_by UntilFailure c ops (Some at) e =
        let found : (at < length (codes_of effect c ops)) × (is_refused (get_or (codes_of effect c ops) at 0) ≡ true) × ((k : ℕ) → k < at → is_refused (get_or (codes_of effect c ops) k 0) ≡ false) = position-Some is_refused (codes_of effect c ops) at 0 e in
        clean_take at c ops found.0 (λ k i. good (get_or (codes_of effect c ops) k 0) (found.2 k i))
    done_by Continue c ops (Some at) e = clean_accepted c ops

    -- what is done is clean
    pub clean_done : (mode : Mode) (c : Config) (ops : List Op) → Clean effect c (outcome effect mode c ops).done
    clean_done mode c ops = done_by mode c ops (first_refused effect c ops) refl

  -- what is done was asked for
  all_take : (P : Op → Type 0) (n : ℕ) (ops : List Op) → AllOf P ops → AllOf P (take n ops)
  all_take P zero ops a = tt
  all_take P (suc n) [] a = tt
  all_take P (suc n) (op ∷ ops) a = (a.0, all_take P n ops a.1)

  all_picked : (P : Op → Type 0) (bs : List Bool) (ops : List Op) → AllOf P ops → AllOf P (items_where_true bs ops)
  all_picked P [] ops a = tt
  all_picked P (b ∷ bs) [] a = tt
  all_picked P (true ∷ bs) (op ∷ ops) a = (a.0, all_picked P bs ops a.1)
  all_picked P (false ∷ bs) (op ∷ ops) a = all_picked P bs ops a.1

  all_by : (P : Op → Type 0) (mode : Mode) (c : Config) (ops : List Op) (o : Option ℕ) → AllOf P ops → AllOf P (outcome_by effect o mode c ops).done
  all_by P mode c ops None a = a
  all_by P AllOrNone c ops (Some at) a = tt
  all_by P UntilFailure c ops (Some at) a = all_take P at ops a
  all_by P Continue c ops (Some at) a = all_picked P (map (λ code. code == 0) (codes_of effect c ops)) ops a

  pub all_done : (P : Op → Type 0) (mode : Mode) (c : Config) (ops : List Op) → AllOf P ops → AllOf P (outcome effect mode c ops).done
  all_done P mode c ops a = all_by P mode c ops (first_refused effect c ops) a

-- whether an operation at this place lies in a held scope
abbrev pub touches : {Op : Type 0} → Option Place → List (Entry Op) → Bool
touches None ns = false
touches (Some p) ns = is_taken (bares ns) p

module _ {Config Op Subs : Type 0} (g : Ground Config Op Subs) (law : Lawful g) where
  placed_by : (c : Config) (op : Op) (o : Option Place) → g.place_of op ≡ o → (g.effect c op).1 ≡ 0 → (q : Place) × (g.place_of op ≡ Some q)
  placed_by c op None e z = absurd (law.placeless c op e z)
  placed_by c op (Some q) e z = (q, e)

  -- what succeeds lies somewhere
  pub placed : (c : Config) (op : Op) → (g.effect c op).1 ≡ 0 → (q : Place) × (g.place_of op ≡ Some q)
  placed c op z = placed_by c op (g.place_of op) refl z

  pub all_placed : (c : Config) (ops : List Op) → Clean g.effect c ops → AllOf (λ op. (q : Place) × (g.place_of op ≡ Some q)) ops
  all_placed c [] k = tt
  all_placed c (op ∷ ops) k = (placed c op k.0, all_placed (g.effect c op).0 ops k.1)

  within_if : (b : Bool) (c : Config) (op : Op) → (cond b (g.effect c op) (c, 16)).1 ≡ 0 → (b ≡ true) × ((g.effect c op).1 ≡ 0) × (cond b (g.effect c op) (c, 16) ≡ g.effect c op)
  within_if true c op z = (refl, z, refl)
  within_if false c op z = cc

  lies_if : (scope : List Place) (op : Op) (o : Option Place) → g.place_of op ≡ o → inside_by scope o ≡ true → (q : Place) × (o ≡ Some q) → Lies g scope op
  lies_if scope op None e i v = cc
  lies_if scope op (Some r) e i v = (r, e, i)

  -- a rest that is clean inside a scope is clean, and lies there
  pub clean_within : (scope : List Place) (c : Config) (ops : List Op) → Clean (within g scope) c ops → Clean g.effect c ops × AllOf (Lies g scope) ops
  clean_within scope c [] k = (tt, tt)
  clean_within scope c (op ∷ ops) k =
      let w = within_if (inside_by scope (g.place_of op)) c op k.0 in
      let r = clean_within scope (g.effect c op).0 ops (subst (λ (v : Config × ℕ). Clean (within g scope) v.0 ops) w.2 k.1) in
      ((w.1, r.0), (lies_if scope op (g.place_of op) refl w.0 (placed c op w.1), r.1))

  touch_if : (o : Option Place) (ns : List (Entry Op)) (ps : Scope) → any_taken (bares ns) (with_place g o ps) ≡ false → (touches o ns ≡ false) × (any_taken (bares ns) ps ≡ false)
  touch_if None ns ps e = (refl, e)
  touch_if (Some p) ns ps e = (or_left (is_taken (bares ns) p) _ e, or_right (is_taken (bares ns) p) _ e)

  pub touch_all : (ops : List Op) (ns : List (Entry Op)) → any_taken (bares ns) (places g ops) ≡ false → AllOf (λ op. touches (g.place_of op) ns ≡ false) ops
  touch_all [] ns e = tt
  touch_all (op ∷ ops) ns e = let t = touch_if (g.place_of op) ns (places g ops) e in (t.0, touch_all ops ns t.1)

  place_same : (p q : Place) → same_place p q ≡ true → p ≡ q
  place_same p q e =
      let a : p.0 ≡ q.0 = eqb-true _ _ (first (p.0 == q.0) (p.1 == q.1) e) in
      let b : p.1 ≡ q.1 = eqb-true _ _ (second (p.0 == q.0) (p.1 == q.1) e) in
      ap (λ (n : ℕ). (n, p.1)) a ∙ ap (λ (n : ℕ). (q.0, n)) b
    where
      first : (a b : Bool) → (a && b) ≡ true → a ≡ true
      first true b e = refl
      first false b e = cc

      second : (a b : Bool) → (a && b) ≡ true → b ≡ true
      second true b e = e
      second false b e = cc

  untouched_one : (q r : Place) (scope : List Place) → covers scope q ≡ false → covers scope r ≡ true → same_place q r ≡ false
  untouched_one q r scope a b = ⊎_elim (λ u. never (covers scope q) (subst (λ v. covers scope v ≡ true) (sym (place_same q r u)) b) a) (λ u. u) (both (same_place q r))

  untouched_head : (h t r : Bool) → ((h && t) || r) ≡ false → h ≡ true → t ≡ false
  untouched_head true t r e i = or_left t r e
  untouched_head false t r e i = cc

  untouched_if : (h : Bool) (scope : List Place) (xs ys : List Op) (op b : Op) (q : Place) → g.place_of op ≡ Some q → (h ≡ true → covers scope q ≡ false) → (h ≡ true → AllOf (Lies g scope) xs) → (In b ys → Commute g.effect op b) → In b (cond h (xs ++ ys) ys) → Commute g.effect op b
  untouched_if true scope xs ys op b q e t f r i =
      ⊎_elim (λ u. let l = all_in (Lies g scope) b xs (f refl) u in law.apart op b q l.0 e l.1 (untouched_one q l.0 scope (t refl) l.2)) (λ u. r u) (in_either b xs ys i)
  untouched_if false scope xs ys op b q e t f r i = r i

  untouched_op : (op b : Op) (q : Place) (ns : List (Entry Op)) → g.place_of op ≡ Some q → touches (Some q) ns ≡ false → AllOf (Fine g) ns → In b (held_ops ns) → Commute g.effect op b
  untouched_op op b q [] e t f i = absurd i
  untouched_op op b q (n ∷ ns) e t f i =
      untouched_if (is_held n.state) n.scope (ops_of n) (held_ops ns) op b q e (untouched_head (is_held n.state) (covers n.scope q) (touches (Some q) ns) t) f.0
      (untouched_op op b q ns e (or_right (is_held n.state && covers n.scope q) (touches (Some q) ns) t) f.1) i

  -- operations that touch no held scope lie apart from all that is held
  pub untouched : (ops : List Op) (ns : List (Entry Op)) → AllOf (λ op. touches (g.place_of op) ns ≡ false) ops → AllOf (λ op. (q : Place) × (g.place_of op ≡ Some q)) ops → AllOf (Fine g) ns → Apart g.effect ops (held_ops ns)
  untouched ops ns t k f x y i j =
      let a : touches (g.place_of x) ns ≡ false = all_in (λ op. touches (g.place_of op) ns ≡ false) x ops t i in
      let b = all_in (λ op. (q : Place) × (g.place_of op ≡ Some q)) x ops k i in
      untouched_op x y b.0 ns b.1 (subst (λ v. touches v ns ≡ false) b.1 a) f j
