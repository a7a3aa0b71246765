-- Lists in which something is kept by element, as functions.
use Rattle.std.proofs.lemmas.List.{take_more, map-append, take_all}
use Rattle.std.proofs.Common.{◌≡◌, ℕ, ◌+◌, ◌<◌, ◌≤◌, nat_le, ◌&&◌, map, length, take, get_or, arith, ◌==◌, Bool, true, false, ◌||◌, cond, List, [], ◌∷◌, ◌++◌, Option, Some, None, unwrap_or, Result, Ok, Err, OnOk, refl, sym, ap, ◌∙◌, eqb-true, eq-eqb}
use Rattle.std.proofs.Math.Path.{fun_ext}
use Rattle.fc_protocol.specs.Collections.{among, put}
use Rattle.fc_asks.specs.Tables.{found, placed, table, counts}
use Rattle.fc_jobs.proofs.Seating.{hidden, swap}

placed_if : {A : Type 0} (b : Bool) (p q : ℕ) (v : A) (e : ℕ × A) (es rest : List (ℕ × A)) → (p == e.0) ≡ b → found q rest ≡ cond (q == p) (Some v) (found q es)
    → found q (cond b ((p, v) ∷ es) (e ∷ rest)) ≡ cond (q == p) (Some v) (cond (q == e.0) (Some e.1) (found q es))
placed_if true p q v e es rest t h = hidden (q == p) (Some v) (Some e.1) (found q es) ∙ ap (λ n. cond (q == p) (Some v) (cond (q == n) (Some e.1) (found q es))) (eqb-true p e.0 t)
placed_if false p q v e es rest t h =
    ap (cond (q == e.0) (Some e.1)) h ∙ swap (q == e.0) (q == p) (Some e.1) (Some v) (found q es)
    (λ a b. let z : true ≡ false = sym (eq-eqb p e.0 (sym (eqb-true q p b) ∙ eqb-true q e.0 a)) ∙ t in cc)

pub found_placed : {A : Type 0} (p : ℕ) (v : A) (es : List (ℕ × A)) (q : ℕ) → found q (placed p v es) ≡ put (table es) p (Some v) q
unfolding put
found_placed p v [] q = refl
found_placed p v (e ∷ es) q = placed_if (p == e.0) p q v e es (placed p v es) refl (found_placed p v es q)

pub table_placed : {A : Type 0} (p : ℕ) (v : A) (es : List (ℕ × A)) → table (placed p v es) ≡ put (table es) p (Some v)
table_placed p v es = fun_ext (found_placed p v es)

number_of : (b : Bool) (n : ℕ) (o : Option ℕ) → unwrap_or (cond b (Some n) o) 0 ≡ cond b n (unwrap_or o 0)
number_of true n o = refl
number_of false n o = refl

pub counts_placed : (p n : ℕ) (es : List (ℕ × ℕ)) → counts (placed p n es) ≡ put (counts es) p n
unfolding put
counts_placed p n es = fun_ext (λ q. ap (λ o. unwrap_or o 0) (found_placed p n es q) ∙ number_of (q == p) n (found q es))

last_or : (a b : Bool) → (a || (b || false)) ≡ cond b true a
last_or true true = refl
last_or true false = refl
last_or false true = refl
last_or false false = refl

or_apart : (a b c : Bool) → (a || cond b true c) ≡ cond b true (a || c)
or_apart true true c = refl
or_apart true false c = refl
or_apart false b c = refl

among_pushed : (p : ℕ) (ps : List ℕ) (q : ℕ) → among q (ps ++ p ∷ []) ≡ cond (q == p) true (among q ps)
among_pushed p [] q = last_or false (q == p)
among_pushed p (r ∷ ps) q = ap (λ b. (q == r) || b) (among_pushed p ps q) ∙ or_apart (q == r) (q == p) (among q ps)

pub among_push : (p : ℕ) (ps : List ℕ) → (λ q. among q (ps ++ p ∷ [])) ≡ put (λ q. among q ps) p true
unfolding put
among_push p ps = fun_ext (among_pushed p ps)

pub on_ok_by : {X E : Type 0} {P Q : Type 0} (r : Result X E) → OnOk r P → (P → Q) → OnOk r Q
on_ok_by (Ok x) h f = f h
on_ok_by (Err e) h f = h

-- the count of messages taken, one more where there is one more to take
pub one_more : (p d : ℕ) (es cs : List (ℕ × ℕ)) → d ≡ counts es p → nat_le (counts es p) (counts cs p) ≡ true → put (counts es) p (d + 1) ≡ put (counts es) p (cond (nat_le (counts es p) (counts cs p)) (counts es p + 1) (counts es p))
one_more p d es cs e t = ap (put (counts es) p) (ap (λ n. n + 1) e ∙ ap (λ b. cond b (counts es p + 1) (counts es p)) (sym t))

pub no_more : (p d : ℕ) (es cs : List (ℕ × ℕ)) → d ≡ counts es p → nat_le (counts es p) (counts cs p) ≡ false → put (counts es) p d ≡ put (counts es) p (cond (nat_le (counts es p) (counts cs p)) (counts es p + 1) (counts es p))
no_more p d es cs e t = ap (put (counts es) p) (e ∙ ap (λ b. cond b (counts es p + 1) (counts es p)) (sym t))

pub le_is : (a b c d : ℕ) → a ≡ c → b ≡ d → a ≤ b → nat_le c d ≡ true
le_is a b c d e f l = let h : c ≤ d = omega arith in grind arith

pub le_not : (a b c d : ℕ) → a ≡ c → b ≡ d → b < a → nat_le c d ≡ false
le_not a b c d e f l = let h : d < c = omega arith in grind arith

kept_if : (T : ℕ → Bool) (b k : Bool) (q n : ℕ) → (q == n) ≡ b → T n ≡ true → cond b true (k && T q) ≡ (cond b true k && T q)
kept_if T true k q n e t = sym (ap T (eqb-true q n e) ∙ t)
kept_if T false k q n e t = refl

left_if : (T : ℕ → Bool) (b k : Bool) (q n : ℕ) → (q == n) ≡ b → T n ≡ false → (k && T q) ≡ (cond b true k && T q)
left_if T true true q n e t = refl
left_if T true false q n e t = sym (ap T (eqb-true q n e) ∙ t)
left_if T false k q n e t = refl

without : (k t : Bool) → (k ≡ false → t ≡ false) → (k && t) ≡ t
without true t f = refl
without false t f = sym (f refl)

unfound_if : {A : Type 0} (b k : Bool) (v : A) (o : Option A) → (b || k) ≡ false → (k ≡ false → o ≡ None) → cond b (Some v) o ≡ None
unfound_if true k v o e h = cc
unfound_if false k v o e h = h e

unfound : {A : Type 0} (xs : List (ℕ × A)) (q : ℕ) → among q (map (λ (e : ℕ × A). e.0) xs) ≡ false → found q xs ≡ None
unfound [] q k = refl
unfound (x ∷ xs) q k = unfound_if (q == x.0) _ x.1 (found q xs) k (unfound xs q)

-- which elements have an answer for what is decided, entry by entry
module _ {A : Type 0} (T : ℕ → Bool) where
  abbrev keys : List (ℕ × A) → List ℕ
  keys = map (λ (e : ℕ × A). e.0)

  more_keys : (xs : List (ℕ × A)) (i : ℕ) (x : ℕ × A) (q : ℕ) → i < length xs → x ≡ get_or xs i x → among q (keys (take (i + 1) xs)) ≡ cond (q == x.0) true (among q (keys (take i xs)))
  more_keys xs i x q l e =
      ap (λ ys. among q (keys ys)) (take_more xs i x l ∙ ap (λ y. take i xs ++ y ∷ []) (sym e)) ∙ ap (among q) (map-append (λ (e : ℕ × A). e.0) (take i xs) (x ∷ [])) ∙ among_pushed x.0 (keys (take i xs)) q

  pub kept : (xs : List (ℕ × A)) (i : ℕ) (x : ℕ × A) (old new : List ℕ) → i < length xs → x ≡ get_or xs i x → new ≡ old ++ x.0 ∷ [] → T x.0 ≡ true
      → ((q : ℕ) → among q old ≡ (among q (keys (take i xs)) && T q)) → (q : ℕ) → among q new ≡ (among q (keys (take (i + 1) xs)) && T q)
  kept xs i x old new l e n t h q =
      ap (among q) n ∙ among_pushed x.0 old q ∙ ap (cond (q == x.0) true) (h q) ∙ kept_if T (q == x.0) (among q (keys (take i xs))) q x.0 refl t
      ∙ ap (λ b. b && T q) (sym (more_keys xs i x q l e))

  pub left : (xs : List (ℕ × A)) (i : ℕ) (x : ℕ × A) (old new : List ℕ) → i < length xs → x ≡ get_or xs i x → new ≡ old → T x.0 ≡ false
      → ((q : ℕ) → among q old ≡ (among q (keys (take i xs)) && T q)) → (q : ℕ) → among q new ≡ (among q (keys (take (i + 1) xs)) && T q)
  left xs i x old new l e n t h q =
      ap (among q) n ∙ h q ∙ left_if T (q == x.0) (among q (keys (take i xs))) q x.0 refl t ∙ ap (λ b. b && T q) (sym (more_keys xs i x q l e))

  pub all_kept : (xs : List (ℕ × A)) (i : ℕ) (new : List ℕ) → length xs ≤ i → ((q : ℕ) → found q xs ≡ None → T q ≡ false)
      → ((q : ℕ) → among q new ≡ (among q (keys (take i xs)) && T q)) → (q : ℕ) → among q new ≡ T q
  all_kept xs i new l f h q =
      h q ∙ ap (λ ys. among q (keys ys) && T q) (take_all i xs l) ∙ without (among q (keys xs)) (T q) (λ k. f q (unfound xs q k))
