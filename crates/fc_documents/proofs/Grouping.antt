-- The elements that changes are of, and the bodies of each one.
use Rattle.std.proofs.Common.{◌≡◌, ℕ, ◌==◌, nat_eq, nat_lt, ◌&&◌, ◌||◌, Bool, true, false, cond, List, [], ◌∷◌, refl, sym, ap, ◌∙◌, subst, inl, inr, eqb-true, eq-eqb, arith}
use Rattle.std.proofs.lemmas.Bool.{and_parts, cases_Bool, ltb-false}
use Rattle.std.specs.List.{list_all, list_any}
use Rattle.fc_documents.specs.Rules.{is_listed, is_of, entered, entered_by, participants, bodies_at}
use Rattle.fc_documents.specs.declared.tables.ChangeTable.{ChangeTable}
use Rattle.fc_documents.proofs.Chains.{both}

-- truth values
in_turn : (a b c : Bool) → (a || (b || c)) ≡ (b || (a || c))
in_turn true true c = refl
in_turn true false c = refl
in_turn false true c = refl
in_turn false false c = refl

once_more : (a b : Bool) → (a || b) ≡ (a || (a || b))
once_more true b = refl
once_more false b = refl

passed_on : (a b c : Bool) → (b || (a || c)) ≡ ((a || b) || c)
passed_on true true c = refl
passed_on true false c = refl
passed_on false true c = refl
passed_on false false c = refl

or_none : (a : Bool) → (a || false) ≡ a
or_none true = refl
or_none false = refl

at_first : (a b : Bool) → a ≡ true → (a || b) ≡ true
at_first true b h = refl
at_first false b h = cc

later : (a b : Bool) → b ≡ true → (a || b) ≡ true
later true b h = refl
later false b h = h

second_of : (a b : Bool) → a ≡ false → (a || b) ≡ true → b ≡ true
second_of true b h k = cc
second_of false b h k = k

one_way : (a b : Bool) → (a ≡ true → b ≡ true) → (b ≡ true → a ≡ true) → a ≡ b
one_way true b there back = sym (there refl)
one_way false true there back = back refl
one_way false false there back = refl

-- an element that is neither below another nor above it is that one
level : (e d : ℕ) → nat_lt e d ≡ false → nat_lt d e ≡ false → d ≡ e
level e d h k = let low = ltb-false e d h in let high = ltb-false d e k in omega (arith, low, high)

-- what is listed where one was entered
listed_if : (a b : Bool) (e d x : ℕ) (xs es : List ℕ) → nat_lt d x ≡ a → nat_lt x d ≡ b → list_any (nat_eq e) es ≡ (nat_eq e d || list_any (nat_eq e) xs)
    → list_any (nat_eq e) (cond a (d ∷ x ∷ xs) (cond b (x ∷ es) (x ∷ xs))) ≡ (nat_eq e d || (nat_eq e x || list_any (nat_eq e) xs))
listed_if true b e d x xs es lower upper more = refl
listed_if false true e d x xs es lower upper more = ap (λ (t : Bool). nat_eq e x || t) more ∙ in_turn (nat_eq e x) (nat_eq e d) (list_any (nat_eq e) xs)
listed_if false false e d x xs es lower upper more =
    subst (λ (z : ℕ). (nat_eq e x || list_any (nat_eq e) xs) ≡ (nat_eq e z || (nat_eq e x || list_any (nat_eq e) xs))) (level d x lower upper) (once_more (nat_eq e x) (list_any (nat_eq e) xs))

listed_entered : (e d : ℕ) (xs : List ℕ) → list_any (nat_eq e) (entered d xs) ≡ (nat_eq e d || list_any (nat_eq e) xs)
listed_entered e d [] = refl
listed_entered e d (x ∷ xs) = listed_if (nat_lt d x) (nat_lt x d) e d x xs (entered d xs) refl refl (listed_entered e d xs)

listed_by : (e : ℕ) (cs : List ChangeTable) (es : List ℕ) → list_any (nat_eq e) (entered_by cs es) ≡ (list_any (is_of e) cs || list_any (nat_eq e) es)
listed_by e [] es = refl
listed_by e (c ∷ cs) es =
    listed_by e cs (entered c.element es) ∙ ap (λ (t : Bool). list_any (is_of e) cs || t) (listed_entered e c.element es)
    ∙ passed_on (is_of e c) (list_any (is_of e) cs) (list_any (nat_eq e) es)

pub participants_listed : (cs : List ChangeTable) (e : ℕ) → is_listed (participants cs) e ≡ list_any (is_of e) cs
participants_listed cs e = listed_by e cs [] ∙ or_none (list_any (is_of e) cs)

-- what holds of whatever element has a change among these holds of each one's
module _ (P : ℕ → Bool) where
  abbrev pub of_element : ChangeTable → Bool
  of_element c = P c.element

  pub of_each : (cs : List ChangeTable) → ((e : ℕ) → list_any (is_of e) cs ≡ true → P e ≡ true) → list_all of_element cs ≡ true
  of_each [] h = refl
  of_each (c ∷ cs) h =
      both (P c.element) (list_all of_element cs) (h c.element (at_first (is_of c.element c) (list_any (is_of c.element) cs) (eq-eqb c.element c.element refl)))
      (of_each cs (λ e k. h e (later (is_of e c) (list_any (is_of e) cs) k)))

  -- what holds of all that is listed holds of each
  at_listed : (es : List ℕ) (e : ℕ) → is_listed es e ≡ true → list_all P es ≡ true → P e ≡ true
  at_listed [] e h k = cc
  at_listed (d ∷ es) e h k =
      let (here, there) = and_parts (P d) (list_all P es) k in
      elim (cases_Bool (nat_eq e d)) [
        | inl same ↦ subst (λ (z : ℕ). P z ≡ true) (sym (eqb-true e d same)) here
        | inr other ↦ at_listed es e (second_of (nat_eq e d) (is_listed es e) other h) there
      ]

each_listed : (cs : List ChangeTable) → list_all (of_element (is_listed (participants cs))) cs ≡ true
each_listed cs = of_each (is_listed (participants cs)) cs (λ e k. participants_listed cs e ∙ k)

-- of the bodies of all changes
module _ (Q : List ℕ → Bool) where
  abbrev pub of_body : ChangeTable → Bool
  of_body c = Q c.body

  abbrev pub of_bodies : List ChangeTable → ℕ → Bool
  of_bodies cs e = list_all Q (bodies_at e cs)

  bodies_if : (b : Bool) (body : List ℕ) (bodies : List (List ℕ)) → Q body ≡ true → list_all Q bodies ≡ true → list_all Q (cond b (body ∷ bodies) bodies) ≡ true
  bodies_if true body bodies h k = both (Q body) (list_all Q bodies) h k
  bodies_if false body bodies h k = k

  one_has : (cs : List ChangeTable) (e : ℕ) → list_all of_body cs ≡ true → of_bodies cs e ≡ true
  one_has [] e h = refl
  one_has (c ∷ cs) e h =
      let (here, there) = and_parts (Q c.body) (list_all of_body cs) h in
      bodies_if (is_of e c) c.body (bodies_at e cs) here (one_has cs e there)

  all_have : (cs : List ChangeTable) (es : List ℕ) → list_all of_body cs ≡ true → list_all (of_bodies cs) es ≡ true
  all_have cs [] h = refl
  all_have cs (e ∷ es) h = both (of_bodies cs e) (list_all (of_bodies cs) es) (one_has cs e h) (all_have cs es h)

  less_if : (b : Bool) (body : List ℕ) (bodies : List (List ℕ)) → list_all Q (cond b (body ∷ bodies) bodies) ≡ true → list_all Q bodies ≡ true
  less_if true body bodies h = (and_parts (Q body) (list_all Q bodies) h).1
  less_if false body bodies h = h

  less_each : (c : ChangeTable) (cs : List ChangeTable) (es : List ℕ) → list_all (of_bodies (c ∷ cs)) es ≡ true → list_all (of_bodies cs) es ≡ true
  less_each c cs [] h = refl
  less_each c cs (e ∷ es) h =
      let (here, there) = and_parts (of_bodies (c ∷ cs) e) (list_all (of_bodies (c ∷ cs)) es) h in
      both (of_bodies cs e) (list_all (of_bodies cs) es) (less_if (is_of e c) c.body (bodies_at e cs) here) (less_each c cs es there)

  first_if : (b : Bool) (body : List ℕ) (bodies : List (List ℕ)) → b ≡ true → list_all Q (cond b (body ∷ bodies) bodies) ≡ true → Q body ≡ true
  first_if true body bodies h k = (and_parts (Q body) (list_all Q bodies) k).0
  first_if false body bodies h k = cc

  covered : (cs : List ChangeTable) (es : List ℕ) → list_all (of_element (is_listed es)) cs ≡ true → list_all (of_bodies cs) es ≡ true → list_all of_body cs ≡ true
  covered [] es h k = refl
  covered (c ∷ cs) es h k =
      let (here, there) = and_parts (is_listed es c.element) (list_all (of_element (is_listed es)) cs) h in
      both (Q c.body) (list_all of_body cs)
      (first_if (is_of c.element c) c.body (bodies_at c.element cs) (eq-eqb c.element c.element refl) (at_listed (of_bodies (c ∷ cs)) es c.element here k))
      (covered cs es there (less_each c cs es k))

  -- each participant's bodies are of this kind exactly where all are
  pub grouped : (cs : List ChangeTable) → list_all (of_bodies cs) (participants cs) ≡ list_all of_body cs
  grouped cs =
      one_way (list_all (of_bodies cs) (participants cs)) (list_all of_body cs) (covered cs (participants cs) (each_listed cs)) (all_have cs (participants cs))
