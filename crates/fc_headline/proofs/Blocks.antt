-- Operations that lie apart may change places.
use Rattle.std.proofs.Common.{◌≡◌, ℕ, List, [], ◌∷◌, ◌++◌, refl, sym, ap, ◌∙◌, subst, inl, inr}
use Rattle.fc_modes.specs.Modes.{folded, codes_of}
use Rattle.fc_headline.specs.Folds.{Clean}
use Rattle.fc_machine.specs.Ground.{Commute}
use Rattle.fc_protocol.specs.Collections.{In}

module _ {Config Op : Type 0} (effect : Config → Op → Config × ℕ) where
  abbrev pub Apart : List Op → List Op → Type 0
  Apart xs ys = (a b : Op) → In a xs → In b ys → Commute effect a b

  pub apart_back : (xs ys : List Op) → Apart xs ys → Apart ys xs
  apart_back xs ys h a b i j = let c = h b a j i in record { code = c.back; back = c.code; state = λ s. sym (c.state s) }

  pub folded_append : (c : Config) (xs ys : List Op) → folded effect c (xs ++ ys) ≡ folded effect (folded effect c xs) ys
  folded_append c [] ys = refl
  folded_append c (x ∷ xs) ys = folded_append (effect c x).0 xs ys

  pub clean_append : (c : Config) (xs ys : List Op) → Clean effect c xs → Clean effect (folded effect c xs) ys → Clean effect c (xs ++ ys)
  clean_append c [] ys h k = k
  clean_append c (x ∷ xs) ys h k = (h.0, clean_append (effect c x).0 xs ys h.1 k)

  pub clean_first : (c : Config) (xs ys : List Op) → Clean effect c (xs ++ ys) → Clean effect c xs
  clean_first c [] ys h = tt
  clean_first c (x ∷ xs) ys h = (h.0, clean_first (effect c x).0 xs ys h.1)

  pub clean_rest : (c : Config) (xs ys : List Op) → Clean effect c (xs ++ ys) → Clean effect (folded effect c xs) ys
  clean_rest c [] ys h = h
  clean_rest c (x ∷ xs) ys h = clean_rest (effect c x).0 xs ys h.1

  -- one operation, and a block that lies apart
  record Passes (c : Config) (o : Op) (ys : List Op) : Type 0 where
    state : folded effect (effect c o).0 ys ≡ (effect (folded effect c ys) o).0
    code : (effect (folded effect c ys) o).1 ≡ (effect c o).1
    after : Clean effect c ys → Clean effect (effect c o).0 ys
    before : Clean effect (effect c o).0 ys → Clean effect c ys

  passes : (c : Config) (o : Op) (ys : List Op) → ((b : Op) → In b ys → Commute effect o b) → Passes c o ys
  passes c o [] h = record { state = refl; code = refl; after = λ _. tt; before = λ _. tt }
  passes c o (b ∷ bs) h =
      let m = h b (inl refl) in
      let r = passes (effect c b).0 o bs (λ d i. h d (inr i)) in
      record {
        state = ap (λ s. folded effect s bs) (m.state c) ∙ r.state;
        code = r.code ∙ m.back c;
        after = λ k. (m.code c ∙ k.0, subst (λ s. Clean effect s bs) (sym (m.state c)) (r.after k.1));
        before = λ k. (sym (m.code c) ∙ k.0, r.before (subst (λ s. Clean effect s bs) (m.state c) k.1));
      }

  -- two blocks that lie apart
  pub record Swaps (c : Config) (xs ys : List Op) : Type 0 where
    pub state : folded effect (folded effect c xs) ys ≡ folded effect (folded effect c ys) xs
    pub codes : codes_of effect (folded effect c ys) xs ≡ codes_of effect c xs
    pub after : Clean effect c ys → Clean effect (folded effect c xs) ys
    pub before : Clean effect (folded effect c xs) ys → Clean effect c ys
    pub first_after : Clean effect c xs → Clean effect (folded effect c ys) xs

  pub swaps : (c : Config) (xs ys : List Op) → Apart xs ys → Swaps c xs ys
  swaps c [] ys h = record { state = refl; codes = refl; after = λ k. k; before = λ k. k; first_after = λ _. tt }
  swaps c (x ∷ xs) ys h =
      let m = passes c x ys (λ b i. h x b (inl refl) i) in
      let r = swaps (effect c x).0 xs ys (λ a b i j. h a b (inr i) j) in
      record {
        state = r.state ∙ ap (λ s. folded effect s xs) m.state;
        codes = ap (λ n. n ∷ codes_of effect (effect (folded effect c ys) x).0 xs) m.code ∙ ap (λ ns. (effect c x).1 ∷ ns) (ap (λ s. codes_of effect s xs) (sym m.state) ∙ r.codes);
        after = λ k. r.after (m.after k);
        before = λ k. m.before (r.before k);
        first_after = λ k. (m.code ∙ k.0, subst (λ s. Clean effect s xs) m.state (r.first_after k.1));
      }

  -- the first of two blocks is taken out
  pub without_first : (c : Config) (xs ys : List Op) → Apart xs ys → Clean effect c (xs ++ ys) → Clean effect c ys
  without_first c xs ys h k = (swaps c xs ys h).before (clean_rest c xs ys k)

  -- the second is taken to the front
  pub second_first : (c : Config) (xs ys zs : List Op) → Apart xs ys → Clean effect c xs → Clean effect (folded effect c xs) ys → Clean effect (folded effect (folded effect c xs) ys) zs
      → Clean effect c ys × Clean effect (folded effect c ys) (xs ++ zs)
  second_first c xs ys zs h k l m =
      let s = swaps c xs ys h in
      (s.before l, clean_append (folded effect c ys) xs zs (s.first_after k) (subst (λ t. Clean effect t zs) s.state m))

  -- a block is put between two
  pub put_between : (c : Config) (xs ys zs : List Op) → Apart ys zs → Clean effect c (xs ++ ys) → Clean effect (folded effect c (xs ++ ys)) zs → Clean effect c ((xs ++ zs) ++ ys)
  put_between c xs ys zs h k l =
      let d = folded effect c xs in
      let s = swaps d ys zs h in
      let behind = subst (λ t. Clean effect t zs) (folded_append c xs ys) l in
      clean_append c (xs ++ zs) ys (clean_append c xs zs (clean_first c xs ys k) (s.before behind))
      (subst (λ t. Clean effect t ys) (sym (folded_append c xs zs)) (s.first_after (clean_rest c xs ys k)))
