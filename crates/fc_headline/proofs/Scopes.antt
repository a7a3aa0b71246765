-- Operations of scopes that do not meet lie apart.
use Rattle.std.proofs.Common.{◌≡◌, ℕ, ◌==◌, ◌||◌, Bool, true, false, cond, List, [], ◌∷◌, ◌++◌, Some, ⊎_elim, refl, sym, ap, ◌∙◌, subst, eqb-true}
use Rattle.fc_machine.specs.ElementState.{Entry, ops_of, held_ops}
use Rattle.fc_machine.specs.Ground.{Place, Ground, Lawful}
use Rattle.fc_protocol.specs.Scopes.{same_place, lists, covers, shares, meets}
use Rattle.fc_headline.proofs.Blocks.{Apart}
use Rattle.fc_protocol.specs.Records.{is_held}
use Rattle.fc_protocol.proofs.Basics.{AllOf, all_in, in_either, both}
use Rattle.fc_protocol.proofs.Puts.{both_first, both_second}

pub or_left : (a b : Bool) → (a || b) ≡ false → a ≡ false
or_left true b e = cc
or_left false b e = refl

pub or_right : (a b : Bool) → (a || b) ≡ false → b ≡ false
or_right true b e = cc
or_right false b e = e

or_true : (a b : Bool) → b ≡ true → (a || b) ≡ true
or_true true b e = refl
or_true false b e = e

pub never : {A : Type 0} (b : Bool) → b ≡ true → b ≡ false → A
never true e f = cc
never false e f = cc

place_true : (p q : Place) → same_place p q ≡ true → p ≡ q
place_true p q e =
    let a : p.0 ≡ q.0 = eqb-true _ _ (both_first (p.0 == q.0) _ e) in
    let b : p.1 ≡ q.1 = eqb-true _ _ (both_second (p.0 == q.0) _ e) in
    ap (λ (n : ℕ). (n, p.1)) a ∙ ap (λ (n : ℕ). (q.0, n)) b

stands_both : (q : Place) (ss ts : List Place) → lists ss q ≡ true → lists ts q ≡ true → shares ss ts ≡ true
stands_both q [] ts e f = cc
stands_both q (s ∷ ss) ts e f =
    ⊎_elim (λ u. let i : q ≡ s = place_true q s u in subst (λ v. (v || shares ss ts) ≡ true) (sym (subst (λ v. lists ts v ≡ true) i f)) refl)
    (λ u. or_true (lists ts s) (shares ss ts) (stands_both q ss ts (subst (λ v. (v || lists ss q) ≡ true) u e) f)) (both (same_place q s))

apart_places : (q r : Place) (ss ts : List Place) → meets ss ts ≡ false → covers ss q ≡ true → covers ts r ≡ true → same_place q r ≡ false
apart_places q r [] ts m a b = cc
apart_places q r (s ∷ ss) [] m a b = cc
apart_places q r (s ∷ ss) (t ∷ ts) m a b =
    ⊎_elim (λ u. never (shares (s ∷ ss) (t ∷ ts)) (stands_both q (s ∷ ss) (t ∷ ts) a (subst (λ v. lists (t ∷ ts) v ≡ true) (sym (place_true q r u)) b)) m) (λ u. u) (both (same_place q r))

module _ {Config Op Subs : Type 0} (g : Ground Config Op Subs) where
  -- the operation lies at an instance of the scope
  abbrev pub Lies : List Place → Op → Type 0
  Lies scope op = (q : Place) × (g.place_of op ≡ Some q) × (covers scope q ≡ true)

  abbrev pub Fine : Entry Op → Type 0
  Fine n = is_held n.state ≡ true → AllOf (Lies n.scope) (ops_of n)

  -- no held scope among these meets this one
  abbrev pub Clear : List Place → List (Entry Op) → Type 0
  Clear scope ns = AllOf (λ m. is_held m.state ≡ true → meets scope m.scope ≡ false) ns

  abbrev pub Disjoint : List (Entry Op) → Type 0
  Disjoint [] = Unit {0}
  Disjoint (n ∷ ns) = (is_held n.state ≡ true → Clear n.scope ns) × Disjoint ns

  module _ (law : Lawful g) where
    pub lie_apart : (ss ts : List Place) (xs ys : List Op) → meets ss ts ≡ false → AllOf (Lies ss) xs → AllOf (Lies ts) ys → Apart g.effect xs ys
    lie_apart ss ts xs ys m a b x y i j =
        let l = all_in (Lies ss) x xs a i in
        let k = all_in (Lies ts) y ys b j in
        law.apart x y l.0 k.0 l.1 k.1 (apart_places l.0 k.0 ss ts m l.2 k.2)

    apart_if : (h : Bool) (ss ts : List Place) (xs ys zs : List Op) → (h ≡ true → meets ss ts ≡ false) → AllOf (Lies ss) xs → (h ≡ true → AllOf (Lies ts) ys) → Apart g.effect xs zs → Apart g.effect xs (cond h (ys ++ zs) zs)
    apart_if true ss ts xs ys zs m a b r x y i j = ⊎_elim (λ u. lie_apart ss ts xs ys (m refl) a (b refl) x y i u) (λ u. r x y i u) (in_either y ys zs j)
    apart_if false ss ts xs ys zs m a b r x y i j = r x y i j

    -- operations of a scope, and all that is held by scopes that do not meet it
    pub apart_held : (ss : List Place) (xs : List Op) (ns : List (Entry Op)) → Clear ss ns → AllOf (Lies ss) xs → AllOf Fine ns → Apart g.effect xs (held_ops ns)
    apart_held ss xs [] c a f = λ x y i j. absurd j
    apart_held ss xs (n ∷ ns) c a f = apart_if (is_held n.state) ss n.scope xs (ops_of n) (held_ops ns) c.0 a f.0 (apart_held ss xs ns c.1 a f.1)
