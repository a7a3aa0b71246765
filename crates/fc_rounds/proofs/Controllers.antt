-- Control elements by their numbers: what is found when one of them has changed.
use Rattle.std.proofs.Common.{◌≡◌, ℕ, ◌==◌, Bool, true, false, List, [], ◌∷◌, map, Option, Some, option_map, refl, sym, ap, ◌∙◌, eqb-true, if◌then◌else◌, arith}
use Rattle.fc_protocol.specs.WorldSteps.{controller_of}
use Rattle.fc_world.specs.Lookups.{controller_in, is_controller, with_controller}
use Rattle.fc_world.specs.Worlds.{Standing, number_of}

abbrev pub ce_of_standing : Standing → ℕ
ce_of_standing s = s.ce

abbrev pub ces : List Standing → List ℕ
ces ss = map ce_of_standing ss

same_test : (c n : ℕ) → (n == c) ≡ (c == n)
same_test c n = grind arith

-- the ID of the control element of this number is that of the one that is found
pub ce_found : (c : ℕ) (ss : List Standing) → controller_of (ces ss) c ≡ option_map ce_of_standing (controller_in c ss)
ce_found c [] = refl
ce_found c (s ∷ ss) = ap (λ b. if b then Some s.ce else controller_of (ces ss) c) (same_test c (number_of s.ce)) ∙ by (c == number_of s.ce) (ce_found c ss)
  where
    by : (b : Bool) → controller_of (ces ss) c ≡ option_map ce_of_standing (controller_in c ss) → (if b then Some s.ce else controller_of (ces ss) c) ≡ option_map ce_of_standing (if b then Some s else controller_in c ss)
    by true more = refl
    by false more = more

module _ (c : ℕ) (old new : Standing) (same : new.ce ≡ old.ce) where
  same_number : (j : ℕ) → is_controller j new ≡ is_controller j old
  same_number j = ap (λ n. j == number_of n) same

  -- the IDs stay
  pub ces_stay : (ss : List Standing) → controller_in c ss ≡ Some old → ces (with_controller c new ss) ≡ ces ss
  ces_stay [] is = refl
  ces_stay (s ∷ ss) is = by (is_controller c s) is (λ e. ces_stay ss e)
    where
      by : (b : Bool) → (if b then Some s else controller_in c ss) ≡ Some old → (controller_in c ss ≡ Some old → ces (with_controller c new ss) ≡ ces ss) → ces (if b then new ∷ ss else s ∷ with_controller c new ss) ≡ s.ce ∷ ces ss
      by true e more = let is_old : s ≡ old = cc in ap (λ n. n ∷ ces ss) (same ∙ sym (ap ce_of_standing is_old))
      by false e more = ap (λ ns. s.ce ∷ ns) (more e)

  pub here : (ss : List Standing) → controller_in c ss ≡ Some old → controller_in c (with_controller c new ss) ≡ Some new
  here [] is = absurd cc
  here (s ∷ ss) is = by (is_controller c s) refl is (λ e. here ss e)
    where
      by : (b : Bool) → is_controller c s ≡ b → (if b then Some s else controller_in c ss) ≡ Some old → (controller_in c ss ≡ Some old → controller_in c (with_controller c new ss) ≡ Some new) → controller_in c (if b then new ∷ ss else s ∷ with_controller c new ss) ≡ Some new
      by true at e more = let is_old : s ≡ old = cc in ap (λ b. if b then Some new else controller_in c ss) (same_number c ∙ ap (is_controller c) (sym is_old) ∙ at)
      by false at e more = ap (λ b. if b then Some s else controller_in c (with_controller c new ss)) at ∙ more e

  pub there : (j : ℕ) → (j == c) ≡ false → (ss : List Standing) → controller_in c ss ≡ Some old → controller_in j (with_controller c new ss) ≡ controller_in j ss
  there j away [] is = refl
  there j away (s ∷ ss) is = by (is_controller c s) refl is (λ e. there j away ss e)
    where
      other : (n : ℕ) → (c == n) ≡ true → (j == n) ≡ false
      other n at = ap (λ v. j == v) (sym (eqb-true c n at)) ∙ away

      by : (b : Bool) → is_controller c s ≡ b → (if b then Some s else controller_in c ss) ≡ Some old → (controller_in c ss ≡ Some old → controller_in j (with_controller c new ss) ≡ controller_in j ss) → controller_in j (if b then new ∷ ss else s ∷ with_controller c new ss) ≡ (if is_controller j s then Some s else controller_in j ss)
      by true at e more =
          let is_old : s ≡ old = cc in
          ap (λ b. if b then Some new else controller_in j ss) (same_number j ∙ ap (is_controller j) (sym is_old) ∙ other (number_of s.ce) at) ∙ sym (ap (λ b. if b then Some s else controller_in j ss) (other (number_of s.ce) at))
      by false at e more = ap (λ (o : Option Standing). if is_controller j s then Some s else o) (more e)
