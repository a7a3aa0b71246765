-- An index stays that of its entries.
use Rattle.std.proofs.Common.{◌≡◌, ℕ, Bool, true, false, cond, List, refl, sym, ap, subst, ◌∙◌, Option, Some, None, option_map, eqb-true}
use Rattle.std.specs.Ordering.{nat_cmp, eq_by_cmp, is_eq}
use Rattle.std.specs.declared.cmp.Ordering.{Ordering}
use Rattle.std.specs.declared.cmp.Ordering.TheVariants.{Less, Equal, Greater}
use Rattle.std.specs.Cmp.{nat_cmp_total, unsigned_tied, tied_itself}
use Rattle.std.specs.Cmp.Lexicographic.{nat_list_cmp_total}
use Rattle.std.specs.FinMap.{get, insert, remove, empty, get-empty, get-insert, get-remove, same_map, slice_cmp-IsAntisymmetric, nat_cmp-IsAntisymmetric}
use Rattle.fc_keys.specs.Keys.{KeyMap, key_cmp}
use Rattle.fc_keys.specs.Indexing.{Entries, Indexes, IsFree, reindexed, updated}

tied : (r : Ordering) → is_eq r ≡ true → r ≡ Equal
tied Less e = cc
tied Equal e = refl
tied Greater e = cc

pub key_is : (p q : List ℕ) → eq_by_cmp key_cmp p q ≡ true → p ≡ q
key_is p q e = slice_cmp-IsAntisymmetric nat_cmp-IsAntisymmetric p q (tied (key_cmp p q) e)

pub key_own : (p : List ℕ) → eq_by_cmp key_cmp p p ≡ true
key_own p = ap is_eq (tied_itself nat_list_cmp_total p)

pub number_is : (s t : ℕ) → eq_by_cmp nat_cmp s t ≡ true → s ≡ t
number_is s t e = eqb-true s t (sym (unsigned_tied s t) ∙ e)

pub number_own : (s : ℕ) → eq_by_cmp nat_cmp s s ≡ true
number_own s = ap is_eq (tied_itself nat_cmp_total s)

pub some_is : {A : Type 0} (x y : A) → Some x ≡ Some y → x ≡ y
some_is x y e = cc

differ : false ≡ true → ⊥
differ e = cc

nothing : {A : Type 0} (x : A) → None ≡ Some x → ⊥
nothing x e = cc

module _ {X : Type 0} where
  twice : (b : Bool) (x y : Option X) → cond b x (cond b None y) ≡ cond b x y
  twice true x y = refl
  twice false x y = refl

  over : (m : Entries X) (s : ℕ) (w : X) → insert (remove m s) s w ≡ insert m s w
  over m s w = same_map nat_cmp_total nat_cmp-IsAntisymmetric _ _ (λ q. get-insert nat_cmp_total (remove m s) s w q
      ∙ ap (λ (y : Option X). cond (eq_by_cmp nat_cmp q s) (Some w) y) (get-remove nat_cmp_total m s q) ∙ twice (eq_by_cmp nat_cmp q s) (Some w) (get m q) ∙ sym (get-insert nat_cmp_total m s w q))

  gone_here : (m : Entries X) (s : ℕ) → get (remove m s) s ≡ None
  gone_here m s = get-remove nat_cmp_total m s s ∙ ap (λ c. cond c None (get m s)) (number_own s)

  without_none : (m : Entries X) (s : ℕ) → get m s ≡ None → remove m s ≡ m
  without_none m s e = same_map nat_cmp_total nat_cmp-IsAntisymmetric _ _ (λ q. get-remove nat_cmp_total m s q ∙ at_none q (eq_by_cmp nat_cmp q s) refl)
    where
      at_none : (q : ℕ) (b : Bool) → eq_by_cmp nat_cmp q s ≡ b → cond b None (get m q) ≡ get m q
      at_none q true t = sym (ap (get m) (number_is q s t) ∙ e)
      at_none q false t = refl

module _ {X : Type 0} (key : X → List ℕ) where
  -- ---- an entry goes
  gone_found : (m : Entries X) (ix : KeyMap) (s t : ℕ) (v : X) (q : List ℕ) (b c : Bool) → Indexes key m ix → get m s ≡ Some v → eq_by_cmp key_cmp q (key v) ≡ b → eq_by_cmp nat_cmp t s ≡ c
      → cond b None (get ix q) ≡ Some t → (w : X) × (cond c None (get m t) ≡ Some w) × (key w ≡ q)
  gone_found m ix s t v q true c h e eb ec g = absurd (nothing t g)
  gone_found m ix s t v q false false h e eb ec g = h.found q t g
  gone_found m ix s t v q false true h e eb ec g =
      let f : (w : X) × (get m t ≡ Some w) × (key w ≡ q) = h.found q t g in
      let same : v ≡ f.0 = some_is v f.0 (sym e ∙ ap (get m) (sym (number_is t s ec)) ∙ f.1) in
      absurd (differ (sym eb ∙ ap (eq_by_cmp key_cmp q) (ap key same ∙ f.2) ∙ key_own q))

  gone_all : (m : Entries X) (ix : KeyMap) (s t : ℕ) (v w : X) (b c : Bool) → Indexes key m ix → get m s ≡ Some v → eq_by_cmp key_cmp (key w) (key v) ≡ b → eq_by_cmp nat_cmp t s ≡ c
      → cond c None (get m t) ≡ Some w → cond b None (get ix (key w)) ≡ Some t
  gone_all m ix s t v w b true h e eb ec g = absurd (nothing w g)
  gone_all m ix s t v w false false h e eb ec g = h.all t w g
  gone_all m ix s t v w true false h e eb ec g =
      let same : s ≡ t = some_is s t (sym (h.all s v e) ∙ ap (get ix) (sym (key_is (key w) (key v) eb)) ∙ h.all t w g) in
      absurd (differ (sym ec ∙ ap (λ n. eq_by_cmp nat_cmp t n) same ∙ number_own t))

  pub gone : (m : Entries X) (ix : KeyMap) (s : ℕ) (v : X) → Indexes key m ix → get m s ≡ Some v → Indexes key (remove m s) (remove ix (key v))
  gone m ix s v h e = record {
    found = λ q t g.
        let f : (w : X) × (cond (eq_by_cmp nat_cmp t s) None (get m t) ≡ Some w) × (key w ≡ q) =
        gone_found m ix s t v q _ _ h e refl refl (sym (get-remove nat_list_cmp_total ix (key v) q) ∙ g) in
        (f.0, get-remove nat_cmp_total m s t ∙ f.1, f.2);
    all = λ t w g. get-remove nat_list_cmp_total ix (key v) (key w) ∙ gone_all m ix s t v w _ _ h e refl refl (sym (get-remove nat_cmp_total m s t) ∙ g);
  }

  -- ---- an entry comes
  come_found : (m : Entries X) (ix : KeyMap) (s t : ℕ) (w : X) (q : List ℕ) (b c : Bool) → Indexes key m ix → get m s ≡ None → eq_by_cmp key_cmp q (key w) ≡ b → eq_by_cmp nat_cmp t s ≡ c
      → cond b (Some s) (get ix q) ≡ Some t → (x : X) × (cond c (Some w) (get m t) ≡ Some x) × (key x ≡ q)
  come_found m ix s t w q true true h e eb ec g = (w, refl, sym (key_is q (key w) eb))
  come_found m ix s t w q true false h e eb ec g = absurd (differ (sym ec ∙ ap (λ n. eq_by_cmp nat_cmp t n) (some_is s t g) ∙ number_own t))
  come_found m ix s t w q false false h e eb ec g = h.found q t g
  come_found m ix s t w q false true h e eb ec g =
      let f : (x : X) × (get m t ≡ Some x) × (key x ≡ q) = h.found q t g in
      absurd (nothing f.0 (sym e ∙ ap (get m) (sym (number_is t s ec)) ∙ f.1))

  come_all : (m : Entries X) (ix : KeyMap) (s t : ℕ) (w x : X) (b c : Bool) → Indexes key m ix → get ix (key w) ≡ None → eq_by_cmp key_cmp (key x) (key w) ≡ b → eq_by_cmp nat_cmp t s ≡ c
      → cond c (Some w) (get m t) ≡ Some x → cond b (Some s) (get ix (key x)) ≡ Some t
  come_all m ix s t w x true true h e eb ec g = ap Some (sym (number_is t s ec))
  come_all m ix s t w x false true h e eb ec g =
      absurd (differ (sym eb ∙ ap (λ k. eq_by_cmp key_cmp (key x) k) (ap key (some_is w x g)) ∙ key_own (key x)))
  come_all m ix s t w x false false h e eb ec g = h.all t x g
  come_all m ix s t w x true false h e eb ec g = absurd (nothing t (sym e ∙ ap (get ix) (sym (key_is (key x) (key w) eb)) ∙ h.all t x g))

  pub come : (m : Entries X) (ix : KeyMap) (s : ℕ) (w : X) → Indexes key m ix → get m s ≡ None → get ix (key w) ≡ None → Indexes key (insert m s w) (insert ix (key w) s)
  come m ix s w h e k = record {
    found = λ q t g.
        let f : (x : X) × (cond (eq_by_cmp nat_cmp t s) (Some w) (get m t) ≡ Some x) × (key x ≡ q) =
        come_found m ix s t w q _ _ h e refl refl (sym (get-insert nat_list_cmp_total ix (key w) s q) ∙ g) in
        (f.0, get-insert nat_cmp_total m s w t ∙ f.1, f.2);
    all = λ t x g. get-insert nat_list_cmp_total ix (key w) s (key x) ∙ come_all m ix s t w x _ _ h k refl refl (sym (get-insert nat_cmp_total m s w t) ∙ g);
  }

  -- ---- an entry gives way to another
  pub reindexed_kept : (m : Entries X) (ix : KeyMap) (s : ℕ) (old new : Option X) → Indexes key m ix → get m s ≡ old → IsFree key ix old new
      → Indexes key (updated m s new) (reindexed ix s (option_map key old) (option_map key new))
  reindexed_kept m ix s None None h e f = subst (λ (n : Entries X). Indexes key n ix) (sym (without_none m s e)) h
  reindexed_kept m ix s None (Some w) h e f = come m ix s w h e f
  reindexed_kept m ix s (Some v) None h e f = gone m ix s v h e
  reindexed_kept m ix s (Some v) (Some w) h e f =
      subst (λ (n : Entries X). Indexes key n (insert (remove ix (key v)) (key w) s)) (over m s w) (come (remove m s) (remove ix (key v)) s w (gone m ix s v h e) (gone_here m s) f)

  pub none_indexed : Indexes key empty empty
  none_indexed = record {
    found = λ q s g. absurd (nothing s (sym (get-empty key_cmp q) ∙ g));
    all = λ s v g. absurd (nothing v (sym (get-empty nat_cmp s) ∙ g));
  }

  pub one_key : (m : Entries X) (ix : KeyMap) (s t : ℕ) (v w : X) → Indexes key m ix → get m s ≡ Some v → get m t ≡ Some w → key v ≡ key w → s ≡ t
  one_key m ix s t v w h e f k = some_is s t (sym (h.all s v e) ∙ ap (get ix) k ∙ h.all t w f)

  -- ---- two indexes of the same entries
  same_at : (m : Entries X) (ix jx : KeyMap) (q : List ℕ) (a b : Option ℕ) → Indexes key m ix → Indexes key m jx → get ix q ≡ a → get jx q ≡ b → a ≡ b
  same_at m ix jx q None None h k e f = refl
  same_at m ix jx q (Some s) b h k e f =
      let x : (x : X) × (get m s ≡ Some x) × (key x ≡ q) = h.found q s e in
      sym (k.all s x.0 x.1) ∙ ap (get jx) x.2 ∙ f
  same_at m ix jx q None (Some t) h k e f =
      let x : (x : X) × (get m t ≡ Some x) × (key x ≡ q) = k.found q t f in
      sym e ∙ ap (get ix) (sym x.2) ∙ h.all t x.0 x.1

  pub one_index : (m : Entries X) (ix jx : KeyMap) → Indexes key m ix → Indexes key m jx → ix ≡ jx
  one_index m ix jx h k = same_map nat_list_cmp_total (slice_cmp-IsAntisymmetric nat_cmp-IsAntisymmetric) ix jx (λ q. same_at m ix jx q _ _ h k refl refl)
