-- Entries differ in a key exactly where their index leaves the key of the new one free.
use Rattle.std.proofs.Common.{◌≡◌, ℕ, Bool, true, false, not, cond, ◌&&◌, ◌||◌, T, List, [], ◌∷◌, refl, sym, ap, ◌∙◌, Option, Some, None, option_map, is_some, bytes_eq}
use Rattle.std.specs.List.{AllByRecursion, list_any}
use Rattle.std.specs.Ordering.{nat_cmp, eq_by_cmp, is_eq, is_lt}
use Rattle.std.specs.declared.cmp.Ordering.{Ordering}
use Rattle.std.specs.declared.cmp.Ordering.TheVariants.{Less, Equal, Greater}
use Rattle.std.specs.Cmp.Lexicographic.{nat_list_cmp_total}
use Rattle.std.specs.FinMap.{entries, entries_sorted, find, get, get-entries, get-remove, is_sorted}
use Rattle.std.specs.FinMap.Entries.{below_all}
use Rattle.std.proofs.lemmas.Map.Text.{is_eq-slice_cmp}
use Rattle.fc_keys.specs.Keys.{KeyMap, key_cmp}
use Rattle.fc_types.specs.Ids.{is_distinct}
use Rattle.fc_rows.specs.Indexing.{keys_of}
use Rattle.fc_keys.specs.Indexing.{Indexes, less_key as without}
use Rattle.fc_rows.specs.Rowed.{RowMap, updated}
use Rattle.fc_rows.proofs.Updating.{got-updated}
use Rattle.fc_keys.proofs.Indexed.{key_is, key_own, number_is, number_own, reindexed_kept, some_is}
use Rattle.fc_value.specs.declared.value.Value.{Value}

abbrev Entries : Type 0
Entries = List (ℕ × Value)

halves : (a b : Bool) → T (a && b) → T a × T b
halves true b h = (tt, h)
halves false b h = absurd h

less_not_equal : (r : Ordering) → T (is_lt r) → is_eq r ≡ false
less_not_equal Less h = refl
less_not_equal Equal h = absurd h
less_not_equal Greater h = absurd h

turned_apart : (x y : ℕ) (b : Bool) → eq_by_cmp nat_cmp y x ≡ b → eq_by_cmp nat_cmp x y ≡ false → eq_by_cmp nat_cmp y x ≡ false
turned_apart x y false e h = e
turned_apart x y true e h = absurd (differ (sym h ∙ ap (λ n. eq_by_cmp nat_cmp n y) (sym (number_is y x e)) ∙ number_own y))
  where
    differ : false ≡ true → ⊥
    differ e = cc

or_true : (a c : Bool) → c ≡ true → (a || c) ≡ true
or_true true c e = refl
or_true false c e = e

clash : false ≡ true → ⊥
clash e = cc

module _ (key : Value → List ℕ) where
  -- ---- where the index leads from each key to its entry
  no_other : (ix : KeyMap) (s : ℕ) (v : Value) (es : Entries) → get ix (key v) ≡ Some s → T (below_all nat_cmp s es) → AllByRecursion (λ (e : ℕ × Value). get ix (key e.1) ≡ Some e.0) es
      → list_any (bytes_eq (key v)) (keys_of key es) ≡ false
  no_other ix s v [] g b a = refl
  no_other ix s v (x ∷ es) g b a =
      let parts : T (is_lt (nat_cmp s x.0)) × T (below_all nat_cmp s es) = halves (is_lt (nat_cmp s x.0)) (below_all nat_cmp s es) b in
      rw (one_apart (bytes_eq (key v) (key x.1)) refl (less_not_equal (nat_cmp s x.0) parts.0) a.0) (no_other ix s v es g parts.1 a.1)
    where
      one_apart : (c : Bool) → bytes_eq (key v) (key x.1) ≡ c → eq_by_cmp nat_cmp s x.0 ≡ false → get ix (key x.1) ≡ Some x.0 → bytes_eq (key v) (key x.1) ≡ false
      one_apart false e ne h = e
      one_apart true e ne h =
          let same_key : key v ≡ key x.1 = key_is (key v) (key x.1) (is_eq-slice_cmp (key v) (key x.1) ∙ e) in
          let same : s ≡ x.0 = some_is s x.0 (sym g ∙ ap (get ix) same_key ∙ h) in
          absurd (clash (sym ne ∙ ap (λ n. eq_by_cmp nat_cmp n x.0) same ∙ number_own x.0))

  distinct_by : (ix : KeyMap) (es : Entries) → T (is_sorted nat_cmp es) → AllByRecursion (λ (e : ℕ × Value). get ix (key e.1) ≡ Some e.0) es → is_distinct bytes_eq (keys_of key es) ≡ true
  distinct_by ix [] so a = refl
  distinct_by ix (x ∷ es) so a =
      let parts : T (below_all nat_cmp x.0 es) × T (is_sorted nat_cmp es) = halves (below_all nat_cmp x.0 es) (is_sorted nat_cmp es) so in
      rw (no_other ix x.0 x.1 es a.0 parts.0 a.1) (distinct_by ix es parts.1 a.1)

  -- each entry is found by its subscript
  found_behind : (s : ℕ) (v : Value) (es whole : Entries) → T (below_all nat_cmp s es) → AllByRecursion (λ (e : ℕ × Value). find nat_cmp e.0 whole ≡ Some e.1) es
      → AllByRecursion (λ (e : ℕ × Value). find nat_cmp e.0 ((s, v) ∷ whole) ≡ Some e.1) es
  found_behind s v [] whole b a = tt
  found_behind s v (x ∷ es) whole b a =
      let parts : T (is_lt (nat_cmp s x.0)) × T (below_all nat_cmp s es) = halves (is_lt (nat_cmp s x.0)) (below_all nat_cmp s es) b in
      let other : eq_by_cmp nat_cmp x.0 s ≡ false = turned_apart s x.0 _ refl (less_not_equal (nat_cmp s x.0) parts.0) in
      (ap (λ c. cond c (Some v) (find nat_cmp x.0 whole)) other ∙ a.0, found_behind s v es whole parts.1 a.1)

  pub each_found : (es : Entries) → T (is_sorted nat_cmp es) → AllByRecursion (λ (e : ℕ × Value). find nat_cmp e.0 es ≡ Some e.1) es
  each_found [] so = tt
  each_found (x ∷ es) so =
      let parts : T (below_all nat_cmp x.0 es) × T (is_sorted nat_cmp es) = halves (below_all nat_cmp x.0 es) (is_sorted nat_cmp es) so in
      (ap (λ c. cond c (Some x.1) (find nat_cmp x.0 es)) (number_own x.0), found_behind x.0 x.1 es es parts.0 (each_found es parts.1))

  all_led : (m : RowMap) (ix : KeyMap) (es : Entries) → Indexes key m ix → AllByRecursion (λ (e : ℕ × Value). find nat_cmp e.0 (entries m) ≡ Some e.1) es
      → AllByRecursion (λ (e : ℕ × Value). get ix (key e.1) ≡ Some e.0) es
  all_led m ix [] h a = tt
  all_led m ix (x ∷ es) h a = (h.all x.0 x.1 (get-entries m x.0 ∙ a.0), all_led m ix es h a.1)

  -- an index says that no two entries have one key
  pub indexed_differ : (m : RowMap) (ix : KeyMap) → Indexes key m ix → is_distinct bytes_eq (keys_of key (entries m)) ≡ true
  indexed_differ m ix h = distinct_by ix (entries m) (entries_sorted m) (all_led m ix (entries m) h (each_found (entries m) (entries_sorted m)))

  -- ---- where two entries have one key
  is_among : (k : List ℕ) (s : ℕ) (v : Value) (es : Entries) (b : Bool) → find nat_cmp s es ≡ Some v → key v ≡ k → list_any (bytes_eq k) (keys_of key es) ≡ true
  is_among k s v [] b f e = cc
  is_among k s v (x ∷ es) b f e = among_at (λ g. is_among k s v es b g e) (eq_by_cmp nat_cmp s x.0) refl f
    where
      among_at : (find nat_cmp s es ≡ Some v → list_any (bytes_eq k) (keys_of key es) ≡ true) → (c : Bool) → eq_by_cmp nat_cmp s x.0 ≡ c → cond c (Some x.1) (find nat_cmp s es) ≡ Some v → (bytes_eq k (key x.1) || list_any (bytes_eq k) (keys_of key es)) ≡ true
      among_at more true c g =
          let own : bytes_eq k (key x.1) ≡ true = ap (bytes_eq k) (ap key (some_is x.1 v g) ∙ e) ∙ sym (is_eq-slice_cmp k k) ∙ key_own k in rw own refl
      among_at more false c g = or_true (bytes_eq k (key x.1)) _ (more g)

  taken_any : (a b : Bool) → a ≡ true → (not a && b) ≡ false
  taken_any true b e = refl
  taken_any false b e = cc

  taken_rest : (a b : Bool) → b ≡ false → (a && b) ≡ false
  taken_rest true b e = e
  taken_rest false b e = refl

  two_clash : (s t : ℕ) (v w : Value) (es : Entries) → eq_by_cmp nat_cmp s t ≡ false → find nat_cmp s es ≡ Some v → find nat_cmp t es ≡ Some w → key v ≡ key w
      → is_distinct bytes_eq (keys_of key es) ≡ false
  two_clash s t v w [] ne f g e = cc
  two_clash s t v w (x ∷ es) ne f g e = clash_at (λ g h. two_clash s t v w es ne g h e) (eq_by_cmp nat_cmp s x.0) (eq_by_cmp nat_cmp t x.0) refl refl f g
    where
      clash_at : (find nat_cmp s es ≡ Some v → find nat_cmp t es ≡ Some w → is_distinct bytes_eq (keys_of key es) ≡ false) → (b c : Bool) → eq_by_cmp nat_cmp s x.0 ≡ b → eq_by_cmp nat_cmp t x.0 ≡ c → cond b (Some x.1) (find nat_cmp s es) ≡ Some v → cond c (Some x.1) (find nat_cmp t es) ≡ Some w
          → (not (list_any (bytes_eq (key x.1)) (keys_of key es)) && is_distinct bytes_eq (keys_of key es)) ≡ false
      clash_at more true true p q g h =
          absurd (clash (sym ne ∙ ap (λ n. eq_by_cmp nat_cmp n t) (number_is s x.0 p ∙ sym (number_is t x.0 q)) ∙ number_own t))
      clash_at more true false p q g h = taken_any _ _ (is_among (key x.1) t w es true h (sym e ∙ ap key (sym (some_is x.1 v g))))
      clash_at more false true p q g h = taken_any _ _ (is_among (key x.1) s v es true g (e ∙ ap key (sym (some_is x.1 w h))))
      clash_at more false false p q g h = taken_rest _ _ (more g h)

  -- ---- the test for a new entry
  apart_from : (s t : ℕ) (b : Bool) → eq_by_cmp nat_cmp s t ≡ b → (s ≡ t → ⊥) → eq_by_cmp nat_cmp s t ≡ false
  apart_from s t false e ne = e
  apart_from s t true e ne = absurd (ne (number_is s t e))

  -- where the key of a new entry is not free, two entries have it
  pub taken_clash : (m : RowMap) (ix : KeyMap) (s t : ℕ) (w : Value) → Indexes key m ix → eq_by_cmp nat_cmp t s ≡ false → get ix (key w) ≡ Some t
      → is_distinct bytes_eq (keys_of key (entries (updated m s (Some w)))) ≡ false
  taken_clash m ix s t w h ne g =
      let f : (v : Value) × (get m t ≡ Some v) × (key v ≡ key w) = h.found (key w) t g in
      let new : RowMap = updated m s (Some w) in
      let here : find nat_cmp s (entries new) ≡ Some w = sym (get-entries new s) ∙ got-updated m s (Some w) s ∙ ap (λ c. cond c (Some w) (get m s)) (number_own s) in
      let there : find nat_cmp t (entries new) ≡ Some f.0 = sym (get-entries new t) ∙ got-updated m s (Some w) t ∙ ap (λ c. cond c (Some w) (get m t)) ne ∙ f.1 in
      two_clash t s f.0 w (entries new) ne there here f.2

  none_some : {A : Type 0} (x : A) → None ≡ Some x → ⊥
  none_some x e = cc

  -- what the index without the old key tells
  pub leads : (m : RowMap) (ix : KeyMap) (s t : ℕ) (w : Value) (old : Option Value) → Indexes key m ix → get m s ≡ old → get (without ix (option_map key old)) (key w) ≡ Some t
      → (eq_by_cmp nat_cmp t s ≡ false) × (get ix (key w) ≡ Some t)
  leads m ix s t w None h e g =
      let f : (v : Value) × (get m t ≡ Some v) × (key v ≡ key w) = h.found (key w) t g in
      (apart_from t s _ refl (λ q. none_some f.0 (sym e ∙ ap (get m) (sym q) ∙ f.1)), g)
  leads m ix s t w (Some v) h e g = led (eq_by_cmp key_cmp (key w) (key v)) refl (sym (get-remove nat_list_cmp_total ix (key v) (key w)) ∙ g)
    where
      led : (b : Bool) → eq_by_cmp key_cmp (key w) (key v) ≡ b → cond b None (get ix (key w)) ≡ Some t → (eq_by_cmp nat_cmp t s ≡ false) × (get ix (key w) ≡ Some t)
      led true p q = absurd (none_some t q)
      led false p q =
          let f : (x : Value) × (get m t ≡ Some x) × (key x ≡ key w) = h.found (key w) t q in (
            apart_from t s _ refl (λ r.
                let same : v ≡ f.0 = some_is v f.0 (sym e ∙ ap (get m) (sym r) ∙ f.1) in
                clash (sym p ∙ ap (eq_by_cmp key_cmp (key w)) (ap key same ∙ f.2) ∙ key_own (key w))),
            q,
          )

  tells_by : (m : RowMap) (ix : KeyMap) (s : ℕ) (w : Value) (old : Option Value) (o : Option ℕ) → Indexes key m ix → get m s ≡ old → get (without ix (option_map key old)) (key w) ≡ o
      → is_distinct bytes_eq (keys_of key (entries (updated m s (Some w)))) ≡ not (is_some o)
  tells_by m ix s w old None h e g = indexed_differ (updated m s (Some w)) _ (reindexed_kept key m ix s old (Some w) h e g)
  tells_by m ix s w old (Some t) h e g =
      let l : (eq_by_cmp nat_cmp t s ≡ false) × (get ix (key w) ≡ Some t) = leads m ix s t w old h e g in
      taken_clash m ix s t w h l.0 l.1

  -- entries with a new one at a subscript differ in a key exactly where the index, without the old key there, has no such key
  pub index_tells : (m : RowMap) (ix : KeyMap) (s : ℕ) (w : Value) (old : Option Value) → Indexes key m ix → get m s ≡ old
      → is_distinct bytes_eq (keys_of key (entries (updated m s (Some w)))) ≡ not (is_some (get (without ix (option_map key old)) (key w)))
  index_tells m ix s w old h e = tells_by m ix s w old _ h e refl
