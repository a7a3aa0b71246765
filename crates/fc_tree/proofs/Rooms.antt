-- Where an entry with a subscript that none has belongs.
use Rattle.std.proofs.Common.{◌≡◌, ℕ, zero, suc, ◌+◌, ◌<◌, ◌≤◌, ◌==◌, Bool, true, false, nat_lt, List, [], ◌∷◌, length, slice_index_or, subst, ◌⊎◌, inl, inr, nat_le, bytes_eq, option_map, Result, Ok, refl, sym, ap, ◌∙◌, arith, Option, Some, None, position}
use Rattle.std.specs.List.{position_or_len, AllWithin, HoldsAt, insert}
use Rattle.std.specs.Ordering.{nat_cmp}
use Rattle.std.specs.Cmp.{nat_cmp_is, nat_cmp_total}
use Rattle.std.specs.FinMap.{nat_cmp-IsAntisymmetric}
use Rattle.std.specs.declared.cmp.Ordering.TheVariants.{Less, Greater}
use Rattle.std.proofs.lemmas.Bool.Decides.{nat_tests}
use Rattle.std.proofs.lemmas.List.Sums.{fails_before_first}
use Rattle.fc_tree.specs.Places.{Belongs}
use Rattle.fc_value.specs.declared.value.Value.{Value}
use Rattle.fc_path.specs.declared.oper.Step.TheVariants as step
use Rattle.fc_types.specs.Types.{field_id}
use Rattle.fc_types.specs.declared.ty.Field.{Field}
use Rattle.fc_types.specs.declared.ty.KeyDecl.{KeyDecl}
use Rattle.fc_types.specs.declared.ty.Ty.{Ty}
use Rattle.fc_types.specs.declared.ty.Ty.TheOpen.{Ty-F}
use Rattle.fc_types.specs.declared.ty.Ty.TheViews.{out-Ty}
use Rattle.fc_value.specs.Keys.{key_value}
use Rattle.fc_base.specs.Answers.{◌>>=◌}
use Rattle.fc_tree.proofs.Places.{put_belongs}
use Rattle.fc_tree.specs.Finding.{entries_of, key_in, no_component, not_found, or_code, place_in, place_layer, with_key}
use Rattle.fc_tree.specs.Putting.{entered}
use Rattle.fc_tree.proofs.Positions.{item_at}

abbrev pub Entries : Type 0
Entries = List (ℕ × Value)

less_is : (x y : ℕ) → x < y → nat_cmp x y ≡ Less
less_is x y l = sym (nat_cmp_is x y Less l)

greater_is : (x y : ℕ) → y < x → nat_cmp x y ≡ Greater
greater_is x y l = sym (nat_cmp_is x y Greater l)

pub belongs_here : (k : ℕ) (i : ℕ) (es : Entries) → i ≤ length es → AllWithin (λ (e : ℕ × Value). e.0 < k) es 0 i → (i < length es → HoldsAt (λ (e : ℕ × Value). k < e.0) es i) → Belongs nat_cmp k i es
belongs_here k zero [] le before at = tt
belongs_here k (suc i) [] le before at = absurd (omega arith)
belongs_here k zero (e ∷ es) le before at = greater_is e.0 k (at (omega arith) e)
belongs_here k (suc i) (e ∷ es) le before at =
    (less_is e.0 k (before zero e (omega arith) (omega arith)), belongs_here k i es (omega arith) (λ j d p q. before (suc j) d (omega arith) (omega arith)) (λ lt d. at (omega arith) d))

none_last : {X : Type 0} (p : X → Bool) (xs : List X) → position p xs ≡ None → length xs ≤ position_or_len p xs
none_last p xs e = grind (arith, nat_tests, e)

pub none_has : (k : ℕ) (es : Entries) (i : ℕ) (d : ℕ × Value) → position (λ (e : ℕ × Value). e.0 == k) es ≡ None → i < length es → ((slice_index_or es i d).0 == k) ≡ false
none_has k es i d e lt = fails_before_first (λ (e : ℕ × Value). e.0 == k) es i d (let l : length es ≤ position_or_len (λ (e : ℕ × Value). e.0 == k) es = none_last _ es e in omega arith)

below : (x k : ℕ) → x ≤ k → (x == k) ≡ false → x < k
below x k le ne = grind (arith, nat_tests)

nat_split : (j i : ℕ) → j < i + 1 → (j < i) ⊎ (j ≡ i)
nat_split j i lt = elim (nat_lt j i) as (λ b. nat_lt j i ≡ b → (j < i) ⊎ (j ≡ i)) [ true ↦ λ e. inl (grind (arith, nat_tests)) | false ↦ λ e. inr (grind (arith, nat_tests)) ] refl

below_or_at : (k : ℕ) (es : Entries) (i : ℕ) (x : ℕ × Value) → position (λ (e : ℕ × Value). e.0 == k) es ≡ None → i < length es → x ≡ slice_index_or es i x → x.0 ≤ k
    → AllWithin (λ (e : ℕ × Value). e.0 < k) es 0 i → (j : ℕ) (d : ℕ × Value) → j < i + 1 → (j < i) ⊎ (j ≡ i) → (slice_index_or es j d).0 < k
below_or_at k es i x none lt is le before j d q (inl l) = before j d (omega arith) l
below_or_at k es i x none lt is le before j d q (inr e) =
    let at : slice_index_or es j d ≡ x = ap (λ n. slice_index_or es n d) e ∙ item_at es i x d lt is in
    subst (λ (y : ℕ × Value). y.0 < k) (sym at) (below x.0 k le (ap (λ (y : ℕ × Value). y.0 == k) (sym (item_at es i x d lt is)) ∙ none_has k es i d none lt))

pub one_more : (k : ℕ) (es : Entries) (i : ℕ) (x : ℕ × Value) → position (λ (e : ℕ × Value). e.0 == k) es ≡ None → i < length es → x ≡ slice_index_or es i x → x.0 ≤ k
    → AllWithin (λ (e : ℕ × Value). e.0 < k) es 0 i → AllWithin (λ (e : ℕ × Value). e.0 < k) es 0 (i + 1)
one_more k es i x none lt is le before = λ j d p q. below_or_at k es i x none lt is le before j d q (nat_split j i q)

pub not_le : (a b n : ℕ) → n ≡ b → n < a → nat_le a b ≡ false
not_le a b n e l = grind (arith, nat_tests)

pub enter_step : (s limit place : ℕ) (es part fs new : Entries) (w : Value) → part ≡ es → Belongs nat_cmp s place part → fs ≡ insert es place (s, w) → nat_le limit (length es) ≡ false
    → new ≡ fs → entered s limit es w ≡ Ok new
enter_step s limit place es part fs new w p at f l n =
    rw l (ap Ok (sym (put_belongs {X = Value} nat_cmp nat_cmp_total nat_cmp-IsAntisymmetric s w place es (subst (λ (xs : Entries). Belongs nat_cmp s place xs) p at)) ∙ sym f ∙ sym n))

-- a step that leads to no entry yet leads by a subscript that none has
no_gap : {A : Type 0} (code : ℕ) (o : Option A) → or_code code (option_map Some o) ≡ Ok None → ⊥
no_gap code None e = cc
no_gap code (Some x) e = cc

gap_layer : (l : Ty-F Ty Field) (v : Value) (s : ℕ) → place_layer l v (step.Id s) ≡ Ok None → position (λ (e : ℕ × Value). e.0 == s) (entries_of v) ≡ None
gap_layer Ty-F.Bool v s e = cc
gap_layer (Ty-F.Number width signed min max) v s e = cc
gap_layer (Ty-F.String length) v s e = cc
gap_layer (Ty-F.Octets length) v s e = cc
gap_layer (Ty-F.Bytes length) v s e = cc
gap_layer (Ty-F.Struct fields) v s e = absurd (no_gap no_component (position (λ f. field_id f == s) fields) e)
gap_layer (Ty-F.Array entry limit keys) v s e = cc

pub gap_is : (ty : Ty) (v : Value) (s : ℕ) → place_in ty v (step.Id s) ≡ Ok None → position (λ (e : ℕ × Value). e.0 == s) (entries_of v) ≡ None
unfolding place_in
gap_is ty v s e = gap_layer (out-Ty ty) v s e

pub by_key_step : (fields : List Field) (es : Entries) (key : KeyDecl) (ids bytes k seen : List ℕ) (o : Option ℕ) → ids ≡ key.fields → key_in fields ids bytes ≡ Ok k → seen ≡ k
    → o ≡ position (λ (e : ℕ × Value). bytes_eq (key_value fields key e.1) seen) es → with_key fields es key bytes ≡ or_code not_found (option_map Some o)
by_key_step fields es key ids bytes k seen o i r s p =
    ap (λ (x : Result (List ℕ) ℕ). x >>= λ k. or_code not_found (option_map Some (position (λ (e : ℕ × Value). bytes_eq (key_value fields key e.1) k) es))) (ap (λ (is : List ℕ). key_in fields is bytes) (sym i) ∙ r)
    ∙ ap (λ (k : List ℕ). or_code not_found (option_map Some (position (λ (e : ℕ × Value). bytes_eq (key_value fields key e.1) k) es))) (sym s)
    ∙ ap (λ (o : Option ℕ). or_code not_found (option_map Some o)) (sym p)
