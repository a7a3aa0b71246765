-- A step by a key leads where the subscript that an index gives leads.
use Rattle.std.proofs.Common.{◌≡◌, ℕ, zero, suc, ◌<◌, ◌≤◌, ◌==◌, nat_lt, Bool, true, false, cond, bytes_eq, List, [], ◌∷◌, length, find, position, slice_get, slice_index_or, refl, sym, ap, subst, ◌∙◌, arith, Option, Some, None, option_map, option_and_then, is_some, Result, Ok, Err}
use Rattle.std.specs.List.{position_or_len}
use Rattle.std.specs.FinMap.{entries, get, get-entries}
use Rattle.std.proofs.lemmas.Bool.Decides.{nat_tests}
use Rattle.std.proofs.lemmas.List.Folds.{find_at}
use Rattle.std.proofs.lemmas.Option.{slice_get-get_or}
use Rattle.fc_base.specs.Answers.{◌>>=◌}
use Rattle.fc_base.specs.declared.faults.OpFault.{OpFault}
use Rattle.fc_path.specs.declared.oper.Step.TheVariants as step
use Rattle.fc_tree.specs.Finding.{by_key, from_array, key_in, not_found, or_code}
use Rattle.fc_tree.proofs.Positions.{position_found}
use Rattle.fc_types.specs.declared.ty.Field.{Field}
use Rattle.fc_types.specs.declared.ty.KeyDecl.{KeyDecl}
use Rattle.fc_value.specs.Keys.{key_value}
use Rattle.fc_value.specs.Outcomes.{Fails}
use Rattle.fc_value.specs.declared.value.Value.{Value}
use Rattle.fc_rows.specs.Columns.{Leads, LeadsBy}
use Rattle.fc_rows.specs.Rowed.{RowMap, Shape}
use Rattle.fc_rows.proofs.Leading.{leads_by_search}
use Rattle.fc_rows.proofs.Standing.{Stood, has, stood}
use Rattle.fc_instance.specs.Leading.{Reached, ReachedWith}
use Rattle.fc_instance.proofs.Failing.{failed_on}

-- ---- the key with an ID
past_end : {X : Type 0} (xs : List X) (n : ℕ) → length xs ≤ n → slice_get xs n ≡ None
past_end [] n le = refl
past_end (x ∷ xs) zero le = absurd (omega arith)
past_end (x ∷ xs) (suc n) le = past_end xs n (omega arith)

pub find_by : {X : Type 0} (p : X → Bool) (xs : List X) → find p xs ≡ option_and_then (slice_get xs) (position p xs)
find_by p xs = find_at p xs ∙ by (nat_lt (position_or_len p xs) (length xs)) refl
  where
    by : (b : Bool) → nat_lt (position_or_len p xs) (length xs) ≡ b → slice_get xs (position_or_len p xs) ≡ option_and_then (slice_get xs) (cond b (Some (position_or_len p xs)) None)
    by true e = refl
    by false e = past_end xs (position_or_len p xs) (grind (arith, nat_tests, e))

-- ---- where the index leads
abbrev to_place : RowMap → Option ℕ → Option ℕ
to_place m o = option_and_then (λ s. position (has s) (entries m)) o

place_there : (m : RowMap) (s : ℕ) (v : Value) → get m s ≡ Some v → (i : ℕ) × (position (has s) (entries m) ≡ Some i)
place_there m s v e =
    let h : Stood s (entries m) v = stood s (entries m) v (sym (get-entries m s) ∙ e) in
    (h.place, position_found (has s) (entries m) h.place h.within h.before h.here)

searched : (fields : List Field) (m : RowMap) (key : KeyDecl) (bytes written : List ℕ) (o : Option ℕ) → key_in fields key.fields bytes ≡ Ok written → Leads (key_value fields key) m written o
    → by_key fields (entries m) (Some key) bytes ≡ or_code not_found (option_map Some (to_place m o))
searched fields m key bytes written o e h =
    ap (λ (r : Result (List ℕ) ℕ). r >>= λ k. or_code not_found (option_map Some (position (λ (x : ℕ × Value). bytes_eq (key_value fields key x.1) k) (entries m)))) e
    ∙ ap (λ (q : Option ℕ). or_code not_found (option_map Some q)) (leads_by_search (key_value fields key) written m o h)

pub key_nowhere : (fields : List Field) (m : RowMap) (key : KeyDecl) (bytes written : List ℕ) → key_in fields key.fields bytes ≡ Ok written → Leads (key_value fields key) m written None
    → by_key fields (entries m) (Some key) bytes ≡ Err not_found
key_nowhere fields m key bytes written e h = searched fields m key bytes written None e h

pub key_leads : (fields : List Field) (m : RowMap) (key : KeyDecl) (bytes written : List ℕ) (s : ℕ) → key_in fields key.fields bytes ≡ Ok written → Leads (key_value fields key) m written (Some s)
    → (by_key fields (entries m) (Some key) bytes ≡ from_array fields [] (entries m) (step.Id s)) × (is_some (get m s) ≡ true)
key_leads fields m key bytes written s e h =
    let f : (v : Value) × (get m s ≡ Some v) × (key_value fields key v ≡ written) = h.found s refl in
    let at : (i : ℕ) × (position (has s) (entries m) ≡ Some i) = place_there m s f.0 f.1 in
    (searched fields m key bytes written (Some s) e h ∙ ap (λ (q : Option ℕ). or_code not_found (option_map Some q)) at.1 ∙ sym (ap (λ (q : Option ℕ). Ok q) at.1), ap is_some f.1)

pub key_unread : (fields : List Field) (m : RowMap) (key : KeyDecl) (bytes : List ℕ) (fault : OpFault) → Fails fault (key_in fields key.fields bytes) → Fails fault (by_key fields (entries m) (Some key) bytes)
key_unread fields m key bytes fault h = failed_on fault (key_in fields key.fields bytes) (λ k. or_code not_found (option_map Some (position (λ (x : ℕ × Value). bytes_eq (key_value fields key x.1) k) (entries m)))) h

-- the index of a key, as the rows tell it
led_by : (shape : Shape) (fields : List Field) (keys : List KeyDecl) (m : RowMap) (place : ℕ) (key : KeyDecl) (written part : List ℕ) (o : Option ℕ) → shape ≡ (fields, keys) → Some key ≡ slice_get keys place
    → part ≡ written → LeadsBy shape.0 (slice_get shape.1 place) m part o → Leads (key_value fields key) m written o
led_by shape fields keys m place key written part o e k p h =
    subst (λ (q : List ℕ). Leads (key_value fields key) m q o) p
    (subst (λ (x : Option KeyDecl). LeadsBy fields x m part o) (sym k) (subst (λ (z : Shape). LeadsBy z.0 (slice_get z.1 place) m part o) e h))

pub with_key_none : (shape : Shape) (fields : List Field) (keys : List KeyDecl) (m : RowMap) (place : ℕ) (key : KeyDecl) (ids bytes written part : List ℕ) (o : Option ℕ) → shape ≡ (fields, keys)
    → Some key ≡ slice_get keys place → ids ≡ key.fields → key_in fields ids bytes ≡ Ok written → part ≡ written → LeadsBy shape.0 (slice_get shape.1 place) m part o → o ≡ None
    → by_key fields (entries m) (slice_get keys place) bytes ≡ Err not_found
with_key_none shape fields keys m place key ids bytes written part o e k i r p h n =
    ap (λ (x : Option KeyDecl). by_key fields (entries m) x bytes) (sym k)
    ∙ key_nowhere fields m key bytes written (ap (λ (js : List ℕ). key_in fields js bytes) (sym i) ∙ r) (subst (λ (q : Option ℕ). Leads (key_value fields key) m written q) n (led_by shape fields keys m place key written part o e k p h))

pub with_key_some : (shape : Shape) (fields : List Field) (keys : List KeyDecl) (m : RowMap) (place s : ℕ) (key : KeyDecl) (ids bytes written part : List ℕ) (o : Option ℕ) → shape ≡ (fields, keys)
    → Some key ≡ slice_get keys place → ids ≡ key.fields → key_in fields ids bytes ≡ Ok written → part ≡ written → LeadsBy shape.0 (slice_get shape.1 place) m part o → o ≡ Some s
    → (by_key fields (entries m) (slice_get keys place) bytes ≡ from_array fields [] (entries m) (step.Id s)) × (is_some (get m s) ≡ true)
with_key_some shape fields keys m place s key ids bytes written part o e k i r p h n =
    let at : (by_key fields (entries m) (Some key) bytes ≡ from_array fields [] (entries m) (step.Id s)) × (is_some (get m s) ≡ true) =
    key_leads fields m key bytes written s (ap (λ (js : List ℕ). key_in fields js bytes) (sym i) ∙ r) (subst (λ (q : Option ℕ). Leads (key_value fields key) m written q) n (led_by shape fields keys m place key written part o e k p h)) in
    (ap (λ (x : Option KeyDecl). by_key fields (entries m) x bytes) (sym k) ∙ at.0, at.1)

pub key_at : (id : ℕ) (keys : List KeyDecl) (o : Option ℕ) (p : Option ℕ) → o ≡ position (λ (key : KeyDecl). key.id == id) keys → o ≡ p → find (λ (key : KeyDecl). key.id == id) keys ≡ option_and_then (slice_get keys) p
key_at id keys o p e q = find_by (λ (key : KeyDecl). key.id == id) keys ∙ ap (option_and_then (slice_get keys)) (sym e ∙ q)

pub reached_with : (fields : List Field) (keys : List KeyDecl) (m : RowMap) (id : ℕ) (bytes : List ℕ) (key : Option KeyDecl) (r : Result ℕ OpFault) → find (λ (k : KeyDecl). k.id == id) keys ≡ key
    → ReachedWith fields m key bytes r → Reached fields keys m (step.Key id bytes) r
reached_with fields keys m id bytes key (Ok s) e h = (ap (λ (x : Option KeyDecl). by_key fields (entries m) x bytes) e ∙ h.0, h.1)
reached_with fields keys m id bytes key (Err fault) e h = subst (λ (x : Option KeyDecl). Fails fault (by_key fields (entries m) x bytes)) (sym e) h

pub key_got : (keys : List KeyDecl) (place : ℕ) (key : KeyDecl) → place < length keys → key ≡ slice_index_or keys place key → Some key ≡ slice_get keys place
key_got keys place key lt e = sym (slice_get-get_or keys place key lt ∙ ap (λ (k : KeyDecl). Some k) (sym e))
