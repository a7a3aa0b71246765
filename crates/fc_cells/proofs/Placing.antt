-- A path leads where the path of IDs to its place leads.
use Rattle.std.proofs.Common.{◌≡◌, ℕ, zero, suc, ◌==◌, Bool, true, false, List, [], ◌∷◌, position, find, slice_get, refl, sym, ap, subst, ◌∙◌, Option, Some, None, option_map, Result, Ok, Err, eqb-true}
use Rattle.std.specs.List.{AllByRecursion}
use Rattle.fc_base.specs.Answers.{◌>>=◌}
use Rattle.fc_path.specs.declared.oper.Step.{Step}
use Rattle.fc_path.specs.declared.oper.Step.TheVariants as step
use Rattle.fc_tree.specs.Finding.{by_key, entries_of, invalid_path, key_in, no_component, not_found, or_code, paired, part_at, place_in, place_layer, stepped, walked}
use Rattle.fc_tree.specs.Merging.{merge_at_place, merge_in}
use Rattle.fc_tree.specs.Putting.{checked, put_at_place, put_in, put_part}
use Rattle.fc_tree.specs.Removing.{remove_at, remove_at_place, remove_in, remove_part, taken}
use Rattle.fc_types.specs.Types.{field_ty, fields_of}
use Rattle.fc_types.specs.declared.ty.Field.{Field}
use Rattle.fc_types.specs.declared.ty.KeyDecl.{KeyDecl}
use Rattle.fc_types.specs.declared.ty.Ty.{Ty}
use Rattle.fc_types.specs.declared.ty.Ty.TheOpen.{Ty-F}
use Rattle.fc_types.specs.declared.ty.Ty.TheViews.{out-Ty}
use Rattle.fc_value.specs.Fits.{EachFits, EntryFits, FitsIn, FitsLayer}
use Rattle.fc_value.specs.FullForm.{AreRising}
use Rattle.fc_value.specs.Nodes.{child, child_layer, with_child}
use Rattle.fc_value.specs.declared.value.Value.{Value, out-Value}
use Rattle.fc_value.specs.declared.value.Value.TheOpen.{Value-F}
use Rattle.fc_value.specs.declared.value.Value.TheVariants as value
use Rattle.fc_value.specs.declared.value.Value.TheViews.{out-roll-Value, rolls-Group}
use Rattle.fc_wire.specs.declared.ilvs.Ilv.{Ilv}
use Rattle.fc_cells.specs.Cells.{by_ids}
use Rattle.fc_cells.specs.Places.{at_place, id_of, new_place, place, place_behind, place_from}
use Rattle.fc_cells.proofs.Finds.{Entries, Entry, Found, found, has, no_some, position_rising, some_same}
use Rattle.fc_cells.proofs.Beside.{entries_again}
use Rattle.fc_cells.proofs.Steps.{Part, Went, array_key, array_part, array_place, behind, called, key_of, no_ok, numbered, ok_same, place_by, struct_key, struct_part, struct_place, walked_by}

-- ---- parts of values that fit
-- where a step leads, in the words of its ID
pub record Told (Fit : Ty → Value → Type 0) (s : Step) (i : ℕ) (ty : Ty) (v : Value) : Type 0 where
  pub part : Part
  pub named : id_of s i v ≡ Ok part.0
  pub here : part_at i ty v ≡ Some (part.1, part.2)
  pub again : place_in ty v (step.Id part.0) ≡ Ok (Some i)
  pub fits : Fit part.1 part.2

pub group_again : (vs : List Value) → out-Value (value.Group vs) ≡ Value-F.Group vs
group_again vs = ap out-Value (sym (rolls-Group vs)) ∙ out-roll-Value (Value-F.Group vs)

module _ (n : ℕ) where
  pub field_fits : (fields : List Field) (vs : List Value) (i : ℕ) (f : Field) → EachFits (FitsIn n) fields vs → slice_get fields i ≡ Some f → (c : Value) × (slice_get vs i ≡ Some c) × FitsIn n (field_ty f) c
  field_fits [] vs i f h g = no_some f g
  field_fits (x ∷ xs) [] i f h g = absurd h
  field_fits (x ∷ xs) (v ∷ vs) zero f h g = (v, refl, subst (λ (y : Field). FitsIn n (field_ty y) v) (some_same x f g) h.0)
  field_fits (x ∷ xs) (v ∷ vs) (suc i) f h g = field_fits xs vs i f h.1 g

  pub entry_fits : (entry : Ty) (es : Entries) (i : ℕ) (e : Entry) → AllByRecursion (EntryFits (FitsIn n) entry) es → slice_get es i ≡ Some e → FitsIn n entry e.1
  entry_fits entry [] i e h g = no_some e g
  entry_fits entry (x ∷ xs) zero e h g = subst (λ (y : Entry). FitsIn n entry y.1) (some_same x e g) h.0.1
  entry_fits entry (x ∷ xs) (suc i) e h g = entry_fits entry xs i e h.1 g

  told_field : (ty : Ty) (fields : List Field) → out-Ty ty ≡ Ty-F.Struct fields → (v : Value) → FitsLayer (FitsIn n) (Ty-F.Struct fields) v → (s : Step) (i : ℕ) → place_in ty v s ≡ Ok (Some i) → Told (FitsIn n) s i ty v
  told_field ty fields e v h (step.Key id bytes) i p = no_ok invalid_path (Some i) (sym (struct_key ty fields e v id bytes) ∙ p)
  told_field ty fields e v h (step.Id id) i p =
      let at : position (called id) fields ≡ Some i = at_field (position (called id) fields) (sym (struct_place ty fields e v id) ∙ p) in
      let f : Found (called id) fields i = found (called id) fields i at in
      let c : (c : Value) × (slice_get h.0 i ≡ Some c) × FitsIn n (field_ty f.item) c = field_fits fields h.0 i f.item h.2 f.got in
      record {
        part = (id, field_ty f.item, c.0);
        named = refl;
        here =
            struct_part ty fields e v i ∙ ap (λ (o : Option Field). paired (option_map field_ty o) (child i v)) f.got
            ∙ ap (paired (Some (field_ty f.item))) (ap (child i) h.1 ∙ ap (child_layer i) (group_again h.0) ∙ c.1);
        again = p;
        fits = c.2;
      }
    where
      at_field : (o : Option ℕ) → or_code no_component (option_map Some o) ≡ Ok (Some i) → o ≡ Some i
      at_field None e = no_ok no_component (Some i) e
      at_field (Some k) e = ok_same (Some k) (Some i) e

  module _ (ty entry : Ty) (limit : ℕ) (keys : List KeyDecl) (array : out-Ty ty ≡ Ty-F.Array entry limit keys) (v : Value) (h : FitsLayer (FitsIn n) (Ty-F.Array entry limit keys) v) where
    pub own_entries : entries_of v ≡ h.0
    own_entries = ap entries_of h.1 ∙ entries_again h.0

    pub rises : AreRising (entries_of v)
    rises = subst AreRising (sym own_entries) h.2.rising

    pub fits_entry : (i : ℕ) (e : Entry) → slice_get (entries_of v) i ≡ Some e → FitsIn n entry e.1
    fits_entry i e g = entry_fits entry h.0 i e h.3 (sym (ap (λ (es : Entries). slice_get es i) own_entries) ∙ g)

    told_entry : (s : Step) (i : ℕ) (e : Entry) → slice_get (entries_of v) i ≡ Some e → id_of s i v ≡ Ok e.0 → Told (FitsIn n) s i ty v
    told_entry s i e g q = record {
      part = (e.0, entry, e.1);
      named = q;
      here = array_part ty entry limit keys array v i e g;
      again = array_place ty entry limit keys array v e.0 ∙ ap (λ (o : Option ℕ). Ok o) (position_rising (entries_of v) i e rises g);
      fits = fits_entry i e g;
    }

    at_key : (key : KeyDecl) (k : List ℕ) (i : ℕ) (o : Option ℕ) → or_code not_found (option_map Some o) ≡ Ok (Some i) → o ≡ Some i
    at_key key k i None e = no_ok not_found (Some i) e
    at_key key k i (Some j) e = ok_same (Some j) (Some i) e

    by_bytes : (id : ℕ) (bytes : List ℕ) (i : ℕ) (key : KeyDecl) (r : Result (List ℕ) ℕ)
        → (r >>= λ k. or_code not_found (option_map Some (position (key_of (fields_of entry) key k) (entries_of v)))) ≡ Ok (Some i) → Told (FitsIn n) (step.Key id bytes) i ty v
    by_bytes id bytes i key (Err c) e = no_ok c (Some i) e
    by_bytes id bytes i key (Ok k) e =
        let f : Found (key_of (fields_of entry) key k) (entries_of v) i = found (key_of (fields_of entry) key k) (entries_of v) i (at_key key k i (position (key_of (fields_of entry) key k) (entries_of v)) e) in
        told_entry (step.Key id bytes) i f.item f.got (ap (λ (o : Option Entry). or_code invalid_path (option_map (λ (e : Entry). e.0) o)) f.got)

    by_decl : (id : ℕ) (bytes : List ℕ) (i : ℕ) (o : Option KeyDecl) → by_key (fields_of entry) (entries_of v) o bytes ≡ Ok (Some i) → Told (FitsIn n) (step.Key id bytes) i ty v
    by_decl id bytes i None e = no_ok invalid_path (Some i) e
    by_decl id bytes i (Some key) e = by_bytes id bytes i key (key_in (fields_of entry) key.fields bytes) e

    told_in_array : (s : Step) (i : ℕ) → place_in ty v s ≡ Ok (Some i) → Told (FitsIn n) s i ty v
    told_in_array (step.Key id bytes) i p = by_decl id bytes i (find (numbered id) keys) (sym (array_key ty entry limit keys array v id bytes) ∙ p)
    told_in_array (step.Id id) i p =
        let f : Found (has id) (entries_of v) i = found (has id) (entries_of v) i (ok_same (position (has id) (entries_of v)) (Some i) (sym (array_place ty entry limit keys array v id) ∙ p)) in
        told_entry (step.Id id) i f.item f.got (ap (λ (k : ℕ). Ok k) (sym (own_subscript f.item.0 f.passes)))
      where
        own_subscript : (m : ℕ) → (m == id) ≡ true → m ≡ id
        own_subscript m t = eqb-true m id t

pub told : (n : ℕ) (ty : Ty) (v : Value) → FitsIn (suc n) ty v → (s : Step) (i : ℕ) → place_in ty v s ≡ Ok (Some i) → Told (FitsIn n) s i ty v
unfolding place_in
told n ty v h s i p = by (out-Ty ty) refl h
  where
    none : (l : Ty-F Ty Field) → out-Ty ty ≡ l → place_layer l v s ≡ Err invalid_path → Told (FitsIn n) s i ty v
    none l e q = no_ok invalid_path (Some i) (sym q ∙ ap (λ k. place_layer k v s) (sym e) ∙ p)

    by : (l : Ty-F Ty Field) → out-Ty ty ≡ l → FitsLayer (FitsIn n) l v → Told (FitsIn n) s i ty v
    by Ty-F.Bool e h = none Ty-F.Bool e refl
    by (Ty-F.Number b g min max) e h = none (Ty-F.Number b g min max) e refl
    by (Ty-F.String l) e h = none (Ty-F.String l) e refl
    by (Ty-F.Octets l) e h = none (Ty-F.Octets l) e refl
    by (Ty-F.Bytes l) e h = none (Ty-F.Bytes l) e refl
    by (Ty-F.Struct fields) e h = told_field n ty fields e v h s i p
    by (Ty-F.Array entry limit keys) e h = told_in_array n ty entry limit keys e v h s i p

-- ---- what works on a path step by step
abbrev pub is_last : List Step → Bool
is_last [] = true
is_last (s ∷ path) = false

-- `F` works on what a path leads to, and `K` says what it makes of a value of what it makes of a part
pub record Works (X : Type 0) (F : List Step → Ty → Value → Result X ℕ) (K : ℕ → ℕ → Ty → Value → Bool → Result X ℕ → Result X ℕ) : Type 0 where
  pub lost : (s : Step) (path : List Step) (ty : Ty) (v : Value) (c : ℕ) → place_in ty v s ≡ Err c → F (s ∷ path) ty v ≡ Err c
  pub missing : (s t : Step) (path : List Step) (ty : Ty) (v : Value) → place_in ty v s ≡ Ok None → F (s ∷ t ∷ path) ty v ≡ Err not_found
  pub keyless : (id : ℕ) (bytes : List ℕ) (ty : Ty) (v : Value) → place_in ty v (step.Key id bytes) ≡ Ok None → F (step.Key id bytes ∷ []) ty v ≡ Err not_found
  pub there : (s : Step) (path : List Step) (ty : Ty) (v : Value) (x : Part) (w : Went s ty v x) → F (s ∷ path) ty v ≡ K x.0 w.at ty v (is_last path) (F path x.1 x.2)
  pub fails : (id i : ℕ) (ty : Ty) (v : Value) (c : ℕ) → K id i ty v false (Err c) ≡ Err c

module _ (X : Type 0) (F : List Step → Ty → Value → Result X ℕ) (K : ℕ → ℕ → Ty → Value → Bool → Result X ℕ → Result X ℕ) (works : Works X F K) where
  abbrev Same : List Step → Type 0
  Same path = (n : ℕ) (ty : Ty) (v : Value) → FitsIn n ty v → F path ty v ≡ at_place (λ ids. F ids ty v) (place path ty v)

  -- the place of a path is empty exactly where the path is
  as_long : (path : List Step) (ty : Ty) (v : Value) (ids : List ℕ) → place path ty v ≡ Ok ids → is_last (by_ids ids) ≡ is_last path
  as_long [] ty v ids e = ap (λ (xs : List ℕ). is_last (by_ids xs)) (sym (ok_same [] ids e))
  as_long (s ∷ path) ty v ids e = by (place_in ty v s) e
    where
      more : (id : ℕ) (r : Result (List ℕ) ℕ) → (r >>= λ js. Ok (id ∷ js)) ≡ Ok ids → is_last (by_ids ids) ≡ false
      more id (Err c) e = no_ok c ids e
      more id (Ok js) e = ap (λ (xs : List ℕ). is_last (by_ids xs)) (sym (ok_same (id ∷ js) ids e))

      part : (id : ℕ) (o : Option (Ty × Value)) → place_behind (place path) id o ≡ Ok ids → is_last (by_ids ids) ≡ false
      part id None e = no_ok invalid_path ids e
      part id (Some x) e = more id (place path x.0 x.1) e

      named : (i : ℕ) (r : Result ℕ ℕ) → (r >>= λ id. place_behind (place path) id (part_at i ty v)) ≡ Ok ids → is_last (by_ids ids) ≡ false
      named i (Err c) e = no_ok c ids e
      named i (Ok id) e = part id (part_at i ty v) e

      new : (path : List Step) (s : Step) → new_place path s ≡ Ok ids → is_last (by_ids ids) ≡ false
      new [] (step.Id id) e = ap (λ (xs : List ℕ). is_last (by_ids xs)) (sym (ok_same (id ∷ []) ids e))
      new [] (step.Key id bytes) e = no_ok not_found ids e
      new (t ∷ path) s e = no_ok not_found ids e

      by : (r : Result (Option ℕ) ℕ) → r >>= place_from (place path) path s ty v ≡ Ok ids → is_last (by_ids ids) ≡ false
      by (Err c) e = no_ok c ids e
      by (Ok None) e = new path s e
      by (Ok (Some i)) e = named i (id_of s i v) e

  at_part : (s : Step) (path : List Step) (ty : Ty) (v : Value) (x : Part) → (w : Went s ty v x) → (q : Went (step.Id x.0) ty v x) → q.at ≡ w.at → (r : Result (List ℕ) ℕ) → place path x.1 x.2 ≡ r
      → F path x.1 x.2 ≡ at_place (λ ids. F ids x.1 x.2) r → F (s ∷ path) ty v ≡ at_place (λ ids. F ids ty v) (behind x.0 r)
  at_part s path ty v x w q same (Err c) p e = by path p e
    where
      by : (path : List Step) → place path x.1 x.2 ≡ Err c → F path x.1 x.2 ≡ Err c → F (s ∷ path) ty v ≡ Err c
      by [] p e = absurd (cc)
      by (t ∷ path) p e = works.there s (t ∷ path) ty v x w ∙ ap (K x.0 w.at ty v false) e ∙ works.fails x.0 w.at ty v c
  at_part s path ty v x w q same (Ok ids) p e =
      works.there s path ty v x w ∙ ap (K x.0 w.at ty v (is_last path)) e ∙ ap (λ (b : Bool). K x.0 w.at ty v b (F (by_ids ids) x.1 x.2)) (sym (as_long path x.1 x.2 ids p))
      ∙ ap (λ (i : ℕ). K x.0 i ty v (is_last (by_ids ids)) (F (by_ids ids) x.1 x.2)) (sym same) ∙ sym (works.there (step.Id x.0) (by_ids ids) ty v x q)

  step_same : (s : Step) (path : List Step) → Same path → (n : ℕ) (ty : Ty) (v : Value) → FitsIn n ty v → (r : Result (Option ℕ) ℕ) → place_in ty v s ≡ r
      → F (s ∷ path) ty v ≡ at_place (λ ids. F ids ty v) (r >>= place_from (place path) path s ty v)
  step_same s path more n ty v h (Err c) p = works.lost s path ty v c p
  step_same (step.Id id) [] more n ty v h (Ok None) p = refl
  step_same (step.Key id bytes) [] more n ty v h (Ok None) p = works.keyless id bytes ty v p
  step_same s (t ∷ path) more n ty v h (Ok None) p = works.missing s t path ty v p
  step_same s path more zero ty v h (Ok (Some i)) p = absurd h
  step_same s path more (suc n) ty v h (Ok (Some i)) p =
      let t : Told (FitsIn n) s i ty v = told n ty v h s i p in
      let w : Went s ty v t.part = record { at = i; placed = p; named = t.named; part = t.here } in
      let q : Went (step.Id t.part.0) ty v t.part = record { at = i; placed = t.again; named = refl; part = t.here } in
      at_part s path ty v t.part w q refl (place path t.part.1 t.part.2) refl (more n t.part.1 t.part.2 t.fits)
      ∙ ap (at_place (λ ids. F ids ty v)) (sym (sym (ap (λ (r : Result (Option ℕ) ℕ). r >>= place_from (place path) path s ty v) p) ∙ place_by s path ty v t.part w))

  pub same_place : (path : List Step) → Same path
  same_place [] n ty v h = refl
  same_place (s ∷ path) n ty v h = step_same s path (same_place path) n ty v h (place_in ty v s) refl

-- ---- finding
abbrev found_from : ℕ → ℕ → Ty → Value → Bool → Result (Ty × Value) ℕ → Result (Ty × Value) ℕ
found_from id i ty v last r = r

walks : Works (Ty × Value) walked found_from
walks = record {
  lost = λ s path ty v c p. ap (λ (r : Result (Option ℕ) ℕ). r >>= stepped (walked path) ty v) p;
  missing = λ s t path ty v p. ap (λ (r : Result (Option ℕ) ℕ). r >>= stepped (walked (t ∷ path)) ty v) p;
  keyless = λ id bytes ty v p. ap (λ (r : Result (Option ℕ) ℕ). r >>= stepped (walked []) ty v) p;
  there = λ s path ty v x w. walked_by s path ty v x w;
  fails = λ id i ty v c. refl;
}

pub walked_at : (n : ℕ) (path : List Step) (ty : Ty) (v : Value) → FitsIn n ty v → walked path ty v ≡ at_place (λ ids. walked ids ty v) (place path ty v)
walked_at n path ty v h = same_place (Ty × Value) walked found_from walks path n ty v h

-- ---- SET
abbrev put_from : ℕ → ℕ → Ty → Value → Bool → Result Value ℕ → Result Value ℕ
put_from id i ty v last r = r >>= λ w. checked ty (with_child i w v)

module _ (bytes : List ℕ) where
  abbrev puts_of : List Step → Ty → Value → Result Value ℕ
  puts_of path = put_in path bytes

  puts : Works Value puts_of put_from
  puts = record {
    lost = λ s path ty v c p. ap (λ (r : Result (Option ℕ) ℕ). r >>= put_at_place (put_in path bytes) path s bytes ty v) p;
    missing = λ s t path ty v p. ap (λ (r : Result (Option ℕ) ℕ). r >>= put_at_place (put_in (t ∷ path) bytes) (t ∷ path) s bytes ty v) p;
    keyless = λ id key ty v p. ap (λ (r : Result (Option ℕ) ℕ). r >>= put_at_place (put_in [] bytes) [] (step.Key id key) bytes ty v) p;
    there = λ s path ty v x w. ap (λ (r : Result (Option ℕ) ℕ). r >>= put_at_place (put_in path bytes) path s bytes ty v) w.placed ∙ ap (put_part (put_in path bytes) w.at ty v) w.part;
    fails = λ id i ty v c. refl;
  }

  pub put_at_ids : (n : ℕ) (path : List Step) (ty : Ty) (v : Value) → FitsIn n ty v → put_in path bytes ty v ≡ at_place (λ ids. put_in ids bytes ty v) (place path ty v)
  put_at_ids n path ty v h = same_place Value puts_of put_from puts path n ty v h

-- ---- a merge
module _ (ilvs : List Ilv) where
  abbrev merges_of : List Step → Ty → Value → Result Value ℕ
  merges_of path = merge_in path ilvs

  merges : Works Value merges_of put_from
  merges = record {
    lost = λ s path ty v c p. ap (λ (r : Result (Option ℕ) ℕ). r >>= merge_at_place (merge_in path ilvs) ty v) p;
    missing = λ s t path ty v p. ap (λ (r : Result (Option ℕ) ℕ). r >>= merge_at_place (merge_in (t ∷ path) ilvs) ty v) p;
    keyless = λ id key ty v p. ap (λ (r : Result (Option ℕ) ℕ). r >>= merge_at_place (merge_in [] ilvs) ty v) p;
    there = λ s path ty v x w. ap (λ (r : Result (Option ℕ) ℕ). r >>= merge_at_place (merge_in path ilvs) ty v) w.placed ∙ ap (put_part (merge_in path ilvs) w.at ty v) w.part;
    fails = λ id i ty v c. refl;
  }

  pub merged_at_ids : (n : ℕ) (path : List Step) (ty : Ty) (v : Value) → FitsIn n ty v → merge_in path ilvs ty v ≡ at_place (λ ids. merge_in ids ilvs ty v) (place path ty v)
  merged_at_ids n path ty v h = same_place Value merges_of put_from merges path n ty v h

-- ---- DEL
abbrev removed_from : ℕ → ℕ → Ty → Value → Bool → Result Value ℕ → Result Value ℕ
removed_from id i ty v true r = taken i ty v
removed_from id i ty v false r = r >>= λ w. Ok (with_child i w v)

removes : Works Value remove_in removed_from
removes = record {
  lost = λ s path ty v c p. ap (λ (r : Result (Option ℕ) ℕ). r >>= remove_at_place (remove_in path) path ty v) p;
  missing = λ s t path ty v p. ap (λ (r : Result (Option ℕ) ℕ). r >>= remove_at_place (remove_in (t ∷ path)) (t ∷ path) ty v) p;
  keyless = λ id key ty v p. ap (λ (r : Result (Option ℕ) ℕ). r >>= remove_at_place (remove_in []) [] ty v) p;
  there = λ s path ty v x w. ap (λ (r : Result (Option ℕ) ℕ). r >>= remove_at_place (remove_in path) path ty v) w.placed ∙ by path ty v x w.at w.part;
  fails = λ id i ty v c. refl;
}
  where
    by : (path : List Step) (ty : Ty) (v : Value) (x : Part) (i : ℕ) → part_at i ty v ≡ Some (x.1, x.2) → remove_at (remove_in path) path i ty v ≡ removed_from x.0 i ty v (is_last path) (remove_in path x.1 x.2)
    by [] ty v x i p = refl
    by (t ∷ path) ty v x i p = ap (remove_part (remove_in (t ∷ path)) i ty v) p

pub removed_at_ids : (n : ℕ) (path : List Step) (ty : Ty) (v : Value) → FitsIn n ty v → remove_in path ty v ≡ at_place (λ ids. remove_in ids ty v) (place path ty v)
removed_at_ids n path ty v h = same_place Value remove_in removed_from removes path n ty v h

-- ---- the place itself
abbrev place_at : ℕ → ℕ → Ty → Value → Bool → Result (List ℕ) ℕ → Result (List ℕ) ℕ
place_at id i ty v last r = behind id r

places : Works (List ℕ) place place_at
places = record {
  lost = λ s path ty v c p. ap (λ (r : Result (Option ℕ) ℕ). r >>= place_from (place path) path s ty v) p;
  missing = λ s t path ty v p. ap (λ (r : Result (Option ℕ) ℕ). r >>= place_from (place (t ∷ path)) (t ∷ path) s ty v) p;
  keyless = λ id key ty v p. ap (λ (r : Result (Option ℕ) ℕ). r >>= place_from (place []) [] (step.Key id key) ty v) p;
  there = λ s path ty v x w. place_by s path ty v x w;
  fails = λ id i ty v c. refl;
}

pub place_again : (n : ℕ) (path : List Step) (ty : Ty) (v : Value) (ids : List ℕ) → FitsIn n ty v → place path ty v ≡ Ok ids → place (by_ids ids) ty v ≡ Ok ids
place_again n path ty v ids h e = sym (ap (at_place (λ js. place js ty v)) e) ∙ sym (same_place (List ℕ) place place_at places path n ty v h) ∙ e

-- ---- what a part has of the value
pub part_fits : (n : ℕ) (s : Step) (ty : Ty) (v : Value) (x : Part) → FitsIn (suc n) ty v → Went s ty v x → FitsIn n x.1 x.2
part_fits n s ty v x h w =
    let t : Told (FitsIn n) s w.at ty v = told n ty v h s w.at w.placed in
    let same : (t.part.1, t.part.2) ≡ (x.1, x.2) = some_same (t.part.1, t.part.2) (x.1, x.2) (sym t.here ∙ w.part) in
    subst (λ (z : Ty × Value). FitsIn n z.0 z.1) same t.fits

-- the step by its ID leads there too
pub went_by_id : (n : ℕ) (s : Step) (ty : Ty) (v : Value) (x : Part) → FitsIn (suc n) ty v → Went s ty v x → Went (step.Id x.0) ty v x
went_by_id n s ty v x h w =
    let t : Told (FitsIn n) s w.at ty v = told n ty v h s w.at w.placed in
    let own : t.part.0 ≡ x.0 = ok_same t.part.0 x.0 (sym t.named ∙ w.named) in
    record { at = w.at; placed = ap (λ (k : ℕ). place_in ty v (step.Id k)) (sym own) ∙ t.again; named = refl; part = w.part }
