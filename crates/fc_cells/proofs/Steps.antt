-- Where one step leads, with the ID that it stands for.
use Rattle.std.proofs.Common.{◌≡◌, ℕ, ◌==◌, Bool, List, ◌∷◌, position, find, slice_get, bytes_eq, refl, sym, ap, ◌∙◌, Option, Some, None, option_map, option_and_then, Result, Ok, Err}
use Rattle.fc_base.specs.Answers.{◌>>=◌}
use Rattle.fc_path.specs.declared.oper.Step.{Step}
use Rattle.fc_path.specs.declared.oper.Step.TheVariants as step
use Rattle.fc_tree.specs.Finding.{by_key, entries_layer, entries_of, gone_on, invalid_path, key_in, no_component, not_found, or_code, paired, part_at, part_layer, place_in, place_layer, stepped, walked}
use Rattle.fc_types.specs.Types.{field_id, field_ty, fields_of}
use Rattle.fc_types.specs.declared.ty.Field.{Field}
use Rattle.fc_types.specs.declared.ty.KeyDecl.{KeyDecl}
use Rattle.fc_types.specs.declared.ty.Ty.{Ty}
use Rattle.fc_types.specs.declared.ty.Ty.TheOpen.{Ty-F}
use Rattle.fc_types.specs.declared.ty.Ty.TheViews.{out-Ty}
use Rattle.fc_value.specs.Keys.{key_value}
use Rattle.fc_value.specs.Nodes.{child, child_layer}
use Rattle.fc_value.specs.declared.value.Value.{Value, out-Value}
use Rattle.fc_value.specs.declared.value.Value.TheOpen.{Value-F}
use Rattle.fc_cells.specs.Places.{id_of, place, place_behind, place_from}
use Rattle.fc_cells.proofs.Finds.{Entries, Entry, Found, found, found_at, has, no_some}

abbrev pub Part : Type 0
Part = ℕ × Ty × Value

pub no_ok : {A : Type 0} {X : Type 0} (c : ℕ) (x : A) → ◌≡◌ {A = Result A ℕ} (Err c) (Ok x) → X
no_ok c x e = absurd (cc)

pub ok_same : {A : Type 0} (x y : A) → ◌≡◌ {A = Result A ℕ} (Ok x) (Ok y) → x ≡ y
ok_same x y e = cc

abbrev pub reached_at : ℕ → Option (Ty × Value) → Result Part ℕ
reached_at id None = Err invalid_path
reached_at id (Some x) = Ok (id, x.0, x.1)

abbrev pub reached_from : Step → Ty → Value → Option ℕ → Result Part ℕ
reached_from s ty v None = Err not_found
reached_from s ty v (Some i) = id_of s i v >>= λ id. reached_at id (part_at i ty v)

-- the part to which a step leads, with the ID that it stands for
abbrev pub reached : Step → Ty → Value → Result Part ℕ
reached s ty v = place_in ty v s >>= reached_from s ty v

abbrev pub went_on : List Step → Part → Result (Ty × Value) ℕ
went_on path x = walked path x.1 x.2

abbrev pub behind : ℕ → Result (List ℕ) ℕ → Result (List ℕ) ℕ
behind id r = r >>= λ ids. Ok (id ∷ ids)

-- ---- by an ID
pub walked_id : (j : ℕ) (path : List Step) (ty : Ty) (v : Value) → walked (step.Id j ∷ path) ty v ≡ reached (step.Id j) ty v >>= went_on path
walked_id j path ty v = by (place_in ty v (step.Id j))
  where
    from : (o : Option (Ty × Value)) → gone_on (walked path) o ≡ reached_at j o >>= went_on path
    from None = refl
    from (Some x) = refl

    by : (r : Result (Option ℕ) ℕ) → r >>= stepped (walked path) ty v ≡ (r >>= reached_from (step.Id j) ty v) >>= went_on path
    by (Err c) = refl
    by (Ok None) = refl
    by (Ok (Some i)) = from (part_at i ty v)

-- ---- by any step that leads to a part
pub record Went (s : Step) (ty : Ty) (v : Value) (x : Part) : Type 0 where
  pub at : ℕ
  pub placed : place_in ty v s ≡ Ok (Some at)
  pub named : id_of s at v ≡ Ok x.0
  pub part : part_at at ty v ≡ Some (x.1, x.2)

pub went : (s : Step) (ty : Ty) (v : Value) (x : Part) → reached s ty v ≡ Ok x → Went s ty v x
went s ty v x e = by (place_in ty v s) refl e
  where
    last : (i : ℕ) → place_in ty v s ≡ Ok (Some i) → (n : ℕ) → id_of s i v ≡ Ok n → (o : Option (Ty × Value)) → part_at i ty v ≡ o → reached_at n o ≡ Ok x → Went s ty v x
    last i p n q None t e = no_ok invalid_path x e
    last i p n q (Some y) t e =
        let k : (n, y.0, y.1) ≡ x = ok_same (n, y.0, y.1) x e in
        record { at = i; placed = p; named = q ∙ ap (λ (z : Part). Ok z.0) k; part = t ∙ ap (λ (z : Part). Some (z.1, z.2)) k }

    next : (i : ℕ) → place_in ty v s ≡ Ok (Some i) → (q : Result ℕ ℕ) → id_of s i v ≡ q → (q >>= λ id. reached_at id (part_at i ty v)) ≡ Ok x → Went s ty v x
    next i p (Err c) q e = no_ok c x e
    next i p (Ok n) q e = last i p n q (part_at i ty v) refl e

    by : (r : Result (Option ℕ) ℕ) → place_in ty v s ≡ r → r >>= reached_from s ty v ≡ Ok x → Went s ty v x
    by (Err c) p e = no_ok c x e
    by (Ok None) p e = no_ok not_found x e
    by (Ok (Some i)) p e = next i p (id_of s i v) refl e

pub reached_by : (s : Step) (ty : Ty) (v : Value) (x : Part) → Went s ty v x → reached s ty v ≡ Ok x
reached_by s ty v x w =
    ap (λ (r : Result (Option ℕ) ℕ). r >>= reached_from s ty v) w.placed
    ∙ ap (λ (r : Result ℕ ℕ). r >>= λ id. reached_at id (part_at w.at ty v)) w.named ∙ ap (reached_at x.0) w.part

pub walked_by : (s : Step) (path : List Step) (ty : Ty) (v : Value) (x : Part) → Went s ty v x → walked (s ∷ path) ty v ≡ walked path x.1 x.2
walked_by s path ty v x w =
    ap (λ (r : Result (Option ℕ) ℕ). r >>= stepped (walked path) ty v) w.placed ∙ ap (gone_on (walked path)) w.part

pub place_by : (s : Step) (path : List Step) (ty : Ty) (v : Value) (x : Part) → Went s ty v x → place (s ∷ path) ty v ≡ behind x.0 (place path x.1 x.2)
place_by s path ty v x w =
    ap (λ (r : Result (Option ℕ) ℕ). r >>= place_from (place path) path s ty v) w.placed
    ∙ ap (λ (r : Result ℕ ℕ). r >>= λ id. place_behind (place path) id (part_at w.at ty v)) w.named ∙ ap (place_behind (place path) x.0) w.part

-- a path that leads somewhere, after its first step
pub record Led (s : Step) (path : List Step) (ty : Ty) (v : Value) (id : ℕ) (ids : List ℕ) (y : Ty × Value) : Type 0 where
  pub part : Part
  pub went : Went s ty v part
  pub named : part.0 ≡ id
  pub place : place path part.1 part.2 ≡ Ok ids
  pub walked : walked path part.1 part.2 ≡ Ok y

pub behind_is : (n id : ℕ) (r : Result (List ℕ) ℕ) (ids : List ℕ) → behind n r ≡ Ok (id ∷ ids) → (n ≡ id) × (r ≡ Ok ids)
behind_is n id (Err c) ids e = no_ok c (id ∷ ids) e
behind_is n id (Ok js) ids e =
    let k : ◌≡◌ {A = List ℕ} (n ∷ js) (id ∷ ids) = ok_same (n ∷ js) (id ∷ ids) e in
    let m : js ≡ ids = cc in (cc, ap (λ (l : List ℕ). Ok l) m)

pub led : (s : Step) (path : List Step) (ty : Ty) (v : Value) (id : ℕ) (ids : List ℕ) (y : Ty × Value) → place (s ∷ path) ty v ≡ Ok (id ∷ ids) → walked (s ∷ path) ty v ≡ Ok y → Led s path ty v id ids y
led s path ty v id ids y e w = by (place_in ty v s) refl e w
  where
    last : (i : ℕ) → place_in ty v s ≡ Ok (Some i) → (n : ℕ) → id_of s i v ≡ Ok n → (o : Option (Ty × Value)) → part_at i ty v ≡ o
        → place_behind (place path) n o ≡ Ok (id ∷ ids) → gone_on (walked path) o ≡ Ok y → Led s path ty v id ids y
    last i p n q None t e w = no_ok invalid_path y w
    last i p n q (Some x) t e w =
        let k : (n ≡ id) × (place path x.0 x.1 ≡ Ok ids) = behind_is n id (place path x.0 x.1) ids e in
        record { part = (n, x.0, x.1); went = record { at = i; placed = p; named = q; part = t }; named = k.0; place = k.1; walked = w }

    next : (i : ℕ) → place_in ty v s ≡ Ok (Some i) → (q : Result ℕ ℕ) → id_of s i v ≡ q → (q >>= λ n. place_behind (place path) n (part_at i ty v)) ≡ Ok (id ∷ ids)
        → gone_on (walked path) (part_at i ty v) ≡ Ok y → Led s path ty v id ids y
    next i p (Err c) q e w = no_ok c (id ∷ ids) e
    next i p (Ok n) q e w = last i p n q (part_at i ty v) refl e w

    by : (r : Result (Option ℕ) ℕ) → place_in ty v s ≡ r → r >>= place_from (place path) path s ty v ≡ Ok (id ∷ ids) → r >>= stepped (walked path) ty v ≡ Ok y → Led s path ty v id ids y
    by (Err c) p e w = no_ok c y w
    by (Ok None) p e w = no_ok not_found y w
    by (Ok (Some i)) p e w = next i p (id_of s i v) refl e w

pub placed_behind : (s : Step) (path : List Step) (ty : Ty) (v : Value) (x : Part) (id : ℕ) (ids : List ℕ) (y : Ty × Value) → Went s ty v x → x.0 ≡ id → place path x.1 x.2 ≡ Ok ids → walked path x.1 x.2 ≡ Ok y
    → (place (s ∷ path) ty v ≡ Ok (id ∷ ids)) × (walked (s ∷ path) ty v ≡ Ok y)
placed_behind s path ty v x id ids y w n p e =
    (place_by s path ty v x w ∙ ap (behind x.0) p ∙ ap (λ (k : ℕ). Ok (k ∷ ids)) n, walked_by s path ty v x w ∙ e)

-- ---- from a struct
abbrev pub called : ℕ → Field → Bool
called id f = field_id f == id

module _ (ty : Ty) (fields : List Field) (struct : out-Ty ty ≡ Ty-F.Struct fields) where
  pub struct_place : (v : Value) (j : ℕ) → place_in ty v (step.Id j) ≡ or_code no_component (option_map Some (position (called j) fields))
  unfolding place_in
  struct_place v j = ap (λ l. place_layer l v (step.Id j)) struct

  pub struct_key : (v : Value) (id : ℕ) (bytes : List ℕ) → place_in ty v (step.Key id bytes) ≡ Err invalid_path
  unfolding place_in
  struct_key v id bytes = ap (λ l. place_layer l v (step.Key id bytes)) struct

  pub struct_part : (v : Value) (i : ℕ) → part_at i ty v ≡ paired (option_map field_ty (slice_get fields i)) (child i v)
  struct_part v i = ap (λ l. paired (part_layer i l) (child i v)) struct

-- ---- from an array
child_entry : (l : Value-F Value) (i : ℕ) (e : Entry) → slice_get (entries_layer l) i ≡ Some e → child_layer i l ≡ Some e.1
child_entry (Value-F.Truth t) i e g = no_some e g
child_entry (Value-F.Number z) i e g = no_some e g
child_entry (Value-F.Text t) i e g = no_some e g
child_entry (Value-F.Raw bs) i e g = no_some e g
child_entry (Value-F.Group vs) i e g = no_some e g
child_entry (Value-F.Table es) i e g = ap (option_map (λ (e : Entry). e.1)) g

abbrev pub key_of : List Field → KeyDecl → List ℕ → Entry → Bool
key_of fields key k e = bytes_eq (key_value fields key e.1) k

abbrev pub numbered : ℕ → KeyDecl → Bool
numbered id key = key.id == id

module _ (ty entry : Ty) (limit : ℕ) (keys : List KeyDecl) (array : out-Ty ty ≡ Ty-F.Array entry limit keys) where
  pub array_part : (v : Value) (i : ℕ) (e : Entry) → slice_get (entries_of v) i ≡ Some e → part_at i ty v ≡ Some (entry, e.1)
  array_part v i e g = ap (λ l. paired (part_layer i l) (child i v)) array ∙ ap (paired (Some entry)) (child_entry (out-Value v) i e g)

  pub array_place : (v : Value) (j : ℕ) → place_in ty v (step.Id j) ≡ Ok (position (has j) (entries_of v))
  unfolding place_in
  array_place v j = ap (λ l. place_layer l v (step.Id j)) array

  pub array_key : (v : Value) (id : ℕ) (bytes : List ℕ) → place_in ty v (step.Key id bytes) ≡ by_key (fields_of entry) (entries_of v) (find (numbered id) keys) bytes
  unfolding place_in
  array_key v id bytes = ap (λ l. place_layer l v (step.Key id bytes)) array

  abbrev pub one_entry : ℕ → Option Entry → Result Part ℕ
  one_entry j None = Err not_found
  one_entry j (Some e) = Ok (j, entry, e.1)

  pub by_subscript : (v : Value) (j : ℕ) → reached (step.Id j) ty v ≡ one_entry j (find (has j) (entries_of v))
  by_subscript v j = ap (λ (r : Result (Option ℕ) ℕ). r >>= reached_from (step.Id j) ty v) (array_place v j) ∙ by (position (has j) (entries_of v)) refl
    where
      by : (o : Option ℕ) → position (has j) (entries_of v) ≡ o → reached_from (step.Id j) ty v o ≡ one_entry j (find (has j) (entries_of v))
      by None e = ap (one_entry j) (sym (ap (option_and_then (slice_get (entries_of v))) e) ∙ found_at (has j) (entries_of v))
      by (Some i) e =
          let f : Found (has j) (entries_of v) i = found (has j) (entries_of v) i e in
          ap (reached_at j) (array_part v i f.item f.got)
          ∙ ap (one_entry j) (sym f.got ∙ sym (ap (option_and_then (slice_get (entries_of v))) e) ∙ found_at (has j) (entries_of v))

  abbrev pub key_entry : Option Entry → Result Part ℕ
  key_entry None = Err not_found
  key_entry (Some e) = Ok (e.0, entry, e.1)

  abbrev pub by_key_bytes : Entries → KeyDecl → Result (List ℕ) ℕ → Result Part ℕ
  by_key_bytes es key r = r >>= λ k. key_entry (find (key_of (fields_of entry) key k) es)

  abbrev pub by_some_key : Entries → List ℕ → Option KeyDecl → Result Part ℕ
  by_some_key es bytes None = Err invalid_path
  by_some_key es bytes (Some key) = by_key_bytes es key (key_in (fields_of entry) key.fields bytes)

  pub by_its_key : (v : Value) (id : ℕ) (bytes : List ℕ) → reached (step.Key id bytes) ty v ≡ by_some_key (entries_of v) bytes (find (numbered id) keys)
  by_its_key v id bytes = ap (λ (r : Result (Option ℕ) ℕ). r >>= reached_from (step.Key id bytes) ty v) (array_key v id bytes) ∙ by (find (numbered id) keys)
    where
      last : (key : KeyDecl) (k : List ℕ) (o : Option ℕ) → position (key_of (fields_of entry) key k) (entries_of v) ≡ o
          → or_code not_found (option_map Some o) >>= reached_from (step.Key id bytes) ty v ≡ key_entry (find (key_of (fields_of entry) key k) (entries_of v))
      last key k None e = ap key_entry (sym (ap (option_and_then (slice_get (entries_of v))) e) ∙ found_at (key_of (fields_of entry) key k) (entries_of v))
      last key k (Some i) e =
          let f : Found (key_of (fields_of entry) key k) (entries_of v) i = found (key_of (fields_of entry) key k) (entries_of v) i e in
          ap (λ (o : Option Entry). or_code invalid_path (option_map (λ (e : Entry). e.0) o) >>= λ n. reached_at n (part_at i ty v)) f.got
          ∙ ap (reached_at f.item.0) (array_part v i f.item f.got)
          ∙ ap key_entry (sym f.got ∙ sym (ap (option_and_then (slice_get (entries_of v))) e) ∙ found_at (key_of (fields_of entry) key k) (entries_of v))

      next : (key : KeyDecl) (r : Result (List ℕ) ℕ)
          → (r >>= λ k. or_code not_found (option_map Some (position (key_of (fields_of entry) key k) (entries_of v)))) >>= reached_from (step.Key id bytes) ty v ≡ by_key_bytes (entries_of v) key r
      next key (Err c) = refl
      next key (Ok k) = last key k (position (key_of (fields_of entry) key k) (entries_of v)) refl

      by : (o : Option KeyDecl) → by_key (fields_of entry) (entries_of v) o bytes >>= reached_from (step.Key id bytes) ty v ≡ by_some_key (entries_of v) bytes o
      by None = refl
      by (Some key) = next key (key_in (fields_of entry) key.fields bytes)
