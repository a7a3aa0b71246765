-- Where the first step leads from a component whose entries are kept apart.
use Rattle.std.proofs.Common.{◌≡◌, ℕ, List, ◌∷◌, position, sym, ap, subst, ◌∙◌, Option, Some, None, Result, Ok, Err}
use Rattle.std.specs.FinMap.{entries, get, get-entries}
use Rattle.fc_base.specs.Answers.{◌>>=◌}
use Rattle.fc_base.specs.declared.faults.OpFault.{OpFault}
use Rattle.fc_path.specs.declared.oper.Step.{Step}
use Rattle.fc_path.specs.declared.oper.Step.TheVariants as step
use Rattle.fc_rows.specs.Rowed.{RowMap, Seen, Shape}
use Rattle.fc_rows.proofs.Standing.{Entries, Stood, has, stood, stood_nowhere}
use Rattle.fc_tree.specs.Finding.{from_array, gone_on, not_found, place_in, place_layer, stepped, walked}
use Rattle.fc_tree.proofs.Positions.{position_found, position_none}
use Rattle.fc_types.specs.Types.{fields_of}
use Rattle.fc_types.specs.declared.ty.Field.{Field}
use Rattle.fc_types.specs.declared.ty.KeyDecl.{KeyDecl}
use Rattle.fc_types.specs.declared.ty.Ty.{Ty}
use Rattle.fc_types.specs.declared.ty.Ty.TheOpen.{Ty-F}
use Rattle.fc_types.specs.declared.ty.Ty.TheViews.{out-Ty}
use Rattle.fc_value.specs.Outcomes.{Fails}
use Rattle.fc_value.specs.declared.value.Value.{Value}
use Rattle.fc_value.specs.declared.value.Value.TheVariants as value
use Rattle.fc_instance.specs.Cells.{IsShaped, seen_at, shape_layer, shape_of, valued}
use Rattle.fc_instance.specs.Histories.{Cell}
use Rattle.fc_instance.specs.Leading.{Leads, Reached, array_layer, array_of, first_place}
use Rattle.fc_instance.proofs.Bridge.{entries_again, part_there}
use Rattle.fc_instance.proofs.Failing.{failed_on}

pub array_is : (l : Ty-F Ty Field) (entry : Ty) (limit : ℕ) (keys : List KeyDecl) → ◌≡◌ {A = Option (Ty × ℕ × List KeyDecl)} (Some (entry, limit, keys)) (array_layer l) → l ≡ Ty-F.Array entry limit keys
array_is Ty-F.Bool entry limit keys e = cc
array_is (Ty-F.Number width signed min max) entry limit keys e = cc
array_is (Ty-F.String length) entry limit keys e = cc
array_is (Ty-F.Octets length) entry limit keys e = cc
array_is (Ty-F.Bytes length) entry limit keys e = cc
array_is (Ty-F.Struct fields) entry limit keys e = cc
array_is (Ty-F.Array other most ks) entry limit keys e =
    let q : ◌≡◌ {A = Ty × ℕ × List KeyDecl} (entry, limit, keys) (other, most, ks) = cc e in
    λ i. Ty-F.Array (sym q i).0 (sym q i).1 (sym q i).2

-- the shape of entries that are kept apart is that of the type
pub shape_is : (ty entry : Ty) (limit : ℕ) (keys : List KeyDecl) (shape : Shape) → ◌≡◌ {A = Option (Ty × ℕ × List KeyDecl)} (Some (entry, limit, keys)) (array_of ty) → shape_of ty ≡ Some shape → shape ≡ (fields_of entry, keys)
shape_is ty entry limit keys shape e h =
    let q : ◌≡◌ {A = Option Shape} (Some shape) (Some (fields_of entry, keys)) = sym h ∙ ap shape_layer (array_is (out-Ty ty) entry limit keys e) in
    cc q

pub shape_at : (ty entry : Ty) (limit : ℕ) (keys ks : List KeyDecl) (fields : List Field) (cell : Option (Option Cell)) (rows : Seen) → ◌≡◌ {A = Option (Ty × ℕ × List KeyDecl)} (Some (entry, limit, keys)) (array_of ty)
    → fields ≡ fields_of entry → ks ≡ keys → IsShaped ty (seen_at cell) → cell ≡ Some (Some (value.Table (entries rows.0), Some rows.1.1)) → rows.1.1 ≡ (fields, ks)
shape_at ty entry limit keys ks fields cell rows e f k h c =
    shape_is ty entry limit keys rows.1.1 e (subst (λ (x : Option (Option Cell)). IsShaped ty (seen_at x)) c h) ∙ (λ i. (sym f i, sym k i))

place_is : (ty entry : Ty) (limit : ℕ) (keys : List KeyDecl) → out-Ty ty ≡ Ty-F.Array entry limit keys → (m : RowMap) (t : Step) → place_in ty (value.Table (entries m)) t ≡ from_array (fields_of entry) keys (entries m) t
unfolding place_in
place_is ty entry limit keys array m t =
    ap (λ l. place_layer l (value.Table (entries m)) t) array ∙ ap (λ (es : Entries). from_array (fields_of entry) keys es t) (entries_again (entries m))

place_by : (ty entry : Ty) (limit : ℕ) (keys ks : List KeyDecl) (fields : List Field) → ◌≡◌ {A = Option (Ty × ℕ × List KeyDecl)} (Some (entry, limit, keys)) (array_of ty) → fields ≡ fields_of entry → ks ≡ keys
    → (m : RowMap) (t : Step) → place_in ty (value.Table (entries m)) t ≡ from_array fields ks (entries m) t
place_by ty entry limit keys ks fields e f k m t =
    place_is ty entry limit keys (array_is (out-Ty ty) entry limit keys e) m t ∙ ap (λ (p : Shape). from_array p.0 p.1 (entries m) t) (λ i. (sym f i, sym k i))

pub leads_by : (ty entry : Ty) (limit s : ℕ) (keys ks : List KeyDecl) (fields : List Field) (cell : Option (Option Cell)) (rows : Seen) (t : Step) → ◌≡◌ {A = Option (Ty × ℕ × List KeyDecl)} (Some (entry, limit, keys)) (array_of ty)
    → fields ≡ fields_of entry → ks ≡ keys → IsShaped ty (seen_at cell) → cell ≡ Some (Some (value.Table (entries rows.0), Some rows.1.1)) → Reached fields ks rows.0 t (Ok s) → Leads ty t cell entry limit s
leads_by ty entry limit s keys ks fields cell rows t e f k h c r = record {
  keys = keys;
  rows = rows.0;
  array = array_is (out-Ty ty) entry limit keys e;
  kept = c ∙ ap (λ (x : Shape). Some (Some (value.Table (entries rows.0), Some x))) (shape_is ty entry limit keys rows.1.1 e (subst (λ (x : Option (Option Cell)). IsShaped ty (seen_at x)) c h));
  same = place_by ty entry limit keys ks fields e f k rows.0 t ∙ r.0 ∙ sym (place_by ty entry limit keys ks fields e f k rows.0 (step.Id s));
  there = r.1;
}

pub leads_nowhere : (ty entry : Ty) (limit : ℕ) (keys ks : List KeyDecl) (fields : List Field) (cell : Option (Option Cell)) (rows : Seen) (t : Step) (fault : OpFault) → ◌≡◌ {A = Option (Ty × ℕ × List KeyDecl)} (Some (entry, limit, keys)) (array_of ty)
    → fields ≡ fields_of entry → ks ≡ keys → cell ≡ Some (Some (value.Table (entries rows.0), Some rows.1.1)) → Fails fault (from_array fields ks (entries rows.0) t) → Fails fault (first_place t ty (valued (seen_at cell)))
leads_nowhere ty entry limit keys ks fields cell rows t fault e f k c r =
    subst (λ (x : Option (Option Cell)). Fails fault (first_place t ty (valued (seen_at x)))) (sym c) (subst (λ (q : Result (Option ℕ) ℕ). Fails fault q) (sym (place_by ty entry limit keys ks fields e f k rows.0 t)) r)

-- ---- going on from there
pub walks_nowhere : (ty entry : Ty) (limit : ℕ) (keys ks : List KeyDecl) (fields : List Field) (m : RowMap) (t : Step) (ss : List Step) (fault : OpFault) → ◌≡◌ {A = Option (Ty × ℕ × List KeyDecl)} (Some (entry, limit, keys)) (array_of ty)
    → fields ≡ fields_of entry → ks ≡ keys → Fails fault (from_array fields ks (entries m) t) → Fails fault (walked (t ∷ ss) ty (value.Table (entries m)))
walks_nowhere ty entry limit keys ks fields m t ss fault e f k r =
    failed_on fault (place_in ty (value.Table (entries m)) t) (stepped (walked ss) ty (value.Table (entries m)))
    (subst (λ (q : Result (Option ℕ) ℕ). Fails fault q) (sym (place_by ty entry limit keys ks fields e f k m t)) r)

walks_on : (ty entry : Ty) (limit s : ℕ) (keys ks : List KeyDecl) (fields : List Field) (m : RowMap) (t : Step) (ss : List Step) → ◌≡◌ {A = Option (Ty × ℕ × List KeyDecl)} (Some (entry, limit, keys)) (array_of ty)
    → fields ≡ fields_of entry → ks ≡ keys → Reached fields ks m t (Ok s) → walked (t ∷ ss) ty (value.Table (entries m)) ≡ stepped (walked ss) ty (value.Table (entries m)) (position (has s) (entries m))
walks_on ty entry limit s keys ks fields m t ss e f k r =
    ap (λ (q : Result (Option ℕ) ℕ). q >>= stepped (walked ss) ty (value.Table (entries m))) (place_by ty entry limit keys ks fields e f k m t ∙ r.0)

pub walks_missing : (ty entry : Ty) (limit s : ℕ) (keys ks : List KeyDecl) (fields : List Field) (m : RowMap) (t : Step) (ss : List Step) → ◌≡◌ {A = Option (Ty × ℕ × List KeyDecl)} (Some (entry, limit, keys)) (array_of ty)
    → fields ≡ fields_of entry → ks ≡ keys → Reached fields ks m t (Ok s) → get m s ≡ None → walked (t ∷ ss) ty (value.Table (entries m)) ≡ Err not_found
walks_missing ty entry limit s keys ks fields m t ss e f k r g =
    walks_on ty entry limit s keys ks fields m t ss e f k r
    ∙ ap (stepped (walked ss) ty (value.Table (entries m))) (position_none (has s) (entries m) (stood_nowhere s (entries m) (sym (get-entries m s) ∙ g)))

pub walks_there : (ty entry : Ty) (limit s : ℕ) (keys ks : List KeyDecl) (fields : List Field) (m : RowMap) (t : Step) (ss : List Step) (v : Value) → ◌≡◌ {A = Option (Ty × ℕ × List KeyDecl)} (Some (entry, limit, keys)) (array_of ty)
    → fields ≡ fields_of entry → ks ≡ keys → Reached fields ks m t (Ok s) → get m s ≡ Some v → walked (t ∷ ss) ty (value.Table (entries m)) ≡ walked ss entry v
walks_there ty entry limit s keys ks fields m t ss v e f k r g =
    let h : Stood s (entries m) v = stood s (entries m) v (sym (get-entries m s) ∙ g) in
    walks_on ty entry limit s keys ks fields m t ss e f k r
    ∙ ap (stepped (walked ss) ty (value.Table (entries m))) (position_found (has s) (entries m) h.place h.within h.before h.here)
    ∙ ap (gone_on (walked ss)) (part_there ty entry limit keys (array_is (out-Ty ty) entry limit keys e) (entries m) h.place h.entry h.got)
    ∙ ap (walked ss entry) h.is
