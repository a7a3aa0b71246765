-- The sparse form is read as its changes, and what is read is spelled so.
use Rattle.std.proofs.Common.{◌≡◌, ℕ, ◌==◌, Bool, true, false, cond, List, [], ◌∷◌, ◌++◌, append_assoc, append-nil, option_map, find, Option, Some, None, Result, Ok, Err, IfOk, refl, sym, ap, ◌∙◌, subst}
use Rattle.std.specs.List.{AllByRecursion}
use Rattle.fc_base.specs.declared.faults.OpFault.{OpFault}
use Rattle.fc_types.specs.Sound.{IsSound, IsSoundInside, SoundLayer}
use Rattle.fc_types.specs.Types.{is_atom, field_id, field_ty}
use Rattle.fc_types.specs.declared.ty.Field.{Field}
use Rattle.fc_types.specs.declared.ty.Ty.{Ty}
use Rattle.fc_types.specs.declared.ty.Ty.TheOpen.{Ty-F}
use Rattle.fc_types.specs.declared.ty.Ty.TheViews.{out-Ty}
use Rattle.fc_types.proofs.Sounds.{level_is_sound}
use Rattle.fc_wire.specs.declared.ilvs.Ilv.{Ilv}
use Rattle.fc_base.specs.Answers.{◌>>=◌}
use Rattle.fc_value.specs.Outcomes.{Gives}
use Rattle.fc_value.specs.Reading.{full_in}
use Rattle.fc_value.specs.Sparse.{part_layer, part_of, value_of, is_named, change_in, changes_in, sparse_in}
use Rattle.fc_value.specs.SparseForm.{HoldBytes, AreChanges, IsSparse}
use Rattle.fc_value.specs.declared.value.Value.{Value}
use Rattle.fc_value.proofs.Complete.{full_read}
use Rattle.fc_value.proofs.Conditions.{else_is}
use Rattle.fc_value.proofs.Shrinking.{never, ok_same, bind_ok, else_ok}
use Rattle.fc_value.proofs.Sound.{full_took}

-- the type of a part is sound
field_sound : (fields : List Field) (id : ℕ) (part : Ty) → AllByRecursion (λ f. IsSoundInside (field_ty f)) fields → option_map field_ty (find (λ f. field_id f == id) fields) ≡ Some part → IsSound part
field_sound [] id part all e = cc
field_sound (f ∷ fields) id part all e = by_test (field_id f == id) (field_sound fields id part all.1) e
  where
    some_same : (x y : Ty) → ◌≡◌ {A = Option Ty} (Some x) (Some y) → x ≡ y
    some_same x y k = cc

    by_test : (b : Bool) → (option_map field_ty (find (λ g. field_id g == id) fields) ≡ Some part → IsSound part)
        → option_map field_ty (cond b (Some f) (find (λ g. field_id g == id) fields)) ≡ Some part → IsSound part
    by_test true later h = subst IsSound (some_same (field_ty f) part h) all.0.sound
    by_test false later h = later h

layer_part : (l : Ty-F Ty Field) (id : ℕ) (part : Ty) → SoundLayer l → part_layer l id ≡ Some part → IsSound part
layer_part Ty-F.Bool id part s e = cc
layer_part (Ty-F.Number w g min max) id part s e = cc
layer_part (Ty-F.String n) id part s e = cc
layer_part (Ty-F.Octets n) id part s e = cc
layer_part (Ty-F.Bytes n) id part s e = cc
layer_part (Ty-F.Struct fields) id part s e = field_sound fields id part s.each e
layer_part (Ty-F.Array entry limit keys) id part s e = subst IsSound (some_same entry part e) s.inner.sound
  where
    some_same : (x y : Ty) → ◌≡◌ {A = Option Ty} (Some x) (Some y) → x ≡ y
    some_same x y k = cc

part_sound : (ty : Ty) (id : ℕ) (part : Ty) → IsSound ty → part_of ty id ≡ Some part → IsSound part
part_sound ty id part s e = layer_part (out-Ty ty) id part (level_is_sound ty s) e

value_found : (o : Option Ty) (bytes : List ℕ) (v : Value) → value_of o bytes ≡ Ok v → (part : Ty) × (o ≡ Some part) × (full_in part bytes ≡ Ok v)
value_found None bytes v e = never _ v e
value_found (Some part) bytes v e = (part, refl, e)

-- the changes before, and those that the ILVs tell
changes_are : (ty : Ty) (ilvs : List Ilv) (before cs : List (ℕ × Value)) → IsSound ty → HoldBytes ilvs → changes_in ty before ilvs ≡ Ok cs
    → (more : List (ℕ × Value)) × (cs ≡ before ++ more) × AreChanges ty before ilvs more
changes_are ty [] before cs s fine e = ([], sym (ok_same before cs e) ∙ sym (append-nil before), tt)
changes_are ty (ilv ∷ ilvs) before cs s fine e =
    let p : (v : Value) × (change_in ty before ilv ≡ Ok v) × (changes_in ty (before ++ (ilv.ident, v) ∷ []) ilvs ≡ Ok cs) =
    bind_ok (change_in ty before ilv) (λ v. changes_in ty (before ++ (ilv.ident, v) ∷ []) ilvs) cs e in
    let q : (is_named before ilv.ident ≡ false) × (value_of (part_of ty ilv.ident) ilv.value ≡ Ok p.0) = else_ok _ _ _ _ p.1 in
    let f = value_found (part_of ty ilv.ident) ilv.value p.0 q.1 in
    let more = changes_are ty ilvs (before ++ (ilv.ident, p.0) ∷ []) cs s fine.1 p.2 in (
      (ilv.ident, p.0) ∷ more.0,
      more.1 ∙ append_assoc before ((ilv.ident, p.0) ∷ []) more.0,
      ((f.0, f.1, refl, q.0, full_took f.0 p.0 ilv.value (part_sound ty ilv.ident f.0 s f.1) fine.0 f.2), more.2),
    )

changes_read : (ty : Ty) (ilvs : List Ilv) (before cs : List (ℕ × Value)) → AreChanges ty before ilvs cs → changes_in ty before ilvs ≡ Ok (before ++ cs)
changes_read ty [] before [] h = ap (λ l. Ok l) (sym (append-nil before))
changes_read ty [] before (c ∷ cs) h = absurd h
changes_read ty (ilv ∷ ilvs) before [] h = absurd h
changes_read ty (ilv ∷ ilvs) before (c ∷ cs) h =
    let k = h.0 in
    let found : change_in ty before ilv ≡ Ok c.1 =
    else_is (is_named before ilv.ident) _ _ k.3 ∙ ap (λ o. value_of o ilv.value) k.1 ∙ full_read k.0 c.1 ilv.value k.4 in
    ap (λ r. r >>= next) found ∙ ap (λ i. changes_in ty (before ++ (i, c.1) ∷ []) ilvs) (sym k.2)
    ∙ changes_read ty ilvs (before ++ c ∷ []) cs h.1 ∙ ap (λ l. Ok l) (append_assoc before (c ∷ []) cs)
  where
    next : Value → Result (List (ℕ × Value)) ℕ
    next v = changes_in ty (before ++ (ilv.ident, v) ∷ []) ilvs

sparse_took : (ty : Ty) (ilvs : List Ilv) (cs : List (ℕ × Value)) → IsSound ty → HoldBytes ilvs → sparse_in ty ilvs ≡ Ok cs → IsSparse ty ilvs cs
unfolding sparse_in
sparse_took ty ilvs cs s fine e =
    let p : (is_atom ty ≡ false) × (changes_in ty [] ilvs ≡ Ok cs) = else_ok _ _ _ _ e in
    let c = changes_are ty ilvs [] cs s fine p.1 in
    (p.0, subst (AreChanges ty [] ilvs) (sym c.1) c.2)

pub sparse_read : (ty : Ty) (ilvs : List Ilv) (cs : List (ℕ × Value)) → IsSparse ty ilvs cs → sparse_in ty ilvs ≡ Ok cs
unfolding sparse_in
sparse_read ty ilvs cs h = else_is (is_atom ty) _ _ h.0 ∙ changes_read ty ilvs [] cs h.1

pub changes_of : (result : Result (List (ℕ × Value)) OpFault) (ty : Ty) (ilvs : List Ilv) → IsSound ty → HoldBytes ilvs → Gives (λ cs. cs) result (sparse_in ty ilvs)
    → IfOk result (λ cs. IsSparse ty ilvs cs)
changes_of (Ok cs) ty ilvs s fine h = sparse_took ty ilvs cs s fine h
changes_of (Err fault) ty ilvs s fine h = tt
