-- What the rules of a library say of the types of its components, one level at a time.
use Rattle.std.proofs.Common.{◌≡◌, refl, sym, ap, ◌∙◌, arith, ℕ, zero, suc, Bool, true, ◌&&◌, List, [], ◌∷◌}
use Rattle.std.specs.List.{AllByRecursion, list_all}
use Rattle.fc_types.proofs.Bools.{both}
use Rattle.fc_types.specs.Classes.{class_keeps, each_type, type_is_ranged, ids_differ}
use Rattle.fc_types.specs.Components.{ComponentDecl}
use Rattle.fc_types.specs.Libraries.{IsLibrary}
use Rattle.fc_types.specs.Sound.{IsSound, IsSoundInside, SoundLayer}
use Rattle.fc_types.specs.Types.{nests, nests_layer, throughout, inside, field_ty, own_ids, own_range, own_keys, fits_inside, has_distinct_ids, is_in_range, has_atomic_keys}
use Rattle.fc_types.specs.declared.class.Class.{Class}
use Rattle.fc_types.specs.declared.class_rules.ClassRule.TheVariants.{Shallow, DistinctIds, Ranges, AtomicKeys}
use Rattle.fc_types.specs.declared.ty.Field.{Field}
use Rattle.fc_types.specs.declared.ty.Ty.{Ty}
use Rattle.fc_types.specs.declared.ty.Ty.TheOpen.{Ty-F}
use Rattle.fc_types.specs.declared.ty.Ty.TheViews.{out-Ty}
use Rattle.fc_types.proofs.Inside.{inside_law, inside_layer}
use Rattle.fc_types.proofs.Nests.{nests_more}

-- a weaker test passes wherever a stronger one does
all_weaker : (p q : Ty → Bool) → ((ty : Ty) → p ty ≡ true → q ty ≡ true) → (fields : List Field)
    → list_all (λ f. p (field_ty f)) fields ≡ true → list_all (λ f. q (field_ty f)) fields ≡ true
all_weaker p q weaker [] e = refl
all_weaker p q weaker (f ∷ fields) e =
    let parts : (p (field_ty f) ≡ true) × (list_all (λ f. p (field_ty f)) fields ≡ true) = both _ _ e in
    rw (weaker (field_ty f) parts.0) (all_weaker p q weaker fields parts.1)

layer_weaker : (p q : Ty → Bool) → ((ty : Ty) → p ty ≡ true → q ty ≡ true) → (l : Ty-F Ty Field) → nests_layer p l ≡ true → nests_layer q l ≡ true
layer_weaker p q weaker Ty-F.Bool e = refl
layer_weaker p q weaker (Ty-F.Number b s min max) e = refl
layer_weaker p q weaker (Ty-F.String length) e = refl
layer_weaker p q weaker (Ty-F.Octets length) e = refl
layer_weaker p q weaker (Ty-F.Bytes length) e = refl
layer_weaker p q weaker (Ty-F.Struct fields) e = all_weaker p q weaker fields e
layer_weaker p q weaker (Ty-F.Array entry entries keys) e = weaker entry e

-- what nests at most so deep nests at most one deeper
one_deeper : (levels : ℕ) (ty : Ty) → nests levels ty ≡ true → nests (suc levels) ty ≡ true
unfolding nests
one_deeper zero ty e = absurd (cc)
one_deeper (suc levels) ty e = layer_weaker (nests levels) (nests (suc levels)) (one_deeper levels) (out-Ty ty) e

-- a type that keeps the rules from its first level on
sound_inside : (ty : Ty) → nests 7 ty ≡ true → throughout has_distinct_ids ty ≡ true → throughout is_in_range ty ≡ true → throughout fits_inside ty ≡ true
    → throughout has_atomic_keys ty ≡ true → IsSoundInside ty
sound_inside ty deep ids ranged fits keys =
    let f : (fits_inside ty ≡ true) × (inside fits_inside ty ≡ true) = both _ _ fits in
    record { sound = record { shallow = one_deeper 7 ty deep; ids = ids; ranged = ranged; fits = f.1; keys = keys }; fit = f.0 }

sound_fields : (fields : List Field) → list_all (λ f. nests 7 (field_ty f)) fields ≡ true
    → list_all (λ f. throughout has_distinct_ids (field_ty f)) fields ≡ true → list_all (λ f. throughout is_in_range (field_ty f)) fields ≡ true
    → list_all (λ f. throughout fits_inside (field_ty f)) fields ≡ true → list_all (λ f. throughout has_atomic_keys (field_ty f)) fields ≡ true
    → AllByRecursion (λ f. IsSoundInside (field_ty f)) fields
sound_fields [] deep ids ranged fits keys = tt
sound_fields (f ∷ fields) deep ids ranged fits keys =
    let d : (nests 7 (field_ty f) ≡ true) × (list_all (λ f. nests 7 (field_ty f)) fields ≡ true) = both _ _ deep in
    let i : (throughout has_distinct_ids (field_ty f) ≡ true) × (list_all (λ f. throughout has_distinct_ids (field_ty f)) fields ≡ true) = both _ _ ids in
    let r : (throughout is_in_range (field_ty f) ≡ true) × (list_all (λ f. throughout is_in_range (field_ty f)) fields ≡ true) = both _ _ ranged in
    let t : (throughout fits_inside (field_ty f) ≡ true) × (list_all (λ f. throughout fits_inside (field_ty f)) fields ≡ true) = both _ _ fits in
    let k : (throughout has_atomic_keys (field_ty f) ≡ true) × (list_all (λ f. throughout has_atomic_keys (field_ty f)) fields ≡ true) = both _ _ keys in
    (sound_inside (field_ty f) d.0 i.0 r.0 t.0 k.0, sound_fields fields d.1 i.1 r.1 t.1 k.1)

layer_is_sound : (l : Ty-F Ty Field) → nests_layer (nests 7) l ≡ true → (own_ids l && inside_layer has_distinct_ids l) ≡ true
    → (own_range l && inside_layer is_in_range l) ≡ true → inside_layer fits_inside l ≡ true → (own_keys l && inside_layer has_atomic_keys l) ≡ true → SoundLayer l
layer_is_sound Ty-F.Bool deep ids ranged fits keys = tt
layer_is_sound (Ty-F.Number b s min max) deep ids ranged fits keys = let r : (_ ≡ true) × (_ ≡ true) = both _ _ ranged in r.0
layer_is_sound (Ty-F.String length) deep ids ranged fits keys = let r : (_ ≡ true) × (_ ≡ true) = both _ _ ranged in r.0
layer_is_sound (Ty-F.Octets length) deep ids ranged fits keys = let r : (_ ≡ true) × (_ ≡ true) = both _ _ ranged in r.0
layer_is_sound (Ty-F.Bytes length) deep ids ranged fits keys = let r : (_ ≡ true) × (_ ≡ true) = both _ _ ranged in r.0
layer_is_sound (Ty-F.Struct fields) deep ids ranged fits keys =
    let i : (own_ids (Ty-F.Struct fields) ≡ true) × (list_all (λ f. throughout has_distinct_ids (field_ty f)) fields ≡ true) = both _ _ ids in
    record { ids = i.0; each = sound_fields fields deep i.1 ranged fits keys }
layer_is_sound (Ty-F.Array entry entries keys) deep ids ranged fits made =
    let i : (own_ids (Ty-F.Array entry entries keys) ≡ true) × (throughout has_distinct_ids entry ≡ true) = both _ _ ids in
    let r : (own_range (Ty-F.Array entry entries keys) ≡ true) × (throughout is_in_range entry ≡ true) = both _ _ ranged in
    let k : (own_keys (Ty-F.Array entry entries keys) ≡ true) × (throughout has_atomic_keys entry ≡ true) = both _ _ made in
    record { inner = sound_inside entry deep i.1 r.1 fits k.1; count = r.0; ids = i.0; made = k.0 }

-- a rule that holds throughout a type, at its first level
first_level : (test : Ty → Bool) (ty : Ty) → throughout test ty ≡ true → (test ty && inside_layer test (out-Ty ty)) ≡ true
first_level test ty e = ap (λ b. test ty && b) (sym (inside_law test ty)) ∙ e

pub level_is_sound : (ty : Ty) → IsSound ty → SoundLayer (out-Ty ty)
level_is_sound ty s =
    layer_is_sound (out-Ty ty) (sym (nests_more 8 ty (out-Ty ty) (λ e. omega (arith, e)) refl) ∙ s.shallow)
    (first_level has_distinct_ids ty s.ids) (first_level is_in_range ty s.ranged) (sym (inside_law fits_inside ty) ∙ s.fits) (first_level has_atomic_keys ty s.keys)

components_sound : (xs : List ComponentDecl) → list_all (λ (x : ComponentDecl). nests 8 x.ty) xs ≡ true
    → list_all (λ (x : ComponentDecl). throughout has_distinct_ids x.ty) xs ≡ true → list_all (λ (x : ComponentDecl). type_is_ranged x.ty) xs ≡ true
    → list_all (λ (x : ComponentDecl). throughout has_atomic_keys x.ty) xs ≡ true → AllByRecursion (λ x. IsSound x.ty) xs
components_sound [] deep ids ranged keys = tt
components_sound (x ∷ xs) deep ids ranged keys =
    let d : (nests 8 x.ty ≡ true) × (list_all (λ (x : ComponentDecl). nests 8 x.ty) xs ≡ true) = both _ _ deep in
    let i : (throughout has_distinct_ids x.ty ≡ true) × (list_all (λ (x : ComponentDecl). throughout has_distinct_ids x.ty) xs ≡ true) = both _ _ ids in
    let r : (type_is_ranged x.ty ≡ true) × (list_all (λ (x : ComponentDecl). type_is_ranged x.ty) xs ≡ true) = both _ _ ranged in
    let own : (throughout is_in_range x.ty ≡ true) × (inside fits_inside x.ty ≡ true) = both _ _ r.0 in
    let k : (throughout has_atomic_keys x.ty ≡ true) × (list_all (λ (x : ComponentDecl). throughout has_atomic_keys x.ty) xs ≡ true) = both _ _ keys in
    (record { shallow = d.0; ids = i.0; ranged = own.0; fits = own.1; keys = k.0 }, components_sound xs d.1 i.1 r.1 k.1)

classes_sound : (classes : List Class) → list_all (class_keeps Shallow) classes ≡ true → list_all (class_keeps DistinctIds) classes ≡ true
    → list_all (class_keeps Ranges) classes ≡ true → list_all (class_keeps AtomicKeys) classes ≡ true
    → AllByRecursion (λ (class : Class). AllByRecursion (λ (x : ComponentDecl). IsSound x.ty) class.components) classes
classes_sound [] deep ids ranged keys = tt
classes_sound (c ∷ classes) deep ids ranged keys =
    let d : (class_keeps Shallow c ≡ true) × (list_all (class_keeps Shallow) classes ≡ true) = both _ _ deep in
    let i : (ids_differ c ≡ true) × (list_all (class_keeps DistinctIds) classes ≡ true) = both _ _ ids in
    let own : (_ ≡ true) × (each_type (throughout has_distinct_ids) c ≡ true) = both _ _ i.0 in
    let r : (class_keeps Ranges c ≡ true) × (list_all (class_keeps Ranges) classes ≡ true) = both _ _ ranged in
    let k : (class_keeps AtomicKeys c ≡ true) × (list_all (class_keeps AtomicKeys) classes ≡ true) = both _ _ keys in
    (components_sound c.components d.0 own.1 r.0 k.0, classes_sound classes d.1 i.1 r.1 k.1)

pub components_are_sound : (classes : List Class) → IsLibrary classes
    → AllByRecursion (λ (class : Class). AllByRecursion (λ (x : ComponentDecl). IsSound x.ty) class.components) classes
components_are_sound classes l = classes_sound classes (l.kept Shallow) (l.kept DistinctIds) (l.kept Ranges) (l.kept AtomicKeys)
