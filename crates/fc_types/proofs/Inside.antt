-- What stands inside a type, one level at a time.
use Rattle.std.proofs.Common.{◌≡◌, refl, sym, ap, ap₂, ◌∙◌, ℕ, Bool, true, ◌&&◌, List, [], ◌∷◌, map}
use Rattle.std.specs.List.{list_all}
use Rattle.fc_types.specs.Types.{is_atom, is_atom_layer, inside, inside_step, inside_field, throughout, field_ty}
use Rattle.fc_types.specs.declared.ty.Field.{Field}
use Rattle.fc_types.specs.declared.ty.KeyDecl.{KeyDecl}
use Rattle.fc_types.specs.declared.ty.Ty.{Ty}
use Rattle.fc_types.specs.declared.ty.Ty.TheVariants as v
use Rattle.fc_types.specs.declared.ty.Ty.TheOpen.{Ty-F, Field-F}
use Rattle.fc_types.specs.declared.ty.Ty.TheViews.{out-Ty, roll-Ty, roll-out-Ty, out-Field, roll-Field, roll-out-Field}
use Rattle.fc_types.specs.declared.ty.Ty.TheFolds.{para-Field, para-roll-Ty, para-roll-Field}

-- one level of `inside`
abbrev pub inside_layer : (Ty → Bool) → Ty-F Ty Field → Bool
inside_layer test (Ty-F.Struct fields) = list_all (λ f. throughout test (field_ty f)) fields
inside_layer test (Ty-F.Array entry entries keys) = throughout test entry
inside_layer test _ = true

abbrev at_field : (Ty → Bool) → Field → Bool
at_field test = para-Field Bool Bool (inside_step test) (inside_field test)

-- the field's type and what stands inside it
field_rolled : (test : Ty → Bool) (l : Field-F Ty Field) → at_field test (roll-Field l) ≡ throughout test l.ty
unfolding inside
field_rolled test l = para-roll-Field Bool Bool (inside_step test) (inside_field test) l

field_is : (test : Ty → Bool) (f : Field) → at_field test f ≡ throughout test (field_ty f)
field_is test f = ap (at_field test) (sym (roll-out-Field f)) ∙ field_rolled test (out-Field f)

fields_are : (test : Ty → Bool) (fields : List Field)
    → list_all (λ (x : Field × Bool). x.1) (map (λ y. (y, at_field test y)) fields) ≡ list_all (λ f. throughout test (field_ty f)) fields
fields_are test [] = refl
fields_are test (f ∷ fields) = ap₂ (λ a b. a && b) (field_is test f) (fields_are test fields)

rolled : (test : Ty → Bool) (l : Ty-F Ty Field) → inside test (roll-Ty l) ≡ inside_layer test l
unfolding inside
rolled test Ty-F.Bool = para-roll-Ty Bool Bool (inside_step test) (inside_field test) _
rolled test (Ty-F.Number b s min max) = para-roll-Ty Bool Bool (inside_step test) (inside_field test) _
rolled test (Ty-F.String length) = para-roll-Ty Bool Bool (inside_step test) (inside_field test) _
rolled test (Ty-F.Octets length) = para-roll-Ty Bool Bool (inside_step test) (inside_field test) _
rolled test (Ty-F.Bytes length) = para-roll-Ty Bool Bool (inside_step test) (inside_field test) _
rolled test (Ty-F.Struct fields) = para-roll-Ty Bool Bool (inside_step test) (inside_field test) (Ty-F.Struct fields) ∙ fields_are test fields
rolled test (Ty-F.Array entry entries keys) = para-roll-Ty Bool Bool (inside_step test) (inside_field test) _

pub inside_law : (test : Ty → Bool) (ty : Ty) → inside test ty ≡ inside_layer test (out-Ty ty)
inside_law test ty = ap (inside test) (sym (roll-out-Ty ty)) ∙ rolled test (out-Ty ty)

pub inside_struct : (test : Ty → Bool) (ty : Ty) (fields : List Field) → ty ≡ v.Struct fields
    → inside test ty ≡ list_all (λ f. throughout test (field_ty f)) fields
inside_struct test ty fields e = ap (inside test) (e ∙ sym (v.rolls-Struct fields)) ∙ rolled test (Ty-F.Struct fields)

pub inside_array : (test : Ty → Bool) (ty entry : Ty) (entries : ℕ) (keys : List KeyDecl) → ty ≡ v.Array entry entries keys
    → inside test ty ≡ throughout test entry
inside_array test ty entry entries keys e = ap (inside test) (e ∙ sym (v.rolls-Array entry entries keys)) ∙ rolled test (Ty-F.Array entry entries keys)

other_layer : (test : Ty → Bool) (l : Ty-F Ty Field)
    → ((fields : List Field) → roll-Ty l ≡ v.Struct fields → ⊥)
    → ((entry : Ty) (entries : ℕ) (keys : List KeyDecl) → roll-Ty l ≡ v.Array entry entries keys → ⊥)
    → inside_layer test l ≡ true
other_layer test Ty-F.Bool s a = refl
other_layer test (Ty-F.Number b g min max) s a = refl
other_layer test (Ty-F.String length) s a = refl
other_layer test (Ty-F.Octets length) s a = refl
other_layer test (Ty-F.Bytes length) s a = refl
other_layer test (Ty-F.Struct fields) s a = absurd (s fields (v.rolls-Struct fields))
other_layer test (Ty-F.Array entry entries keys) s a = absurd (a entry entries keys (v.rolls-Array entry entries keys))

pub inside_other : (test : Ty → Bool) (ty : Ty)
    → ((fields : List Field) → ty ≡ v.Struct fields → ⊥)
    → ((entry : Ty) (entries : ℕ) (keys : List KeyDecl) → ty ≡ v.Array entry entries keys → ⊥)
    → inside test ty ≡ true
inside_other test ty s a =
    inside_law test ty ∙ other_layer test (out-Ty ty) (λ fields e. s fields (sym (roll-out-Ty ty) ∙ e)) (λ entry entries keys e. a entry entries keys (sym (roll-out-Ty ty) ∙ e))

pub fields_inside : (test : Ty → Bool) (fields : List Field) → inside test (v.Struct fields) ≡ list_all (λ f. throughout test (field_ty f)) fields
fields_inside test fields = inside_struct test (v.Struct fields) fields refl

pub entry_inside : (test : Ty → Bool) (entry : Ty) (entries : ℕ) (keys : List KeyDecl) → inside test (v.Array entry entries keys) ≡ throughout test entry
entry_inside test entry entries keys = inside_array test (v.Array entry entries keys) entry entries keys refl

atom_layer : (test : Ty → Bool) (l : Ty-F Ty Field) → is_atom_layer l ≡ true → inside_layer test l ≡ true
atom_layer test Ty-F.Bool e = refl
atom_layer test (Ty-F.Number b g min max) e = refl
atom_layer test (Ty-F.String length) e = refl
atom_layer test (Ty-F.Octets length) e = refl
atom_layer test (Ty-F.Bytes length) e = refl
atom_layer test (Ty-F.Struct fields) e = absurd (cc)
atom_layer test (Ty-F.Array entry entries keys) e = absurd (cc)

pub none_inside : (test : Ty → Bool) (ty : Ty) → is_atom ty ≡ true → inside test ty ≡ true
none_inside test ty e = inside_law test ty ∙ atom_layer test (out-Ty ty) e
