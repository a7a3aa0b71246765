-- How deep a type nests, one level at a time.
use Rattle.std.proofs.Common.{◌≡◌, ◌≢◌, refl, sym, ap, ◌∙◌, arith, ℕ, zero, suc, ◌-◌, Bool, true, false, List}
use Rattle.std.specs.List.{list_all}
use Rattle.fc_types.specs.Types.{is_atom, is_atom_layer, nests, nests_layer, field_ty}
use Rattle.fc_types.specs.declared.ty.Field.{Field}
use Rattle.fc_types.specs.declared.ty.KeyDecl.{KeyDecl}
use Rattle.fc_types.specs.declared.ty.Ty.{Ty}
use Rattle.fc_types.specs.declared.ty.Ty.TheVariants as v
use Rattle.fc_types.specs.declared.ty.Ty.TheOpen.{Ty-F}
use Rattle.fc_types.specs.declared.ty.Ty.TheViews.{out-Ty, roll-Ty, out-roll-Ty, roll-out-Ty}

pub nests_none : (levels : ℕ) (ty : Ty) → levels ≡ 0 → nests levels ty ≡ false
unfolding nests
nests_none levels ty e = ap (λ n. nests n ty) e

-- `nests` at one level, whatever is known of the type's layer
pub nests_more : (levels : ℕ) (ty : Ty) (l : Ty-F Ty Field) → levels ≢ 0 → out-Ty ty ≡ l → nests levels ty ≡ nests_layer (nests (levels - 1)) l
unfolding nests
nests_more zero ty l some e = absurd (some refl)
nests_more (suc n) ty l some e = let p : suc n - 1 ≡ n = omega arith in rw p (ap (nests_layer (nests n)) e)

pub nests_struct : (levels : ℕ) (ty : Ty) (fields : List Field) → levels ≢ 0 → ty ≡ v.Struct fields
    → nests levels ty ≡ list_all (λ f. nests (levels - 1) (field_ty f)) fields
nests_struct levels ty fields some e =
    nests_more levels ty (Ty-F.Struct fields) some (ap out-Ty (e ∙ sym (v.rolls-Struct fields)) ∙ out-roll-Ty (Ty-F.Struct fields))

pub nests_array : (levels : ℕ) (ty entry : Ty) (entries : ℕ) (keys : List KeyDecl) → levels ≢ 0 → ty ≡ v.Array entry entries keys
    → nests levels ty ≡ nests (levels - 1) entry
nests_array levels ty entry entries keys some e =
    nests_more levels ty (Ty-F.Array entry entries keys) some
    (ap out-Ty (e ∙ sym (v.rolls-Array entry entries keys)) ∙ out-roll-Ty (Ty-F.Array entry entries keys))

other_layer : (within : Ty → Bool) (l : Ty-F Ty Field)
    → ((fields : List Field) → roll-Ty l ≡ v.Struct fields → ⊥)
    → ((entry : Ty) (entries : ℕ) (keys : List KeyDecl) → roll-Ty l ≡ v.Array entry entries keys → ⊥)
    → nests_layer within l ≡ true
other_layer within Ty-F.Bool s a = refl
other_layer within (Ty-F.Number b g min max) s a = refl
other_layer within (Ty-F.String length) s a = refl
other_layer within (Ty-F.Octets length) s a = refl
other_layer within (Ty-F.Bytes length) s a = refl
other_layer within (Ty-F.Struct fields) s a = absurd (s fields (v.rolls-Struct fields))
other_layer within (Ty-F.Array entry entries keys) s a = absurd (a entry entries keys (v.rolls-Array entry entries keys))

pub nests_other : (levels : ℕ) (ty : Ty) → levels ≢ 0
    → ((fields : List Field) → ty ≡ v.Struct fields → ⊥)
    → ((entry : Ty) (entries : ℕ) (keys : List KeyDecl) → ty ≡ v.Array entry entries keys → ⊥)
    → nests levels ty ≡ true
nests_other levels ty some s a =
    nests_more levels ty (out-Ty ty) some refl
    ∙ other_layer (nests (levels - 1)) (out-Ty ty) (λ fields e. s fields (sym (roll-out-Ty ty) ∙ e)) (λ entry entries keys e. a entry entries keys (sym (roll-out-Ty ty) ∙ e))

-- The same, from the levels inside on.
deeper : (levels : ℕ) (ty : Ty) (l : Ty-F Ty Field) → out-Ty ty ≡ l → nests (suc levels) ty ≡ nests_layer (nests levels) l
unfolding nests
deeper levels ty l e = ap (nests_layer (nests levels)) e

pub fields_nest : (levels : ℕ) (fields : List Field) → nests (suc levels) (v.Struct fields) ≡ list_all (λ f. nests levels (field_ty f)) fields
fields_nest levels fields = deeper levels (v.Struct fields) (Ty-F.Struct fields) (ap out-Ty (sym (v.rolls-Struct fields)) ∙ out-roll-Ty (Ty-F.Struct fields))

pub entry_nests : (levels : ℕ) (entry : Ty) (entries : ℕ) (keys : List KeyDecl) → nests (suc levels) (v.Array entry entries keys) ≡ nests levels entry
entry_nests levels entry entries keys =
    deeper levels (v.Array entry entries keys) (Ty-F.Array entry entries keys)
    (ap out-Ty (sym (v.rolls-Array entry entries keys)) ∙ out-roll-Ty (Ty-F.Array entry entries keys))

atom_layer : (within : Ty → Bool) (l : Ty-F Ty Field) → is_atom_layer l ≡ true → nests_layer within l ≡ true
atom_layer within Ty-F.Bool e = refl
atom_layer within (Ty-F.Number b g min max) e = refl
atom_layer within (Ty-F.String length) e = refl
atom_layer within (Ty-F.Octets length) e = refl
atom_layer within (Ty-F.Bytes length) e = refl
atom_layer within (Ty-F.Struct fields) e = absurd (cc)
atom_layer within (Ty-F.Array entry entries keys) e = absurd (cc)

pub atom_nests : (levels : ℕ) (ty : Ty) → is_atom ty ≡ true → nests (suc levels) ty ≡ true
atom_nests levels ty e = deeper levels ty (out-Ty ty) refl ∙ atom_layer (nests levels) (out-Ty ty) e

pub none_nest : (ty : Ty) → nests 0 ty ≡ false
none_nest ty = nests_none 0 ty refl
