-- The types that a component of a checked library has (this profile's own), and what that says of the types inside them.
use Rattle.std.specs.Prelude.{◌≡◌, ℕ, nat_eq, true, List, map}
use Rattle.std.specs.List.{AllByRecursion, list_all}
use Rattle.fc_types.specs.Ids.{is_distinct}
use Rattle.fc_types.specs.Types.{field_id, field_ty, fields_of, nests, throughout, inside, has_distinct_ids, is_in_range, fits_inside, has_atomic_keys, is_range, span, is_upto, is_key}
use Rattle.fc_types.specs.declared.ty.KeyDecl.{KeyDecl}
use Rattle.fc_types.specs.declared.ty.Field.{Field}
use Rattle.fc_types.specs.declared.ty.Ty.{Ty}
use Rattle.fc_types.specs.declared.ty.Ty.TheOpen.{Ty-F}

-- a type that a component may have
pub record IsSound (ty : Ty) : Type 0 where
  pub shallow : nests 8 ty ≡ true
  pub ids : throughout has_distinct_ids ty ≡ true
  pub ranged : throughout is_in_range ty ≡ true
  pub fits : inside fits_inside ty ≡ true
  pub keys : throughout has_atomic_keys ty ≡ true

-- a type that a field or an entry may have, where an array fits the value of a TLV too
pub record IsSoundInside (ty : Ty) : Type 0 where
  pub sound : IsSound ty
  pub fit : fits_inside ty ≡ true

-- what holds of a struct that a component may have: its fields differ in their IDs, and each one's type is sound
pub record IsSoundStruct (fields : List Field) : Type 0 where
  pub ids : is_distinct nat_eq (map field_id fields) ≡ true
  pub each : AllByRecursion (λ f. IsSoundInside (field_ty f)) fields

-- what holds of an array: its entry is sound, it has from 1 to 65,536 entries, and its keys differ in their IDs and are made
-- of different atoms of its entry
pub record IsSoundArray (entry : Ty) (entries : ℕ) (keys : List KeyDecl) : Type 0 where
  pub inner : IsSoundInside entry
  pub count : is_upto 65536 entries ≡ true
  pub ids : is_distinct nat_eq (map (λ (key : KeyDecl). key.id) keys) ≡ true
  pub made : list_all (is_key (fields_of entry)) keys ≡ true

-- what a sound type is at its first level
abbrev pub SoundLayer : Ty-F Ty Field → Type 0
SoundLayer Ty-F.Bool = Unit {0}
SoundLayer (Ty-F.Number bytes signed min max) = is_range (span bytes signed) min max ≡ true
SoundLayer (Ty-F.String length) = is_upto 32768 length ≡ true
SoundLayer (Ty-F.Octets length) = is_upto 32768 length ≡ true
SoundLayer (Ty-F.Bytes length) = is_upto 32768 length ≡ true
SoundLayer (Ty-F.Struct fields) = IsSoundStruct fields
SoundLayer (Ty-F.Array entry entries keys) = IsSoundArray entry entries keys
