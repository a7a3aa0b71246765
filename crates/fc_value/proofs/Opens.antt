-- Opening values fit, and numbers among them are nearest to 0.
use Rattle.std.proofs.Common.{◌≡◌, ℕ, ℤ, zero, suc, ◌<◌, ◌≤◌, int_le, true, false, ◌&&◌, List, [], ◌∷◌, length, map, replicate, Option, Some, None, refl, sym, ap, ap₂, ◌∙◌, subst, arith}
use Rattle.std.specs.Prelude.{unsigned_abs}
use Rattle.std.specs.List.{AllByRecursion, list_all}
use Rattle.fc_types.specs.Sound.{IsSound}
use Rattle.fc_types.specs.Types.{field_ty, fields_of, nests, nests_layer, throughout, inside, is_in_range, own_range, is_range, span}
use Rattle.fc_types.specs.declared.ty.KeyDecl.{KeyDecl}
use Rattle.fc_types.specs.declared.ty.Field.{Field}
use Rattle.fc_types.specs.declared.ty.Ty.{Ty}
use Rattle.fc_types.specs.declared.ty.Ty.TheOpen.{Ty-F, Field-F}
use Rattle.fc_types.specs.declared.ty.Ty.TheViews.{out-Ty, roll-Ty, roll-out-Ty, out-Field, roll-Field, roll-out-Field}
use Rattle.fc_types.specs.declared.ty.Ty.TheFolds.{fold-roll-Ty, fold-roll-Field}
use Rattle.fc_value.specs.Keys.{keys_differ}
use Rattle.fc_value.specs.Fits.{FitsLayer, FitsIn, Fits, EachFits}
use Rattle.fc_value.specs.FullForm.{InRange}
use Rattle.fc_value.specs.Opening.{nearest, opening, opening_at, opening_step, opening_field}
use Rattle.fc_value.specs.declared.value.Value.{Value}
use Rattle.fc_value.specs.declared.value.Value.TheVariants as value
use Rattle.fc_value.proofs.Conditions.{both}
use Rattle.fc_value.proofs.Nesting.{no_depth, one_level}
use Rattle.fc_types.proofs.Inside.{inside_law, inside_layer}
use Rattle.std.proofs.lemmas.List.{length-replicate}
use Rattle.std.proofs.lemmas.Int.{ints}

-- one level of the opening value
abbrev opening_layer : Ty-F Ty Field → Value
opening_layer Ty-F.Bool = value.Truth false
opening_layer (Ty-F.Number w s min max) = value.Number (nearest min max)
opening_layer (Ty-F.String n) = value.Text []
opening_layer (Ty-F.Octets n) = value.Raw []
opening_layer (Ty-F.Bytes n) = value.Raw (replicate n 0)
opening_layer (Ty-F.Struct fields) = value.Group (map (λ f. opening (field_ty f)) fields)
opening_layer (Ty-F.Array entry limit keys) = value.Table []

field_rolled : (l : Field-F Ty Field) → opening_at (roll-Field l) ≡ opening l.ty
unfolding opening opening_at
field_rolled l = fold-roll-Field Value Value opening_step opening_field l

field_is : (f : Field) → opening_at f ≡ opening (field_ty f)
field_is f = ap opening_at (sym (roll-out-Field f)) ∙ field_rolled (out-Field f)

fields_are : (fields : List Field) → map opening_at fields ≡ map (λ f. opening (field_ty f)) fields
fields_are [] = refl
fields_are (f ∷ fields) = ap₂ (λ a b. a ∷ b) (field_is f) (fields_are fields)

struct_rolled : (fields : List Field) → opening (roll-Ty (Ty-F.Struct fields)) ≡ value.Group (map opening_at fields)
unfolding opening opening_at
struct_rolled fields = fold-roll-Ty Value Value opening_step opening_field (Ty-F.Struct fields)

rolled : (l : Ty-F Ty Field) → opening (roll-Ty l) ≡ opening_layer l
unfolding opening
rolled Ty-F.Bool = fold-roll-Ty Value Value opening_step opening_field _
rolled (Ty-F.Number b s min max) = fold-roll-Ty Value Value opening_step opening_field _
rolled (Ty-F.String length) = fold-roll-Ty Value Value opening_step opening_field _
rolled (Ty-F.Octets length) = fold-roll-Ty Value Value opening_step opening_field _
rolled (Ty-F.Bytes length) = fold-roll-Ty Value Value opening_step opening_field _
rolled (Ty-F.Struct fields) = struct_rolled fields ∙ ap value.Group (fields_are fields)
rolled (Ty-F.Array entry entries keys) = fold-roll-Ty Value Value opening_step opening_field _

opening_law : (ty : Ty) → opening ty ≡ opening_layer (out-Ty ty)
opening_law ty = ap opening (sym (roll-out-Ty ty)) ∙ rolled (out-Ty ty)

-- the nearest number is in the range
pub nearest_in : (min max : ℤ) → int_le min max ≡ true → InRange min max (nearest min max)
nearest_in min max h = (grind (arith, ints, h), grind (arith, ints, h))

pub zeros_bytes : (n : ℕ) → AllByRecursion (λ b. b < 256) (replicate n 0)
zeros_bytes zero = tt
zeros_bytes (suc n) = (omega arith, zeros_bytes n)

no_keys : (fields : List Field) (keys : List KeyDecl) → keys_differ fields keys [] ≡ true
no_keys fields [] = refl
no_keys fields (key ∷ keys) = no_keys fields keys

pub in_order : (o : Option (ℤ × ℤ)) (min max : ℤ) → is_range o min max ≡ true → int_le min max ≡ true
in_order None min max h = cc
in_order (Some ends) min max h =
    let p : ((int_le ends.0 min && int_le min max) ≡ true) × (int_le max ends.1 ≡ true) = both _ _ h in
    let q : (int_le ends.0 min ≡ true) × (int_le min max ≡ true) = both _ _ p.0 in
    q.1

module _ (depth : ℕ) (opens : (ty : Ty) → nests depth ty ≡ true → throughout is_in_range ty ≡ true → FitsIn depth ty (opening ty)) where
  fields_open : (fs : List Field) → list_all (λ f. nests depth (field_ty f)) fs ≡ true → list_all (λ f. throughout is_in_range (field_ty f)) fs ≡ true
      → EachFits (FitsIn depth) fs (map (λ f. opening (field_ty f)) fs)
  fields_open [] deep ranged = tt
  fields_open (f ∷ fs) deep ranged =
      let d : (nests depth (field_ty f) ≡ true) × (list_all (λ f. nests depth (field_ty f)) fs ≡ true) = both _ _ deep in
      let r : (throughout is_in_range (field_ty f) ≡ true) × (list_all (λ f. throughout is_in_range (field_ty f)) fs ≡ true) = both _ _ ranged in
      (opens (field_ty f) d.0 r.0, fields_open fs d.1 r.1)

  layer_opens : (l : Ty-F Ty Field) → nests_layer (nests depth) l ≡ true → own_range l ≡ true → inside_layer is_in_range l ≡ true → FitsLayer (FitsIn depth) l (opening_layer l)
  layer_opens Ty-F.Bool deep own ranged = (false, refl)
  layer_opens (Ty-F.Number w s min max) deep own ranged = (nearest min max, refl, nearest_in min max (in_order (span w s) min max own))
  layer_opens (Ty-F.String n) deep own ranged = ([], refl, ([], (refl, refl)), omega arith)
  layer_opens (Ty-F.Octets n) deep own ranged = ([], refl, tt, omega arith)
  layer_opens (Ty-F.Bytes n) deep own ranged = (replicate n 0, refl, zeros_bytes n, length-replicate n 0)
  layer_opens (Ty-F.Struct fields) deep own ranged = (map (λ f. opening (field_ty f)) fields, refl, fields_open fields deep ranged)
  layer_opens (Ty-F.Array entry limit keys) deep own ranged = ([], refl, record { rising = tt; few = omega arith; keyed = no_keys (fields_of entry) keys }, tt)

opens_in : (depth : ℕ) (ty : Ty) → nests depth ty ≡ true → throughout is_in_range ty ≡ true → FitsIn depth ty (opening ty)
opens_in zero ty deep ranged = absurd (no_depth ty deep)
opens_in (suc depth) ty deep ranged =
    let r : (is_in_range ty ≡ true) × (inside is_in_range ty ≡ true) = both _ _ ranged in
    subst (FitsLayer (FitsIn depth) (out-Ty ty)) (sym (opening_law ty))
    (layer_opens depth (opens_in depth) (out-Ty ty) (one_level depth ty deep) r.0 (sym (inside_law is_in_range ty) ∙ r.1))

pub opening_fits : (ty : Ty) → IsSound ty → Fits ty (opening ty)
opening_fits ty s = opens_in 8 ty s.shallow s.ranged

-- no number of the range is nearer to 0
pub none_nearer : (min max z : ℤ) → InRange min max z → unsigned_abs (nearest min max) ≤ unsigned_abs z
none_nearer min max z h = grind (arith, ints, h.0, h.1)
