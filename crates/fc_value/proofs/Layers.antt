-- What is read of a type, one level at a time.
use Rattle.std.proofs.Common.{◌≡◌, refl, sym, ap, ap₂, ◌∙◌, subst, ℕ, ℤ, Bool, List, [], ◌∷◌, map, Result}
use Rattle.fc_base.specs.declared.faults.OpFault.{OpFault}
use Rattle.fc_types.specs.Types.{field_ty, fields_of}
use Rattle.fc_types.specs.declared.ty.KeyDecl.{KeyDecl}
use Rattle.fc_types.specs.declared.ty.Field.{Field}
use Rattle.fc_types.specs.declared.ty.Ty.{Ty}
use Rattle.fc_types.specs.declared.ty.Ty.TheOpen.{Ty-F, Field-F}
use Rattle.fc_types.specs.declared.ty.Ty.TheViews.{out-Ty, roll-Ty, roll-out-Ty, out-Field, roll-Field, roll-out-Field}
use Rattle.fc_types.specs.declared.ty.Ty.TheFolds.{para-roll-Ty, para-roll-Field}
use Rattle.fc_value.specs.Outcomes.{Gives}
use Rattle.fc_value.specs.declared.value.Value.{Value}
use Rattle.fc_value.specs.Reading.{Reader, truth_in, number_in, text_of, octets_of, fixed_in, held, group_in, table_of, inside, inside_at, inside_step, field_step}

-- one level of `inside`
abbrev pub in_layer : Ty-F Ty Field → Reader
in_layer Ty-F.Bool = truth_in
in_layer (Ty-F.Number width signed min max) = number_in width signed min max
in_layer (Ty-F.String limit) = held (text_of limit)
in_layer (Ty-F.Octets limit) = held (octets_of limit)
in_layer (Ty-F.Bytes n) = fixed_in n
in_layer (Ty-F.Struct fields) = group_in (map (λ f. inside (field_ty f)) fields)
in_layer (Ty-F.Array entry limit keys) = held (table_of (inside entry) (fields_of entry) limit keys)

field_rolled : (l : Field-F Ty Field) → inside_at (roll-Field l) ≡ inside l.ty
unfolding inside inside_at
field_rolled l = para-roll-Field Reader Reader inside_step field_step l

pub field_is : (f : Field) → inside_at f ≡ inside (field_ty f)
field_is f = ap inside_at (sym (roll-out-Field f)) ∙ field_rolled (out-Field f)

pub fields_are : (fields : List Field) → map inside_at fields ≡ map (λ f. inside (field_ty f)) fields
fields_are [] = refl
fields_are (f ∷ fields) = ap₂ (λ a b. a ∷ b) (field_is f) (fields_are fields)

step_fields : (fields : List Field) → map (λ (x : Field × Reader). x.1) (map (λ y. (y, inside_at y)) fields) ≡ map (λ f. inside (field_ty f)) fields
step_fields [] = refl
step_fields (f ∷ fields) = ap₂ (λ a b. a ∷ b) (field_is f) (step_fields fields)

rolled : (l : Ty-F Ty Field) → inside (roll-Ty l) ≡ in_layer l
unfolding inside inside_at
rolled Ty-F.Bool = para-roll-Ty Reader Reader inside_step field_step _
rolled (Ty-F.Number b s min max) = para-roll-Ty Reader Reader inside_step field_step _
rolled (Ty-F.String length) = para-roll-Ty Reader Reader inside_step field_step _
rolled (Ty-F.Octets length) = para-roll-Ty Reader Reader inside_step field_step _
rolled (Ty-F.Bytes length) = para-roll-Ty Reader Reader inside_step field_step _
rolled (Ty-F.Struct fields) = para-roll-Ty Reader Reader inside_step field_step (Ty-F.Struct fields) ∙ ap group_in (step_fields fields)
rolled (Ty-F.Array entry entries keys) = para-roll-Ty Reader Reader inside_step field_step _

pub inside_roll : (l : Ty-F Ty Field) → inside (roll-Ty l) ≡ in_layer l
inside_roll = rolled

pub inside_law : (ty : Ty) → inside ty ≡ in_layer (out-Ty ty)
inside_law ty = ap inside (sym (roll-out-Ty ty)) ∙ rolled (out-Ty ty)

inside_is : (ty : Ty) (l : Ty-F Ty Field) → ty ≡ roll-Ty l → inside ty ≡ in_layer l
inside_is ty l e = ap inside e ∙ rolled l

-- what a call gives of a level
pub given : {X : Type 0} (view : X → Value × List ℕ) (result : Result X OpFault) (ty : Ty) (l : Ty-F Ty Field) (bytes : List ℕ) → ty ≡ roll-Ty l
    → Gives view result (in_layer l bytes) → Gives view result (inside ty bytes)
given view result ty l bytes e h = subst (λ (r : Reader). Gives view result (r bytes)) (sym (inside_is ty l e)) h

pub given_group : {X : Type 0} (view : X → Value × List ℕ) (result : Result X OpFault) (ty : Ty) (fields : List Field) (bytes : List ℕ) → ty ≡ roll-Ty (Ty-F.Struct fields)
    → Gives view result (group_in (map inside_at fields) bytes) → Gives view result (inside ty bytes)
given_group view result ty fields bytes e h =
    given view result ty (Ty-F.Struct fields) bytes e (subst (λ rs. Gives view result (group_in rs bytes)) (fields_are fields) h)

pub given_number : {X : Type 0} (view : X → Value × List ℕ) (result : Result X OpFault) (ty : Ty) (w : ℕ) (s : Bool) (min max least most : ℤ) (bytes : List ℕ)
    → ty ≡ roll-Ty (Ty-F.Number w s min max) → least ≡ min → most ≡ max → Gives view result (number_in w s least most bytes) → Gives view result (inside ty bytes)
given_number view result ty w s min max least most bytes e p q h =
    given view result ty (Ty-F.Number w s min max) bytes e (subst (λ m. Gives view result (number_in w s min m bytes)) q (subst (λ m. Gives view result (number_in w s m most bytes)) p h))

pub given_table : {X : Type 0} (view : X → Value × List ℕ) (result : Result X OpFault) (ty entry one : Ty) (limit : ℕ) (keys decls : List KeyDecl) (bytes : List ℕ)
    → ty ≡ roll-Ty (Ty-F.Array entry limit keys) → one ≡ entry → decls ≡ keys
    → Gives view result (held (table_of (inside one) (fields_of one) limit decls) bytes) → Gives view result (inside ty bytes)
given_table view result ty entry one limit keys decls bytes e p q h =
    given view result ty (Ty-F.Array entry limit keys) bytes e
    (subst (λ ks. Gives view result (held (table_of (inside entry) (fields_of entry) limit ks) bytes)) q
    (subst (λ t. Gives view result (held (table_of (inside t) (fields_of t) limit decls) bytes)) p h))
