use Rattle.std.proofs.Common.{◌≡◌, sym, ap, ◌∙◌, arith, ℕ, ◌-◌, ◌<◌, ◌==◌, Some, List, [], ◌∷◌, length, take, drop, get_or}
use Rattle.std.specs.List.{find}
use Rattle.std.specs.Option.{option_copied}
use Rattle.std.proofs.lemmas.Grind.{common_steps}
use Rattle.fc_types.specs.Classes.{type_at, some_type}
use Rattle.fc_types.specs.Types.{field_id, field_ty, fields_of}
use Rattle.fc_types.specs.declared.ty.Field.{Field}
use Rattle.fc_types.specs.declared.ty.Ty.{Ty}
use Rattle.fc_types.proofs.class_rules.+type_at.Goals as goal

-- what is left of a list behind its first item
rest_of : (id : ℕ) (ids : List ℕ) → take (length (id ∷ ids) - 1) (drop 1 (id ∷ ids)) ≡ ids
rest_of id ids = grind (arith, common_steps)

-- the first ID is that of a field of the type
one_more : (ids : List ℕ) (ty : Ty) (fields : List Field) (f : Field) → 0 < length ids → fields ≡ fields_of ty
    → Some f ≡ find (λ g. field_id g == get_or ids 0 0) fields
    → type_at (take (length ids - 1) (drop 1 ids)) (field_ty f) ≡ type_at ids ty
one_more [] ty fields f some e found = absurd (omega arith)
one_more (id ∷ ids) ty fields f some e found =
    ap (λ rest. type_at rest (field_ty f)) (rest_of id ids)
    ∙ ap (λ o. some_type o (type_at ids)) (found ∙ ap (find (λ g. field_id g == id)) e)

pub returns-in-Some : goal.returns-in-Some
returns-in-Some t c =
    c.type_at.ensures
    ∙ one_more c.args.ids.now c.args.ty.now c.fields_of.result.now c.in-Some.field.now (omega arith) c.fields_of.ensures
    (ap option_copied (sym c.in-Some.is) ∙ c.with_id.ensures)
