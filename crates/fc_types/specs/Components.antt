-- What a component declares, as contracts see it.
use Rattle.std.specs.Prelude.{ℕ, Bool, List}
use Rattle.fc_types.specs.declared.ty.Ty.{Ty}

-- a component of a class (RFC 5812, section 4.7.4): its number, its name in UTF-8, its type, its rights and whether it may be absent
pub record ComponentDecl : Type 0 where
  pub id : ℕ
  pub name : List ℕ
  pub ty : Ty
  pub access : ℕ
  pub optional : Bool
