-- The values of a store fit the types of their components (this profile's own).
use Rattle.std.specs.Prelude.{◌≡◌, ℕ, ℤ, List, slice_get, Option, Some, None}
use Rattle.std.specs.List.{AllByRecursion}
use Rattle.fc_types.specs.Components.{ComponentDecl}
use Rattle.fc_types.specs.declared.class.Class.{Class}
use Rattle.fc_value.specs.Fits.{Fits}
use Rattle.fc_value.specs.declared.value.Value.{Value}
use Rattle.fc_value.specs.declared.value.Value.TheVariants as value
use Rattle.fc_store.specs.Stores.{Components, Pairwise, Stored, Tree, declared_in, opening_number}

-- a component has no value, or one that its type has
abbrev pub FitsComponent : ComponentDecl → Option Value → Type 0
FitsComponent component None = Unit {0}
FitsComponent component (Some v) = Fits component.ty v

abbrev pub DoFit : List ComponentDecl → Components → Type 0
DoFit components values = Pairwise FitsComponent components values

-- what an instance holds now fits, and so does what it held at each of its marks
abbrev pub IsFitting : List Class → ℕ × ℕ → Tree → Type 0
IsFitting library pair t = DoFit (declared_in library pair.0) t.now × AllByRecursion (DoFit (declared_in library pair.0)) t.held

abbrev pub AreFitting : Stored → Type 0
AreFitting s = Pairwise (IsFitting s.library) s.instances s.trees

-- a component that opens with a number of its own, as FEState, CEHDI and FEHI do, is of a type that has it
abbrev pub HasOpenings : List Class → Type 0
HasOpenings library =
    (class i : ℕ) (component : ComponentDecl) (number : ℤ) → slice_get (declared_in library class) i ≡ Some component → opening_number class component.id ≡ Some number
    → Fits component.ty (value.Number number)
