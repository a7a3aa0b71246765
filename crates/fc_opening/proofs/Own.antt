-- The classes that each element has of itself, behind others: where they stand, and what they open with.
use Rattle.std.proofs.Common.{◌≡◌, ◌==◌, ℕ, ℤ, pos, Bool, true, false, not, List, [], ◌∷◌, ◌++◌, find, slice_get, refl, sym, ap, subst, ◌∙◌, Option, Some, None, arith}
use Rattle.std.specs.List.{AllByRecursion, list_all}
use Rattle.std.proofs.lemmas.Bool.Decides.{nat_tests}
use Rattle.fc_types.specs.BuiltIn.{is_built_in}
use Rattle.fc_types.specs.Components.{ComponentDecl}
use Rattle.fc_types.specs.Libraries.{IsLibrary, is_own}
use Rattle.fc_types.specs.declared.class.Class.{Class}
use Rattle.fc_types.specs.declared.ty.Ty.{Ty}
use Rattle.fc_types.specs.declared.ty.Ty.TheVariants as type
use Rattle.fc_value.specs.Fits.{Fits}
use Rattle.fc_value.specs.declared.value.Value.TheVariants as value
use Rattle.fc_value.proofs.Conditions.{both}
use Rattle.fc_lfbs.specs.BuiltIns.{built_in, fe_object, fe_protocol}
use Rattle.fc_lfbs.specs.Kinds as kinds
use Rattle.fc_store.specs.Stores.{components_of, declared_in, opened, opening_number}
use Rattle.fc_store.proofs.Lists.{none_some, some_is}
use Rattle.fc_configuration.specs.Fitting.{AreFitting, HasOpenings}
use Rattle.fc_configuration.proofs.Fitting.{opened_fit}
use Rattle.fc_configuration.proofs.Places.{all_get}
use Rattle.fc_opening.proofs.Shapes.{byte_fits, word_fits}

-- ---- where a class stands
own_built : (b : Bool) → not b ≡ true → b ≡ true → ⊥
own_built b e f = cc

pub same_number : (m n : ℕ) → (m == n) ≡ true → m ≡ n
same_number m n e = grind (arith, nat_tests, e)

other_class : (k : Class) (class : ℕ) → is_built_in class ≡ true → is_own k ≡ true → (b : Bool) → (k.id == class) ≡ b → b ≡ false
other_class k class built own false e = refl
other_class k class built own true e = absurd (own_built (is_built_in k.id) own (ap is_built_in (same_number k.id class e) ∙ built))

found_behind : (classes : List Class) (class : ℕ) → is_built_in class ≡ true → list_all is_own classes ≡ true
    → find (λ (k : Class). k.id == class) (classes ++ built_in) ≡ find (λ (k : Class). k.id == class) built_in
found_behind [] class built own = refl
found_behind (k ∷ classes) class built own =
    let p : (is_own k ≡ true) × (list_all is_own classes ≡ true) = both _ _ own in
    rw (other_class k class built p.0 (k.id == class) refl) (found_behind classes class built p.1)

declared_behind : (classes : List Class) (class : ℕ) → is_built_in class ≡ true → list_all is_own classes ≡ true → declared_in (classes ++ built_in) class ≡ declared_in built_in class
declared_behind classes class built own = ap components_of (found_behind classes class built own)

-- what holds of each component of one of these classes
pub of_own : (P : ComponentDecl → Type 0) (classes : List Class) (own class i : ℕ) (component : ComponentDecl) → is_built_in own ≡ true → list_all is_own classes ≡ true
    → AllByRecursion P (declared_in built_in own) → class ≡ own → slice_get (declared_in (classes ++ built_in) class) i ≡ Some component → P component
of_own P classes own class i component built all a g e =
    all_get P (declared_in built_in own) i component a
    (ap (λ l. slice_get l i) (sym (declared_behind classes own built all)) ∙ ap (λ k. slice_get (declared_in (classes ++ built_in) k) i) (sym g) ∙ e)

-- ---- what a component opens with
abbrev OpensWell : ℕ → ComponentDecl → Type 0
OpensWell class c = (n : ℤ) → opening_number class c.id ≡ Some n → Fits c.ty (value.Number n)

none_opens : (ty : Ty) (n : ℤ) → None ≡ Some n → Fits ty (value.Number n)
none_opens ty n e = absurd (none_some n e)

number_opens : (ty : Ty) (m n : ℤ) → Fits ty (value.Number m) → Some m ≡ Some n → Fits ty (value.Number n)
number_opens ty m n fit e = subst (λ z. Fits ty (value.Number z)) (some_is m n e) fit

object_opens : AllByRecursion (OpensWell 1) fe_object.components
object_opens = (
  none_opens (kinds.words 65536),
  (
    none_opens (kinds.array_of kinds.instance_type 65536),
    (
      none_opens (type.String 40),
      (
        none_opens (kinds.word),
        (
          none_opens (type.String 40),
          (
            none_opens (type.String 40),
            (
              (λ n e. number_opens (kinds.byte_upto 255) (pos 2) n (byte_fits 7 255 2 (omega arith)) e),
              (none_opens (kinds.words 65536), tt),
            ),
          ),
        ),
      ),
    ),
  ),
)

protocol_opens : AllByRecursion (OpensWell 2) fe_protocol.components
protocol_opens = (
  none_opens (kinds.byte_upto 255),
  (
    none_opens (kinds.word),
    (
      none_opens (kinds.words 65536),
      (
        none_opens (kinds.byte_upto 1),
        (
          (λ n e. number_opens kinds.word (pos 30000) n (word_fits 7 30000 (omega arith)) e),
          (
            none_opens (kinds.byte_upto 1),
            (
              (λ n e. number_opens kinds.word (pos 500) n (word_fits 7 500 (omega arith)) e),
              (
                none_opens (kinds.word),
                (
                  none_opens (kinds.words 16),
                  (none_opens (kinds.word), tt),
                ),
              ),
            ),
          ),
        ),
      ),
    ),
  ),
)

no_number : (class id : ℕ) → (class == 1) ≡ false → (class == 2) ≡ false → opening_number class id ≡ None
no_number class id a b = rw a (rw b refl)

pub openings : (classes : List Class) → list_all is_own classes ≡ true → HasOpenings (classes ++ built_in)
openings classes own class i component n e f = by (class == 1) refl (class == 2) refl
  where
    by : (a : Bool) → (class == 1) ≡ a → (b : Bool) → (class == 2) ≡ b → Fits component.ty (value.Number n)
    by true x b y = let g : class ≡ 1 = same_number class 1 x in of_own (OpensWell 1) classes 1 class i component refl own object_opens g e n (ap (λ k. opening_number k component.id) (sym g) ∙ f)
    by false x true y = let g : class ≡ 2 = same_number class 2 y in of_own (OpensWell 2) classes 2 class i component refl own protocol_opens g e n (ap (λ k. opening_number k component.id) (sym g) ∙ f)
    by false x false y = absurd (none_some n (sym (no_number class component.id x y) ∙ f))

pub opens : (classes : List Class) (instances : List (ℕ × ℕ)) → list_all is_own classes ≡ true → IsLibrary (classes ++ built_in) → AreFitting (opened (classes ++ built_in) instances)
opens classes instances own l = opened_fit (classes ++ built_in) instances l (openings classes own)
