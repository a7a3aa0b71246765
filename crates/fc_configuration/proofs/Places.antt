-- Where a change is made: the instance, its tree, the component and its value.
use Rattle.std.proofs.Common.{◌≡◌, ◌==◌, ℕ, zero, suc, Bool, true, false, cond, List, [], ◌∷◌, find, slice_get, refl, subst, Option, Some, None}
use Rattle.std.specs.List.{AllByRecursion}
use Rattle.fc_types.specs.Components.{ComponentDecl}
use Rattle.fc_types.specs.Libraries.{IsLibrary}
use Rattle.fc_types.specs.Sound.{IsSound}
use Rattle.fc_types.specs.declared.class.Class.{Class}
use Rattle.fc_types.proofs.Sounds.{components_are_sound}
use Rattle.fc_store.specs.Stores.{components_of, declared_in}
use Rattle.fc_store.proofs.Lists.{none_some, some_is}

pub all_get : {A : Type 0} (P : A → Type 0) (xs : List A) (i : ℕ) (x : A) → AllByRecursion P xs → slice_get xs i ≡ Some x → P x
all_get P [] i x a e = absurd (none_some x e)
all_get P (y ∷ xs) zero x a e = subst P (some_is y x e) a.0
all_get P (y ∷ xs) (suc i) x a e = all_get P xs i x a.1 e

all_found : {A : Type 0} (P : A → Type 0) (p : A → Bool) (xs : List A) (x : A) → AllByRecursion P xs → find p xs ≡ Some x → P x
all_found P p [] x a e = absurd (none_some x e)
all_found P p (y ∷ xs) x a e = by (λ f. all_found P p xs x a.1 f) (p y) e
  where
    by : (find p xs ≡ Some x → P x) → (b : Bool) → cond b (Some y) (find p xs) ≡ Some x → P x
    by more true f = subst P (some_is y x f) a.0
    by more false f = more f

sound_by : (library : List Class) (class : ℕ) (o : Option Class) (i : ℕ) (d : ComponentDecl) → IsLibrary library → find (λ (k : Class). k.id == class) library ≡ o → slice_get (components_of o) i ≡ Some d → IsSound d.ty
sound_by library class None i d l f e = absurd (none_some d e)
sound_by library class (Some k) i d l f e =
    all_get (λ (x : ComponentDecl). IsSound x.ty) k.components i d
    (all_found (λ (c : Class). AllByRecursion (λ (x : ComponentDecl). IsSound x.ty) c.components) (λ (c : Class). c.id == class) library k (components_are_sound library l) f) e

-- a component of a library has a sound type
pub sound_in : (library : List Class) (class i : ℕ) (d : ComponentDecl) → IsLibrary library → slice_get (declared_in library class) i ≡ Some d → IsSound d.ty
sound_in library class i d l e = sound_by library class (find (λ (k : Class). k.id == class) library) i d l refl e
