-- A spot that is found has its component.
use Rattle.std.proofs.Common.{◌≡◌, ℕ, ◌==◌, ◌&&◌, not, Bool, true, false, List, slice_get, refl, sym, ap, ◌∙◌, Option, Some, None, find, position, Result, Ok, Err, if◌then◌else◌}
use Rattle.fc_base.specs.Answers.{◌>>=◌}
use Rattle.fc_path.specs.declared.oper.Step.{Step}
use Rattle.fc_tree.specs.Finding.{no_component, or_code}
use Rattle.fc_types.specs.Components.{ComponentDecl}
use Rattle.fc_types.specs.declared.class.Class.{Class}
use Rattle.fc_store.specs.Spots.{allowed, allowed_at, component_place, first_id, in_class, may_read, may_write, mastership, no_event, not_supported, paired, place_in_class, placed, read_only, resolved, unknown_class, unknown_instance}
use Rattle.fc_store.specs.Stores.{components_of, declared_in}
use Rattle.fc_store.specs.declared.spots.Purpose.{Purpose}
use Rattle.fc_store.specs.declared.spots.Purpose.TheVariants as purpose
use Rattle.fc_store.proofs.Lists.{at_position}
use Rattle.fc_store.proofs.Doing.{err_ok, ok_is}

abbrev Declared : List ComponentDecl → ℕ → Type 0
Declared components c = (d : ComponentDecl) × (slice_get components c ≡ Some d)

pub if_ok : (b : Bool) (code i c : ℕ) → (let r : Result ℕ ℕ = if b then Ok i else Err code in r ≡ Ok c) → i ≡ c
if_ok true code i c e = ok_is i c e
if_ok false code i c e = absurd (err_ok code c e)

allowed_is : (p : Purpose) (class : ℕ) (component : ComponentDecl) (i c : ℕ) → allowed p class component i ≡ Ok c → i ≡ c
allowed_is purpose.Read class component i c e = if_ok (may_read component.access) not_supported i c e
allowed_is purpose.Look class component i c e = ok_is i c e
allowed_is purpose.Write class component i c e = if_ok (may_write component.access && not (class == mastership)) read_only i c e

pub by_component : (p : Purpose) (class : ℕ) (o : Option ComponentDecl) (i c : ℕ) → allowed_at p class i o ≡ Ok c → i ≡ c
by_component p class None i c e = absurd (err_ok no_component c e)
by_component p class (Some component) i c e = allowed_is p class component i c e

by_position : (p : Purpose) (class : ℕ) (components : List ComponentDecl) (id c : ℕ) (o : Option ℕ) → position (λ (d : ComponentDecl). d.id == id) components ≡ o
    → placed p class (find (λ (d : ComponentDecl). d.id == id) components) o ≡ Ok c → Declared components c
by_position p class components id c None f e = absurd (err_ok no_component c e)
by_position p class components id c (Some i) f e =
    let m = at_position (λ (d : ComponentDecl). d.id == id) components i f in
    let n = by_component p class (find (λ (d : ComponentDecl). d.id == id) components) i c e in
    (m.0, ap (slice_get components) (sym n) ∙ m.1)

by_id : (p : Purpose) (class : Class) (r : Result ℕ ℕ) (c : ℕ) → (r >>= component_place p class.id class.components) ≡ Ok c → Declared class.components c
by_id p class (Err code) c e = absurd (err_ok code c e)
by_id p class (Ok id) c e = by_position p class.id class.components id c (position (λ (d : ComponentDecl). d.id == id) class.components) refl e

pub by_pair : (i : ℕ) (r : Result ℕ ℕ) (place : ℕ × ℕ) → paired i r ≡ Ok place → r ≡ Ok place.1
by_pair i (Err code) place e = absurd (err_ok code place e)
by_pair i (Ok c) place e = ap (λ (q : ℕ × ℕ). Ok q.1) (ok_is (i, c) place e)

by_instance : (p : Purpose) (class : Class) (ss : List Step) (o : Option ℕ) (place : ℕ × ℕ) → (or_code unknown_instance o >>= λ i. paired i (place_in_class p class ss)) ≡ Ok place → Declared class.components place.1
by_instance p class ss None place e = absurd (err_ok unknown_instance place e)
by_instance p class ss (Some i) place e = by_id p class (first_id ss >>= no_event class.event_base) place.1 (by_pair i (place_in_class p class ss) place e)

by_class : (p : Purpose) (library : List Class) (pairs : List (ℕ × ℕ)) (k n : ℕ) (ss : List Step) (o : Option Class) (place : ℕ × ℕ) → find (λ (class : Class). class.id == k) library ≡ o
    → (or_code unknown_class o >>= in_class p pairs n ss) ≡ Ok place → Declared (declared_in library k) place.1
by_class p library pairs k n ss None place f e = absurd (err_ok unknown_class place e)
by_class p library pairs k n ss (Some class) place f e =
    let m = by_instance p class ss (position (λ (q : ℕ × ℕ). (q.0 == class.id) && (q.1 == n)) pairs) place e in
    (m.0, ap (λ o. slice_get (components_of o) place.1) f ∙ m.1)

pub found_declared : (p : Purpose) (library : List Class) (pairs : List (ℕ × ℕ)) (k n : ℕ) (ss : List Step) (place : ℕ × ℕ) → resolved p library pairs k n ss ≡ Ok place
    → (d : ComponentDecl) × (slice_get (declared_in library k) place.1 ≡ Some d)
found_declared p library pairs k n ss place e = by_class p library pairs k n ss (find (λ (class : Class). class.id == k) library) place refl e
