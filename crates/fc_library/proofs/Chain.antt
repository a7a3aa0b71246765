-- How a reader's answer follows from the answers of its parts.
use Rattle.std.proofs.Common.{◌++◌, ◌||◌, ◌≡◌, ◌≢◌, ℕ, Bool, true, false, List, [], ◌∷◌, Option, Some, None, IfSome, Result, Ok, Err, String, Global, string_bytes, Less, refl, sym, subst, inl, inr}
use Rattle.std.proofs.lemmas.Bool.{cases_Bool}
use Rattle.std.proofs.lemmas.List.Folds.{list_any-append}
use Rattle.std.specs.List.{AllByRecursion}
use Rattle.std.specs.List.Sorted.{IsStrictlySortedBy}
use Rattle.std.specs.Map.{keys_of as entry_keys}
use Rattle.std.specs.Str.{bytes_eq}
use Rattle.std.specs.String.{string_cmp}
use Rattle.toml.proofs.Views.{Entry}
use Rattle.toml.specs.View.{members_view}
use Rattle.fc_library.specs.declared.fault.LibFault.{LibFault}
use Rattle.fc_library.specs.declared.fault.LibFault.TheVariants.{NotToml, Unknown, Missing, WrongKind, Check, Rule, StepText, Memory}
use Rattle.fc_base.specs.Answers.{◌>>=◌}
use Rattle.fc_library.specs.Gives.{GivesBy, Gives, told}
use Rattle.fc_library.specs.Keys.{is_among, unknown_keys, least_from, only}

-- a fault that is the one meant, unless memory ran out
pub gives_fault : {A B : Type 0} (h : A → B) (f g : LibFault) (meant : Result B LibFault) → (f ≢ Memory → f ≡ g) → meant ≡ Err g → GivesBy h (Err f) meant
gives_fault h NotToml g meant same e = rw (same (λ x. cc)) e
gives_fault h (Unknown k) g meant same e = rw (same (λ x. cc)) e
gives_fault h (Missing k) g meant same e = rw (same (λ x. cc)) e
gives_fault h (WrongKind k) g meant same e = rw (same (λ x. cc)) e
gives_fault h (Check k) g meant same e = rw (same (λ x. cc)) e
gives_fault h (Rule k) g meant same e = rw (same (λ x. cc)) e
gives_fault h (StepText k) g meant same e = rw (same (λ x. cc)) e
gives_fault h Memory g meant same e = tt

-- the fault of a reader is that of the chain that it begins
told_on : {A B : Type 0} (o : Option LibFault) (r : Result A LibFault) (next : A → Result B LibFault) → IfSome o (λ fault. r ≡ Err fault) → IfSome o (λ fault. (r >>= next) ≡ Err fault)
told_on None r next h = tt
told_on (Some fault) (Ok x) next h = cc
told_on (Some fault) (Err other) next h = cc

pub bind_fails : {A B : Type 0} (f : LibFault) (r : Result A LibFault) (next : A → Result B LibFault) → Gives {A = A} (Err f) r → Gives {A = B} (Err f) (r >>= next)
bind_fails f r next h = told_on (told f) r next h

-- and where that one gives something, the fault of the rest is that of the chain
pub goes_on : {A B : Type 0} (f : LibFault) (r : Result A LibFault) (x : A) (next : A → Result B LibFault) → r ≡ Ok x → Gives {A = B} (Err f) (next x) → Gives {A = B} (Err f) (r >>= next)
goes_on f r x next e h = subst (λ (s : Result _ LibFault). Gives (Err f) (s >>= next)) (sym e) h

-- a key before others, by the bytes of both, is the least of all, and so of those that are not known
pub first_is_least : (known : List (List ℕ)) (name : String Global) (es : List Entry) → AllByRecursion (λ y. string_cmp name y ≡ Less) (entry_keys es)
    → least_from (string_bytes name) (unknown_keys known (members_view es)) ≡ string_bytes name
first_is_least known name [] h = refl
first_is_least known name (e ∷ es) h =
    elim (cases_Bool (is_among (string_bytes e.0) known)) [
      | inl found ↦ rw found (first_is_least known name es h.1)
      | inr absent ↦ rw (absent, h.0) (first_is_least known name es h.1)
    ]

pub other_key : (found : Bool) (name : List ℕ) (e : Entry) (es : List Entry) (known : List (List ℕ)) (meant : Result Unit LibFault) (f : LibFault)
    → found ≡ false → found ≡ is_among name known → name ≡ string_bytes e.0 → (f ≢ Memory → f ≡ Unknown name)
    → IsStrictlySortedBy string_cmp (entry_keys (e ∷ es)) → only known (members_view (e ∷ es)) ≡ meant → Gives (Err f) meant
unfolding IsStrictlySortedBy
other_key found name e es known meant f absent_name is same fault sorted meaning =
    let absent : is_among (string_bytes e.0) known ≡ false = rw (← same, ← is) absent_name in
    let told : Err (Unknown (string_bytes e.0)) ≡ meant = rw (absent, first_is_least known e.0 es sorted.0) at meaning in
    gives_fault (λ x. x) f (Unknown name) meant fault (rw same (sym told))

pub known_key : (found : Bool) (name : List ℕ) (e : Entry) (es : List Entry) (known : List (List ℕ)) (meant : Result Unit LibFault)
    → found ≡ true → found ≡ is_among name known → name ≡ string_bytes e.0
    → only known (members_view (e ∷ es)) ≡ meant → only known (members_view es) ≡ meant
known_key found name e es known meant present_name is same meaning =
    let present : is_among (string_bytes e.0) known ≡ true = rw (← same, ← is) present_name in
    rw present at meaning

pub later_keys : (e : Entry) (es : List Entry) → IsStrictlySortedBy string_cmp (entry_keys (e ∷ es)) → IsStrictlySortedBy string_cmp (entry_keys es)
unfolding IsStrictlySortedBy
later_keys e es sorted = sorted.1

pub among_either : (name : List ℕ) (own more : List (List ℕ)) → is_among name (own ++ more) ≡ (is_among name own || is_among name more)
among_either name own more = list_any-append (bytes_eq name) own more
