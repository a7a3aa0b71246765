-- The faults of the last keys of a component are those of the component.
use Rattle.std.proofs.Common.{◌≡◌, ℕ, Bool, false, List, ◌∷◌, codes, Result, Ok, Err, subst}
use Rattle.toml.specs.Data.{Members}
use Rattle.fc_library.specs.Declarations.{component}
use Rattle.fc_library.specs.Gives.{Gives}
use Rattle.fc_library.specs.Keys.{only, number_at, number_or, text_at, truth_or}
use Rattle.fc_library.specs.Names.{named, type_at, type_keys}
use Rattle.fc_library.specs.Types.{type_of}
use Rattle.fc_library.specs.declared.fault.LibFault.{LibFault}
use Rattle.fc_library.specs.declared.names.TypeName.{TypeName}
use Rattle.fc_library.proofs.Chain.{bind_fails, goes_on}

module _ (f : LibFault) (ms : Members) (id : ℕ) (name : List ℕ) (more : List (List ℕ)) (u : Unit) (own : more ≡ type_keys (named ms))
    (only_known : only (codes "id" ∷ codes "name" ∷ codes "type" ∷ codes "access" ∷ codes "optional" ∷ more) ms ≡ Ok u)
    (has_id : number_at (codes "id") 1 4294967295 ms ≡ Ok id) (has_name : text_at (codes "name") ms ≡ Ok name) where
  known : only (codes "id" ∷ codes "name" ∷ codes "type" ∷ codes "access" ∷ codes "optional" ∷ type_keys (named ms)) ms ≡ Ok u
  known = subst (λ keys. only (codes "id" ∷ codes "name" ∷ codes "type" ∷ codes "access" ∷ codes "optional" ∷ keys) ms ≡ Ok u) own only_known

  pub word_fails : Gives (Err f) (type_at ms) → Gives (Err f) (component ms)
  word_fails h = goes_on f _ u _ known (goes_on f _ id _ has_id (goes_on f _ name _ has_name (bind_fails f _ _ h)))

  module _ (word : TypeName) (access : ℕ) (has_word : type_at ms ≡ Ok word) (has_access : number_or 3 (codes "access") 3 ms ≡ Ok access) where
    pub optional_fails : Gives (Err f) (truth_or false (codes "optional") ms) → Gives (Err f) (component ms)
    optional_fails h =
        goes_on f _ u _ known (goes_on f _ id _ has_id (goes_on f _ name _ has_name (goes_on f _ word _ has_word (goes_on f _ access _ has_access (bind_fails f _ _ h)))))

    pub type_fails : (optional : Bool) → truth_or false (codes "optional") ms ≡ Ok optional → Gives (Err f) (type_of word ms) → Gives (Err f) (component ms)
    type_fails optional has_optional h =
        goes_on f _ u _ known (goes_on f _ id _ has_id (goes_on f _ name _ has_name (goes_on f _ word _ has_word (goes_on f _ access _ has_access
        (goes_on f _ optional _ has_optional (bind_fails f _ _ h))))))
