-- A key has at most as many fields as its struct.
use Rattle.std.proofs.Common.{◌≡◌, refl, sym, ap, ◌∙◌, arith, ℕ, ◌==◌, ◌<◌, ◌≤◌, nat_eq, Bool, true, false, ◌&&◌, ◌||◌, List, [], ◌∷◌, map, length, inl, inr}
use Rattle.std.proofs.lemmas.Bool.Decides.{nat_tests}
use Rattle.std.proofs.lemmas.List.{length-map}
use Rattle.std.proofs.lemmas.Map.Made.{length-le_from_is_member}
use Rattle.std.proofs.lemmas.Cmp.{nat_eq_equiv}
use Rattle.std.specs.List.{list_all, list_any, find}
use Rattle.fc_types.specs.Ids.{is_distinct}
use Rattle.fc_types.specs.Types.{field_id, is_atom_field, is_key, names_atom, is_some_list}
use Rattle.fc_types.specs.declared.ty.Field.{Field}
use Rattle.fc_types.specs.declared.ty.KeyDecl.{KeyDecl}
use Rattle.fc_types.proofs.Bools.{both, three, true_or_false}
use Rattle.fc_types.proofs.Distinct.{distinct_from_test}

-- a field that is found stands among the fields
found_there : (fields : List Field) (id : ℕ) → is_atom_field (find (λ f. field_id f == id) fields) ≡ true → list_any (nat_eq id) (map field_id fields) ≡ true
found_there [] id e = absurd (cc)
found_there (f ∷ fs) id e =
    elim (true_or_false (field_id f == id)) [
      | inl same ↦ let turned : nat_eq id (field_id f) ≡ true = grind (arith, nat_tests) in rw turned refl
      | inr other ↦
          let turned : nat_eq id (field_id f) ≡ false = grind (arith, nat_tests) in
          let later : is_atom_field (find (λ g. field_id g == id) fs) ≡ true = rw other at e in
          rw turned (found_there fs id later)
    ]

all_there : (fields : List Field) (ids : List ℕ) → list_all (names_atom fields) ids ≡ true → (q : ℕ) → list_any (nat_eq q) ids ≡ true → list_any (nat_eq q) (map field_id fields) ≡ true
all_there fields [] all q e = absurd (cc)
all_there fields (id ∷ ids) all q e =
    let parts : (names_atom fields id ≡ true) × (list_all (names_atom fields) ids ≡ true) = both _ _ all in
    elim (true_or_false (nat_eq q id)) [
      | inl same ↦ let is : q ≡ id = grind (arith, nat_tests) in rw is (found_there fields id parts.0)
      | inr other ↦ let later : list_any (nat_eq q) ids ≡ true = rw other at e in all_there fields ids parts.1 q later
    ]

few_fields : (fields : List Field) (key : KeyDecl) → is_key fields key ≡ true → length key.fields ≤ length fields
few_fields fields key e =
    let parts : (is_some_list key.fields ≡ true) × (is_distinct nat_eq key.fields ≡ true) × (list_all (names_atom fields) key.fields ≡ true) = three _ _ _ e in
    let few : length key.fields ≤ length (map field_id fields) =
    length-le_from_is_member {eq = nat_eq} nat_eq_equiv key.fields (map field_id fields) (distinct_from_test nat_eq key.fields parts.1) (all_there fields key.fields parts.2) in
    omega (arith, length-map fields field_id)

pub too_many : (fields : List Field) (key : KeyDecl) → length fields < length key.fields → is_key fields key ≡ false
too_many fields key more =
    elim (true_or_false (is_key fields key)) [
      | inl kept ↦ let few : length key.fields ≤ length fields = few_fields fields key kept in absurd (omega arith)
      | inr broken ↦ broken
    ]
