-- Elements that are entered among others.
use Rattle.std.proofs.Common.{◌≡◌, ℕ, nat_lt, ◌&&◌, Bool, true, false, cond, List, [], ◌∷◌, refl}
use Rattle.std.proofs.lemmas.Bool.{and_parts}
use Rattle.std.specs.List.{list_all}
use Rattle.fc_documents.specs.Rules.{entered, entered_by}
use Rattle.fc_documents.specs.declared.tables.ChangeTable.{ChangeTable}
use Rattle.fc_documents.proofs.Chains.{both}
use Rattle.fc_documents.proofs.Grouping.{of_element}

module _ (P : ℕ → Bool) where
  entered_if : (a b : Bool) (e d : ℕ) (ds es : List ℕ) → P e ≡ true → P d ≡ true → list_all P ds ≡ true → list_all P es ≡ true
      → list_all P (cond a (e ∷ d ∷ ds) (cond b (d ∷ es) (d ∷ ds))) ≡ true
  entered_if true b e d ds es h k l m = both (P e) (P d && list_all P ds) h (both (P d) (list_all P ds) k l)
  entered_if false true e d ds es h k l m = both (P d) (list_all P es) k m
  entered_if false false e d ds es h k l m = both (P d) (list_all P ds) k l

  -- what holds of an element and of others holds of all of them
  entered_all : (e : ℕ) (ds : List ℕ) → P e ≡ true → list_all P ds ≡ true → list_all P (entered e ds) ≡ true
  entered_all e [] h k = both (P e) true h refl
  entered_all e (d ∷ ds) h k =
      let (here, there) = and_parts (P d) (list_all P ds) k in
      entered_if (nat_lt e d) (nat_lt d e) e d ds (entered e ds) h here there (entered_all e ds h there)

  pub all_entered : (cs : List ChangeTable) (es : List ℕ) → list_all (of_element P) cs ≡ true → list_all P es ≡ true → list_all P (entered_by cs es) ≡ true
  all_entered [] es h k = k
  all_entered (c ∷ cs) es h k =
      let (here, there) = and_parts (P c.element) (list_all (of_element P) cs) h in
      all_entered cs (entered c.element es) there (entered_all c.element es here k)
