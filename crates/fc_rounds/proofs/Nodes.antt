-- Elements by their IDs: what holds of each holds of the one that is found, and of all when one has changed.
use Rattle.std.proofs.Common.{◌≡◌, ℕ, ◌==◌, not, ◌&&◌, ◌||◌, if◌then◌else◌, Bool, true, false, List, [], ◌∷◌, Some, refl, sym, ap, ◌∙◌, eqb-true}
use Rattle.std.specs.List.{AllByRecursion}
use Rattle.fc_element.specs.ElementState.{ElementState}
use Rattle.fc_jobs.specs.Sending.{are_apart}
use Rattle.fc_protocol.specs.Collections.{among}
use Rattle.fc_world.specs.Lookups.{element_in, ids_of, node_with, with_element}
use Rattle.fc_world.specs.declared.nodes.Node.{Node}

-- the element that is found, as it stands among the others
pub record Found (P : Node → Type 0) (f : ℕ) (e : ElementState) : Type 0 where
  pub node : Node
  pub id : node.id ≡ f
  pub element : node.element ≡ e
  pub holds : P node

found_if : (P : Node → Type 0) (f : ℕ) (e : ElementState) (n : Node) (ns : List Node) (b : Bool) → (f == n.id) ≡ b → P n → (if b then Some n.element else element_in f ns) ≡ Some e
    → (element_in f ns ≡ Some e → Found P f e) → Found P f e
found_if P f e n ns true same holds is more = record { node = n; id = sym (eqb-true f n.id same); element = cc; holds = holds }
found_if P f e n ns false same holds is more = more is

pub found : (P : Node → Type 0) (f : ℕ) (e : ElementState) (ns : List Node) → AllByRecursion P ns → element_in f ns ≡ Some e → Found P f e
found P f e [] all is = absurd cc
found P f e (n ∷ ns) all is = found_if P f e n ns (f == n.id) refl all.0 is (λ more. found P f e ns all.1 more)

-- ---- one element has changed
-- the others are other elements
abbrev Others : ℕ → List Node → Type 0
Others f ns = AllByRecursion (λ (n : Node). (f == n.id) ≡ false) ns

-- no other element has the ID of the first
no_other : (f : ℕ) (ns : List Node) → among f (ids_of ns) ≡ false → Others f ns
no_other f [] none = tt
no_other f (n ∷ ns) none = by (f == n.id) (among f (ids_of ns)) refl refl none (λ rest. no_other f ns rest)
  where
    by : (b c : Bool) → (f == n.id) ≡ b → among f (ids_of ns) ≡ c → (b || c) ≡ false → (among f (ids_of ns) ≡ false → Others f ns) → Others f (n ∷ ns)
    by true c same rest h more = absurd cc
    by false true same rest h more = absurd cc
    by false false same rest h more = (same, more rest)

module _ (P Q : Node → Type 0) (f : ℕ) (e : ElementState) (changed : (n : Node) → n.id ≡ f → P n → Q (node_with e n)) (others : (n : Node) → (f == n.id) ≡ false → P n → Q n) where
  rest_as : (ns : List Node) → Others f ns → AllByRecursion P ns → AllByRecursion Q ns
  rest_as [] away all = tt
  rest_as (n ∷ ns) away all = (others n away.0 all.0, rest_as ns away.1 all.1)

  with_if : (n : Node) (ns : List Node) (b c : Bool) → (f == n.id) ≡ b → among n.id (ids_of ns) ≡ c → (not c && are_apart (ids_of ns)) ≡ true → P n → AllByRecursion P ns
      → (are_apart (ids_of ns) ≡ true → AllByRecursion Q (with_element f e ns)) → AllByRecursion Q (if b then node_with e n ∷ ns else n ∷ with_element f e ns)
  with_if n ns b true same rest apart holds all more = absurd cc
  with_if n ns true false same rest apart holds all more =
      (changed n (sym (eqb-true f n.id same)) holds, rest_as ns (no_other f ns (ap (λ k. among k (ids_of ns)) (eqb-true f n.id same) ∙ rest)) all)
  with_if n ns false false same rest apart holds all more = (others n same holds, more apart)

  pub all_with : (ns : List Node) → are_apart (ids_of ns) ≡ true → AllByRecursion P ns → AllByRecursion Q (with_element f e ns)
  all_with [] apart all = tt
  all_with (n ∷ ns) apart all = with_if n ns (f == n.id) (among n.id (ids_of ns)) refl refl apart all.0 all.1 (λ more. all_with ns more all.1)

-- the IDs stay
pub same_ids : (f : ℕ) (e : ElementState) (ns : List Node) → ids_of (with_element f e ns) ≡ ids_of ns
same_ids f e [] = refl
same_ids f e (n ∷ ns) = by (f == n.id) (same_ids f e ns)
  where
    by : (b : Bool) → ids_of (with_element f e ns) ≡ ids_of ns → ids_of (if b then node_with e n ∷ ns else n ∷ with_element f e ns) ≡ n.id ∷ ids_of ns
    by true more = refl
    by false more = ap (λ ks. n.id ∷ ks) more

-- what holds of all goes over to what follows from it
pub all_as : {P Q : Node → Type 0} → ((n : Node) → P n → Q n) → (ns : List Node) → AllByRecursion P ns → AllByRecursion Q ns
all_as to [] all = tt
all_as to (n ∷ ns) all = (to n all.0, all_as to ns all.1)
