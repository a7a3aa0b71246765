-- The leaves of nested PATH-DATA.
use Rattle.std.proofs.Common.{◌≡◌, ℕ, List, [], ◌∷◌, ◌++◌, map, refl, ap, ◌∙◌, rules}
use Rattle.std.specs.List.{flat_map}
use Rattle.fc_path.specs.Leaves.{Given, body_given, body_leaves, path_leaves}
use Rattle.fc_path.specs.declared.oper.OperKind.{OperKind}
use Rattle.fc_path.specs.declared.oper.Step.{Step}
use Rattle.fc_path.specs.declared.path.PathData.{PathData}
use Rattle.fc_path.specs.declared.path.Body.{the_lemmas}
use Rattle.fc_path.specs.declared.path.Body.TheOpen.{Body-F}
use Rattle.fc_path.specs.declared.path.Body.TheVariants as v

nested_given : (kind : OperKind) (class instance : ℕ) (ps : List PathData) → body_leaves kind class instance (v.Nested ps) ≡ body_given kind class instance (Body-F.Nested (map (path_leaves kind class instance) ps))
nested_given kind class instance ps = search (rules, the_lemmas)

given_all : (f : PathData → Given) (ps : List PathData) (steps : List Step) → flat_map (λ (given : Given). given steps) (map f ps) ≡ flat_map (λ p. f p steps) ps
given_all f [] steps = refl
given_all f (p ∷ ps) steps = ap (λ l. f p steps ++ l) (given_all f ps steps)

pub nested_leaves : (kind : OperKind) (class instance : ℕ) (ps : List PathData) (steps : List Step)
    → body_leaves kind class instance (v.Nested ps) steps ≡ flat_map (λ p. path_leaves kind class instance p steps) ps
nested_leaves kind class instance ps steps = ap (λ (given : Given). given steps) (nested_given kind class instance ps) ∙ given_all (path_leaves kind class instance) ps steps
