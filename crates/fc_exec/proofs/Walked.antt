-- The operations of selects, one layer after the other.
use Rattle.std.proofs.Common.{◌≡◌, ℕ, List, [], ◌∷◌, ◌++◌, map, refl, ap, ◌∙◌}
use Rattle.std.proofs.lemmas.List.{map-append}
use Rattle.std.specs.List.{flat_map}
use Rattle.fc_path.proofs.Flattening.{nested_leaves}
use Rattle.fc_path.specs.Leaves.{body_leaves, path_leaves}
use Rattle.fc_path.specs.declared.oper.Oper.TheVariants as oper
use Rattle.fc_path.specs.declared.oper.OperKind.{OperKind}
use Rattle.fc_path.specs.declared.oper.Step.{Step}
use Rattle.fc_path.specs.declared.path.PathData.{PathData}
use Rattle.fc_path.specs.declared.path.Body.TheVariants as v
use Rattle.fc_exec.specs.Operations.{oper_operations}
use Rattle.fc_exec.specs.declared.operations.Operation.TheVariants as operation

map_flat : {A B C : Type 0} (f : B → C) (g : A → List B) (xs : List A) → map f (flat_map g xs) ≡ flat_map (λ x. map f (g x)) xs
map_flat f g [] = refl
map_flat f g (x ∷ xs) = map-append f (g x) (flat_map g xs) ∙ ap (λ l. map f (g x) ++ l) (map_flat f g xs)

pub nested_operations : (k : OperKind) (c i : ℕ) (ps : List PathData) (steps : List Step)
    → map operation.Leaf (body_leaves k c i (v.Nested ps) steps) ≡ flat_map (λ p. map operation.Leaf (path_leaves k c i p steps)) ps
nested_operations k c i ps steps = ap (map operation.Leaf) (nested_leaves k c i ps steps) ∙ map_flat operation.Leaf (λ p. path_leaves k c i p steps) ps

pub paths_operations : (k : OperKind) (c i : ℕ) (ps : List PathData) → oper_operations c i (oper.Paths k ps) ≡ flat_map (λ p. map operation.Leaf (path_leaves k c i p [])) ps
paths_operations k c i ps = map_flat operation.Leaf (λ p. path_leaves k c i p []) ps
