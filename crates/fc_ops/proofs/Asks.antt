-- What the leaves of a select ask for, one layer after the other.
use Rattle.std.proofs.Common.{◌≡◌, ℕ, List, [], ◌∷◌, ◌++◌, map, refl, ap, ◌∙◌}
use Rattle.std.proofs.lemmas.List.{map-append}
use Rattle.std.specs.List.{flat_map}
use Rattle.fc_path.proofs.Flattening.{nested_leaves}
use Rattle.fc_path.specs.Leaves.{body_leaves, path_leaves, oper_leaves, select_leaves}
use Rattle.fc_path.specs.declared.oper.Oper.TheVariants as oper
use Rattle.fc_path.specs.declared.oper.OperKind.{OperKind}
use Rattle.fc_path.specs.declared.oper.Select.{Select}
use Rattle.fc_path.specs.declared.oper.Step.{Step}
use Rattle.fc_path.specs.declared.path.PathData.{PathData}
use Rattle.fc_path.specs.declared.path.Body.TheVariants as v
use Rattle.fc_ops.specs.Asking.{question}

map_flat : {A B C : Type 0} (f : B → C) (g : A → List B) (xs : List A) → map f (flat_map g xs) ≡ flat_map (λ x. map f (g x)) xs
map_flat f g [] = refl
map_flat f g (x ∷ xs) = map-append f (g x) (flat_map g xs) ∙ ap (λ l. map f (g x) ++ l) (map_flat f g xs)

pub nested_asked : (k : OperKind) (c i : ℕ) (ps : List PathData) (steps : List Step)
    → map question (body_leaves k c i (v.Nested ps) steps) ≡ flat_map (λ p. map question (path_leaves k c i p steps)) ps
nested_asked k c i ps steps = ap (map question) (nested_leaves k c i ps steps) ∙ map_flat question (λ p. path_leaves k c i p steps) ps

pub paths_asked : (k : OperKind) (c i : ℕ) (ps : List PathData)
    → map question (oper_leaves c i (oper.Paths k ps)) ≡ flat_map (λ p. map question (path_leaves k c i p [])) ps
paths_asked k c i ps = map_flat question (λ p. path_leaves k c i p []) ps

pub select_asked : (s : Select) → map question (select_leaves s) ≡ flat_map (λ o. map question (oper_leaves s.class s.instance o)) s.opers
select_asked s = map_flat question (oper_leaves s.class s.instance) s.opers
