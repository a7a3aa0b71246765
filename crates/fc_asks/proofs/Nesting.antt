-- The codes of nested PATH-DATA.
use Rattle.std.proofs.Common.{◌≡◌, ℕ, List, [], ◌∷◌, ◌++◌, map, refl, ap, ◌∙◌, rules}
use Rattle.std.specs.List.{flat_map}
use Rattle.fc_asks.specs.Codes.{body_step, body_codes, path_codes}
use Rattle.fc_path.specs.declared.path.PathData.{PathData}
use Rattle.fc_path.specs.declared.path.Body.{the_lemmas}
use Rattle.fc_path.specs.declared.path.Body.TheOpen.{Body-F}
use Rattle.fc_path.specs.declared.path.Body.TheVariants as v

nested_step : (ps : List PathData) → body_codes (v.Nested ps) ≡ body_step (Body-F.Nested (map path_codes ps))
nested_step ps = search (rules, the_lemmas)

all_codes : (f : PathData → List ℕ) (ps : List PathData) → flat_map (λ (cs : List ℕ). cs) (map f ps) ≡ flat_map f ps
all_codes f [] = refl
all_codes f (p ∷ ps) = ap (λ l. f p ++ l) (all_codes f ps)

pub nested_codes : (ps : List PathData) → body_codes (v.Nested ps) ≡ flat_map path_codes ps
nested_codes ps = nested_step ps ∙ all_codes path_codes ps
