-- The text of nested PATH-DATA.
use Rattle.std.proofs.Common.{◌≡◌, ℕ, List, [], ◌∷◌, ◌++◌, map, refl, ap, ◌∙◌, rules}
use Rattle.std.specs.List.{flat_map}
use Rattle.fc_text.specs.Text.{AtLevel, body_at, body_text, path_text}
use Rattle.fc_path.specs.declared.path.PathData.{PathData}
use Rattle.fc_path.specs.declared.path.Body.{the_lemmas}
use Rattle.fc_path.specs.declared.path.Body.TheOpen.{Body-F}
use Rattle.fc_path.specs.declared.path.Body.TheVariants as v

nested_at : (ps : List PathData) → body_text (v.Nested ps) ≡ body_at (Body-F.Nested (map path_text ps))
nested_at ps = search (rules, the_lemmas)

at_all : (ps : List PathData) (level : ℕ) → flat_map (λ (at : AtLevel). at level) (map path_text ps) ≡ flat_map (λ p. path_text p level) ps
at_all [] level = refl
at_all (p ∷ ps) level = ap (λ l. path_text p level ++ l) (at_all ps level)

pub nested_text : (ps : List PathData) (level : ℕ) → body_text (v.Nested ps) level ≡ flat_map (λ p. path_text p level) ps
nested_text ps level = ap (λ (at : AtLevel). at level) (nested_at ps) ∙ at_all ps level
