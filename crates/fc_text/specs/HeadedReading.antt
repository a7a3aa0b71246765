-- What is read behind the first line of a part, by what that line says. This profile's own.
use Rattle.std.specs.Prelude.{ℕ, ◌+◌, List, Option, Ok}
use Rattle.fc_base.specs.Answers.{◌>>=◌}
use Rattle.fc_path.specs.declared.path.Body.{Body}
use Rattle.fc_path.specs.declared.path.Body.TheVariants as body
use Rattle.fc_path.specs.declared.path.Key.{Key}
use Rattle.fc_path.specs.declared.path.PathData.{PathData}
use Rattle.fc_lines.specs.LineReading.{BodyHead, LeafHead, Reader, full, ilv_at, leaf, outcome, path, sparse}
use Rattle.fc_text.specs.TextReading.{and_more, many_at, path_data, path_line}

-- a PATH-DATA with these IDs and this key, by what reads its body one level deeper
unfoldable pub path_of : (ℕ → Reader Body) → ℕ → List ℕ × Option Key → Reader PathData
path_of inside level steps left = inside (level + 1) left >>= λ b. Ok (path_data steps b.0, b.1)

-- the same and others with it
unfoldable pub paths_of : (ℕ → Reader Body) → ℕ → List ℕ × Option Key → Reader (List PathData)
paths_of inside level steps left =
    path_of inside level steps left >>= λ x. and_more x.0 (many_at level (path_line inside level) x.1)

-- a body whose first line says this
abbrev pub leaf_of : ℕ → LeafHead → Reader Body
leaf_of level (full value) left = Ok (body.Full value, left)
leaf_of level sparse left = many_at (level + 1) (ilv_at (level + 1)) left >>= λ ilvs. Ok (body.Sparse ilvs.0, ilvs.1)
leaf_of level (outcome code) left = Ok (body.Outcome code, left)

abbrev pub body_of : (ℕ → Reader Body) → ℕ → BodyHead → Reader Body
body_of inside level (leaf head) left = leaf_of level head left
body_of inside level (path steps) left = paths_of inside level steps left >>= λ paths. Ok (body.Nested paths.0, paths.1)
