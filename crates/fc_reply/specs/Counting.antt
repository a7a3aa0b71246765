-- The same code for each operation of a Config, where none of them is done: an operation is a leaf, a COMMIT or a TRCOMP. This profile's own.
use Rattle.std.specs.Prelude.{ℕ, List, [], ◌∷◌, map}
use Rattle.std.specs.List.{flat_map}
use Rattle.fc_path.specs.declared.oper.Oper.{Oper}
use Rattle.fc_path.specs.declared.oper.Oper.TheVariants as oper
use Rattle.fc_path.specs.declared.oper.Select.{Select}
use Rattle.fc_path.specs.declared.path.PathData.{PathData}
use Rattle.fc_path.specs.declared.path.Body.{Body}
use Rattle.fc_path.specs.declared.path.Body.TheFolds.{fold-PathData, fold-Body}
use Rattle.fc_path.specs.declared.path.Body.TheOpen.{Body-F, PathData-F}

abbrev pub joined : List (List ℕ) → List ℕ
joined lists = flat_map (λ codes. codes) lists

abbrev pub body_step : ℕ → Body-F (List ℕ) (List ℕ) → List ℕ
body_step code Body-F.Nothing = code ∷ []
body_step code (Body-F.Full value) = code ∷ []
body_step code (Body-F.Sparse ilvs) = code ∷ []
body_step code (Body-F.Outcome other) = code ∷ []
body_step code (Body-F.Nested paths) = joined paths

abbrev pub path_step : PathData-F (List ℕ) (List ℕ) → List ℕ
path_step p = p.body

abbrev pub path_gets : ℕ → PathData → List ℕ
path_gets code = fold-PathData (List ℕ) (List ℕ) (body_step code) path_step

abbrev pub body_gets : ℕ → Body → List ℕ
body_gets code = fold-Body (List ℕ) (List ℕ) (body_step code) path_step

abbrev pub paths_get : ℕ → List PathData → List ℕ
paths_get code paths = joined (map (path_gets code) paths)

abbrev pub oper_gets : ℕ → Oper → List ℕ
oper_gets code (oper.Paths kind paths) = paths_get code paths
oper_gets code oper.Commit = code ∷ []
oper_gets code oper.Trcomp = code ∷ []
oper_gets code (oper.CommitResponse other) = []

abbrev pub select_gets : ℕ → Select → List ℕ
select_gets code s = flat_map (oper_gets code) s.opers

abbrev pub each_gets : ℕ → List Select → List ℕ
each_gets code selects = flat_map (select_gets code) selects
