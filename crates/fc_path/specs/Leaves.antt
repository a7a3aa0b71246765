-- The leaves of a select: each PATH-DATA that holds no others, in reading order, with the steps of all PATH-DATA that it
-- stands in, from outside to inside: RFC 5810, section 7.1.
use Rattle.std.specs.Prelude.{ℕ, List, [], ◌∷◌, ◌++◌, map, Option, Some, None}
use Rattle.std.specs.List.{flat_map}
use Rattle.fc_path.specs.declared.oper.Leaf.{Leaf}
use Rattle.fc_path.specs.declared.oper.OperKind.{OperKind}
use Rattle.fc_path.specs.declared.oper.Oper.{Oper}
use Rattle.fc_path.specs.declared.oper.Oper.TheVariants as oper
use Rattle.fc_path.specs.declared.oper.Select.{Select}
use Rattle.fc_path.specs.declared.oper.Step.{Step}
use Rattle.fc_path.specs.declared.oper.Step.TheVariants as step
use Rattle.fc_path.specs.declared.path.Key.{Key}
use Rattle.fc_path.specs.declared.path.PathData.{PathData}
use Rattle.fc_path.specs.declared.path.Body.{Body}
use Rattle.fc_path.specs.declared.path.Body.TheFolds.{fold-PathData, fold-Body}
use Rattle.fc_path.specs.declared.path.Body.TheOpen.{Body-F, PathData-F}
use Rattle.fc_path.specs.declared.path.Body.TheVariants as body

-- the steps of one PATH-DATA: its IDs, and then its key
abbrev pub key_steps : Option Key → List Step
key_steps None = []
key_steps (Some key) = step.Key key.ident key.value ∷ []

abbrev pub own_steps : List ℕ → Option Key → List Step
own_steps ids key = map step.Id ids ++ key_steps key

-- what a PATH-DATA gives behind the steps that lead to it
abbrev pub Given : Type 0
Given = List Step → List Leaf

abbrev pub leaf : OperKind → ℕ → ℕ → List Step → Body → List Leaf
leaf kind class instance steps b =
    record { kind = kind; spot = record { class = class; instance = instance; steps = steps }; body = b } ∷ []

abbrev pub body_given : OperKind → ℕ → ℕ → Body-F Given Given → Given
body_given kind class instance Body-F.Nothing steps = leaf kind class instance steps body.Nothing
body_given kind class instance (Body-F.Full value) steps = leaf kind class instance steps (body.Full value)
body_given kind class instance (Body-F.Sparse ilvs) steps = leaf kind class instance steps (body.Sparse ilvs)
body_given kind class instance (Body-F.Outcome code) steps = leaf kind class instance steps (body.Outcome code)
body_given kind class instance (Body-F.Nested paths) steps = flat_map (λ given. given steps) paths

abbrev pub path_given : PathData-F Given Given → Given
path_given path steps = path.body (steps ++ own_steps path.ids path.key)

abbrev pub path_leaves : OperKind → ℕ → ℕ → PathData → Given
path_leaves kind class instance = fold-PathData Given Given (body_given kind class instance) path_given

abbrev pub body_leaves : OperKind → ℕ → ℕ → Body → Given
body_leaves kind class instance = fold-Body Given Given (body_given kind class instance) path_given

-- COMMIT, TRCOMP and COMMIT-RESPONSE have no leaf
abbrev pub oper_leaves : ℕ → ℕ → Oper → List Leaf
oper_leaves class instance (oper.Paths kind paths) = flat_map (λ path. path_leaves kind class instance path []) paths
oper_leaves class instance oper.Commit = []
oper_leaves class instance oper.Trcomp = []
oper_leaves class instance (oper.CommitResponse code) = []

abbrev pub select_leaves : Select → List Leaf
select_leaves select = flat_map (oper_leaves select.class select.instance) select.opers
