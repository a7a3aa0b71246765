-- The response to a query, with a content for each leaf in reading order: RFC 5810, section 7.1.
use Rattle.std.specs.Prelude.{ℕ, ◌+◌, ◌++◌, List, [], ◌∷◌, map, Option}
use Rattle.fc_path.specs.Canon.{Written, plain, joined, wrapped, ilv_written, result_written}
use Rattle.fc_path.specs.Results.{response_kind}
use Rattle.fc_wire.specs.Types as types
use Rattle.fc_path.specs.declared.oper.Oper.{Oper}
use Rattle.fc_path.specs.declared.oper.Oper.TheVariants as oper
use Rattle.fc_path.specs.declared.oper.Select.{Select}
use Rattle.fc_path.specs.declared.path.Key.{Key}
use Rattle.fc_path.specs.declared.path.PathData.{PathData, roll-PathData}
use Rattle.fc_path.specs.declared.path.Body.{Body}
use Rattle.fc_path.specs.declared.path.Body.TheFolds.{fold-PathData, fold-Body}
use Rattle.fc_path.specs.declared.path.Body.TheOpen.{Body-F, PathData-F}
use Rattle.fc_path.specs.declared.path.Body.TheVariants as body
use Rattle.fc_ops.specs.declared.offers.Content.{Content}
use Rattle.fc_ops.specs.declared.offers.Content.TheVariants as content

-- what a leaf may hold, as a body and as it is written
abbrev pub content_body : Content → Body
content_body (content.Full value) = body.Full value
content_body (content.Sparse ilvs) = body.Sparse ilvs
content_body (content.Refused code) = body.Outcome code

abbrev pub content_written : Content → Written
content_written (content.Full value) = wrapped types.full_data (plain value)
content_written (content.Sparse ilvs) = wrapped types.sparse_data (joined (map ilv_written ilvs))
content_written (content.Refused code) = result_written code

-- the content of the next leaf, and those of the leaves behind it
abbrev pub next_of : List Content → Content × List Content
next_of [] = (content.Refused 0, [])
next_of (c ∷ cs) = (c, cs)

abbrev pub as_body : Content × List Content → Body × List Content
as_body x = (content_body x.0, x.1)

-- what is filled with the first contents, and the contents that are left
abbrev pub Filled : Type 0 → Type 0
Filled A = List Content → A × List Content

-- one after the other
abbrev pub behind : {A : Type 0} → A → List A × List Content → List A × List Content
behind x rest = (x ∷ rest.0, rest.1)

abbrev pub first_behind : {A : Type 0} → (List Content → List A × List Content) → A × List Content → List A × List Content
first_behind more x = behind x.0 (more x.1)

abbrev pub each_filled : {A : Type 0} → List (Filled A) → Filled (List A)
each_filled [] bs = ([], bs)
each_filled (f ∷ fs) bs = first_behind (each_filled fs) (f bs)

abbrev pub nested : List PathData × List Content → Body × List Content
nested x = (body.Nested x.0, x.1)

abbrev pub body_fill : Body-F (Filled Body) (Filled PathData) → Filled Body
body_fill Body-F.Nothing bs = as_body (next_of bs)
body_fill (Body-F.Full value) bs = as_body (next_of bs)
body_fill (Body-F.Sparse ilvs) bs = as_body (next_of bs)
body_fill (Body-F.Outcome code) bs = as_body (next_of bs)
body_fill (Body-F.Nested paths) bs = nested (each_filled paths bs)

abbrev pub path_with : List ℕ → Option Key → Body × List Content → PathData × List Content
path_with ids key x = (roll-PathData (record { ids = ids; key = key; body = x.0 }), x.1)

abbrev pub path_fill : PathData-F (Filled Body) (Filled PathData) → Filled PathData
path_fill p bs = path_with p.ids p.key (p.body bs)

abbrev pub path_filled : PathData → Filled PathData
path_filled = fold-PathData (Filled Body) (Filled PathData) body_fill path_fill

abbrev pub body_filled : Body → Filled Body
body_filled = fold-Body (Filled Body) (Filled PathData) body_fill path_fill

abbrev pub paths_filled : List PathData → Filled (List PathData)
paths_filled paths = each_filled (map path_filled paths)

-- how many leaves there are
abbrev pub counted : List ℕ → ℕ
counted [] = 0
counted (n ∷ ns) = n + counted ns

abbrev pub body_count : Body-F ℕ ℕ → ℕ
body_count Body-F.Nothing = 1
body_count (Body-F.Full value) = 1
body_count (Body-F.Sparse ilvs) = 1
body_count (Body-F.Outcome code) = 1
body_count (Body-F.Nested counts) = counted counts

abbrev pub path_count : PathData-F ℕ ℕ → ℕ
path_count p = p.body

abbrev pub leaves_in : PathData → ℕ
leaves_in = fold-PathData ℕ ℕ body_count path_count

abbrev pub leaves_of : Body → ℕ
leaves_of = fold-Body ℕ ℕ body_count path_count

abbrev pub leaves_in_all : List PathData → ℕ
leaves_in_all paths = counted (map leaves_in paths)

-- the operation that answers one; those without PATH-DATA stand in no query, and have no leaf
abbrev pub with_paths : (List PathData → Oper) → List PathData × List Content → Oper × List Content
with_paths wrap x = (wrap x.0, x.1)

abbrev pub oper_filled : Oper → Filled Oper
oper_filled (oper.Paths kind paths) cs = with_paths (oper.Paths (response_kind kind)) (paths_filled paths cs)
oper_filled oper.Commit cs = (oper.Commit, cs)
oper_filled oper.Trcomp cs = (oper.Trcomp, cs)
oper_filled (oper.CommitResponse code) cs = (oper.CommitResponse code, cs)

abbrev pub leaves_under : Oper → ℕ
leaves_under (oper.Paths kind paths) = leaves_in_all paths
leaves_under oper.Commit = 0
leaves_under oper.Trcomp = 0
leaves_under (oper.CommitResponse code) = 0

abbrev pub select_of : ℕ → ℕ → List Oper → Select
select_of class instance opers = record { class = class; instance = instance; opers = opers }

abbrev pub with_opers : ℕ → ℕ → List Oper × List Content → Select × List Content
with_opers class instance x = (select_of class instance x.0, x.1)

abbrev pub select_filled : Select → Filled Select
select_filled s cs = with_opers s.class s.instance (each_filled (map oper_filled s.opers) cs)

abbrev pub selects_filled : List Select → Filled (List Select)
selects_filled selects = each_filled (map select_filled selects)

abbrev pub leaves_in_select : Select → ℕ
leaves_in_select s = counted (map leaves_under s.opers)

abbrev pub leaves_in_selects : List Select → ℕ
leaves_in_selects selects = counted (map leaves_in_select selects)

-- with others in front
abbrev pub ahead : {A : Type 0} → List A → List A × List Content → List A × List Content
ahead xs r = (xs ++ r.0, r.1)
