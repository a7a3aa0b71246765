-- How the contents of a query's leaves are chosen in one walk: what is known of the containers that are open is by how many bytes the one
-- with the least room may grow. This profile's own.
use Rattle.std.specs.Prelude.{ℕ, ◌+◌, ◌-◌, ◌&&◌, Bool, true, false, cond, nat_lt, List, [], ◌∷◌, ◌++◌, length, map, if◌then◌else◌}
use Rattle.std.specs.List.{fold}
use Rattle.fc_path.specs.Canon.{Written, joined, path_written, oper_written, select_written}
use Rattle.fc_path.specs.Results.{path_results, oper_results, select_results, response_kind}
use Rattle.fc_path.specs.declared.oper.Oper.{Oper}
use Rattle.fc_path.specs.declared.oper.Oper.TheVariants as oper
use Rattle.fc_path.specs.declared.oper.Select.{Select}
use Rattle.fc_path.specs.declared.path.PathData.{PathData, roll-PathData}
use Rattle.fc_path.specs.declared.path.Body.{Body}
use Rattle.fc_path.specs.declared.path.Body.TheFolds.{para-PathData, para-Body}
use Rattle.fc_path.specs.declared.path.Body.TheOpen.{Body-F, PathData-F}
use Rattle.fc_ops.specs.declared.offers.Content.{Content}
use Rattle.fc_ops.specs.declared.offers.Content.TheVariants as content
use Rattle.fc_ops.specs.Filling.{content_written, next_of}

-- the contents that were chosen, by how many bytes what is open may grow, and the contents that are still offered
pub record Going : Type 0 where
  pub chosen : List Content
  pub room : ℕ
  pub left : List Content

abbrev pub going : List Content → ℕ → List Content → Going
going chosen room left = record { chosen = chosen; room = room; left = left }

abbrev pub Walk : Type 0
Walk = Going → Going

-- whether what is written fits so many bytes
abbrev pub small : Written → ℕ → Bool
small w limit = nat_lt (length w.text) (limit + 1) && w.fits

abbrev pub gone : Bool → Content → Going → List Content → Going
gone true b st left = going (st.chosen ++ b ∷ []) (st.room + 8 - length (content_written b).text) left
gone false b st left = going (st.chosen ++ content.Refused 15 ∷ []) st.room left

abbrev pub pick : Going → Content × List Content → Going
pick st x = gone (small (content_written x.0) (st.room + 8)) x.0 st x.1

abbrev pub leaf_walk : Walk
leaf_walk st = pick st (next_of st.left)

-- a container that may itself grow by so many bytes
abbrev pub narrowed : ℕ → ℕ → ℕ
narrowed spare room = if nat_lt spare room then spare else room

abbrev pub widened : ℕ → Going → Going
widened more st = going st.chosen (st.room + more) st.left

abbrev pub in_box : ℕ → Walk → Walk
in_box spare walk st = widened (st.room - narrowed spare st.room) (walk (going st.chosen (narrowed spare st.room) st.left))

-- by how many bytes a container may grow whose bytes are at most so many
abbrev pub spare : ℕ → Written → ℕ
spare limit w = if w.fits then limit - length w.text else 0

abbrev pub walked : List Walk → Walk
walked walks st = fold (λ now walk. walk now) st walks

abbrev pub body_walk : Body-F (Body × Walk) (PathData × Walk) → Walk
body_walk Body-F.Nothing = leaf_walk
body_walk (Body-F.Full value) = leaf_walk
body_walk (Body-F.Sparse ilvs) = leaf_walk
body_walk (Body-F.Outcome code) = leaf_walk
body_walk (Body-F.Nested paths) = walked (map (λ p. p.1) paths)

abbrev pub path_walk : PathData-F (Body × Walk) (PathData × Walk) → Walk
path_walk p = in_box (spare 65535 (path_written (path_results (roll-PathData (record { ids = p.ids; key = p.key; body = p.body.0 }))))) p.body.1

abbrev pub through_path : PathData → Walk
through_path = para-PathData Walk Walk body_walk path_walk

abbrev pub through_body : Body → Walk
through_body = para-Body Walk Walk body_walk path_walk

-- operations and selects with results alone
abbrev pub oper_blank : Oper → Oper
oper_blank (oper.Paths kind paths) = oper.Paths (response_kind kind) (map path_results paths)
oper_blank oper.Commit = oper.Commit
oper_blank oper.Trcomp = oper.Trcomp
oper_blank (oper.CommitResponse code) = oper.CommitResponse code

abbrev pub select_blank : Select → Select
select_blank s = record { class = s.class; instance = s.instance; opers = map oper_blank s.opers }

-- the parts that answer an operation and a select with results alone
abbrev pub oper_part : Oper → Written
oper_part o = joined (map oper_written (oper_results o))

abbrev pub select_part : Select → Written
select_part s = joined (map select_written (select_results s))

abbrev pub through_oper : Oper → Walk
through_oper (oper.Paths kind paths) = in_box (spare 65535 (oper_part (oper.Paths kind paths))) (walked (map through_path paths))
through_oper oper.Commit = walked []
through_oper oper.Trcomp = walked []
through_oper (oper.CommitResponse code) = walked []

abbrev pub through_select : Select → Walk
through_select s = in_box (spare 65535 (select_part s)) (walked (map through_oper s.opers))
