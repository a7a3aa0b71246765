-- The response of results alone to selects: the same selects and path trees with a RESULT in each leaf. COMMIT becomes
-- COMMIT-RESPONSE, TRCOMP is left out, and so is a select that is left empty. RFC 5810, sections 7.1.6 and 7.1.7, in
-- this profile.
use Rattle.std.specs.Prelude.{◌≡◌, ◌<◌, ℕ, ◌&&◌, Bool, true, false, nat_lt, List, [], ◌∷◌, length, map, Option, Some, None}
use Rattle.std.specs.List.{flat_map}
use Rattle.fc_path.specs.Canon.{Written, joined, select_written}
use Rattle.fc_path.specs.declared.oper.OperKind.{OperKind}
use Rattle.fc_path.specs.declared.oper.OperKind.TheVariants as kinds
use Rattle.fc_path.specs.declared.oper.Oper.{Oper}
use Rattle.fc_path.specs.declared.oper.Oper.TheVariants as oper
use Rattle.fc_path.specs.declared.oper.Select.{Select}
use Rattle.fc_path.specs.declared.path.PathData.{PathData, roll-PathData}
use Rattle.fc_path.specs.declared.path.Body.{Body}
use Rattle.fc_path.specs.declared.path.Body.TheFolds.{fold-PathData, fold-Body}
use Rattle.fc_path.specs.declared.path.Body.TheOpen.{Body-F, PathData-F}
use Rattle.fc_path.specs.declared.path.Body.TheVariants as body

-- the operation that answers one
abbrev pub response_kind : OperKind → OperKind
response_kind kinds.Set = kinds.SetResponse
response_kind kinds.SetProp = kinds.SetPropResponse
response_kind kinds.Del = kinds.DelResponse
response_kind kinds.Get = kinds.GetResponse
response_kind kinds.GetProp = kinds.GetPropResponse
response_kind kinds.SetResponse = kinds.SetResponse
response_kind kinds.SetPropResponse = kinds.SetPropResponse
response_kind kinds.DelResponse = kinds.DelResponse
response_kind kinds.GetResponse = kinds.GetResponse
response_kind kinds.GetPropResponse = kinds.GetPropResponse
response_kind kinds.Report = kinds.Report

-- with a RESULT in each leaf
abbrev pub result_step : Body-F Body PathData → Body
result_step Body-F.Nothing = body.Outcome 0
result_step (Body-F.Full value) = body.Outcome 0
result_step (Body-F.Sparse ilvs) = body.Outcome 0
result_step (Body-F.Outcome code) = body.Outcome 0
result_step (Body-F.Nested paths) = body.Nested paths

abbrev pub path_result_step : PathData-F Body PathData → PathData
path_result_step p = roll-PathData (record { ids = p.ids; key = p.key; body = p.body })

abbrev pub path_results : PathData → PathData
path_results = fold-PathData Body PathData result_step path_result_step

abbrev pub body_results : Body → Body
body_results = fold-Body Body PathData result_step path_result_step

abbrev pub oper_results : Oper → List Oper
oper_results (oper.Paths kind paths) = oper.Paths (response_kind kind) (map path_results paths) ∷ []
oper_results oper.Commit = oper.CommitResponse 0 ∷ []
oper_results oper.Trcomp = []
oper_results (oper.CommitResponse code) = []

abbrev pub select_with : Select → List Oper → List Select
select_with select [] = []
select_with select (o ∷ os) = record { class = select.class; instance = select.instance; opers = o ∷ os } ∷ []

abbrev pub select_results : Select → List Select
select_results select = select_with select (flat_map oper_results select.opers)

-- what the response writes behind its header
abbrev pub results_written : List Select → Written
results_written selects = joined (map select_written (flat_map select_results selects))

-- each length in it fits, and it is at most 65,535 words with the header's six
abbrev pub results_fit : List Select → Bool
results_fit selects = nat_lt (length (results_written selects).text) 262117 && (results_written selects).fits

-- how many bytes a spelling has, where each length in it fits
abbrev pub Sized : Option ℕ → Written → Type 0
Sized (Some n) w = (w.fits ≡ true) × (length w.text ≡ n)
Sized None w = w.fits ≡ false

-- the same, where it also has fewer than so many bytes
abbrev pub Held : ℕ → Option ℕ → Written → Type 0
Held limit (Some n) w = (w.fits ≡ true) × (length w.text ≡ n) × (n < limit)
Held limit None w = (nat_lt (length w.text) limit && w.fits) ≡ false
