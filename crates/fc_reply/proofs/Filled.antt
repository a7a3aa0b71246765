-- How PATH-DATA are filled, and how they are with results alone, as equations of functions.
use Rattle.std.proofs.Common.{◌≡◌, ℕ, List, map, rules}
use Rattle.fc_wire.specs.declared.ilvs.Ilv.{Ilv}
use Rattle.fc_path.specs.Results.{path_results, body_results}
use Rattle.fc_path.specs.declared.path.PathData.{PathData, roll-PathData}
use Rattle.fc_path.specs.declared.path.Body.{Body, the_lemmas}
use Rattle.fc_path.specs.declared.path.Body.TheVariants as v
use Rattle.fc_ops.specs.Filling.{Filled, as_body, next_of, nested, each_filled, path_with, path_filled, body_filled}

-- the body of the next leaf
abbrev pub leaf_filled : Filled Body
leaf_filled cs = as_body (next_of cs)

pub nothing_filled : body_filled v.Nothing ≡ leaf_filled
nothing_filled = search (rules, the_lemmas)

pub full_filled : (value : List ℕ) → body_filled (v.Full value) ≡ leaf_filled
full_filled value = search (rules, the_lemmas)

pub sparse_filled : (ilvs : List Ilv) → body_filled (v.Sparse ilvs) ≡ leaf_filled
sparse_filled ilvs = search (rules, the_lemmas)

pub outcome_filled : (code : ℕ) → body_filled (v.Outcome code) ≡ leaf_filled
outcome_filled code = search (rules, the_lemmas)

pub nested_filled : (ps : List PathData) → body_filled (v.Nested ps) ≡ (λ cs. nested (each_filled (map path_filled ps) cs))
nested_filled ps = search (rules, the_lemmas)

pub path_filled_is : (p : PathData) → path_filled p ≡ (λ cs. path_with p.ids p.key (body_filled p.body cs))
path_filled_is p = search (rules, the_lemmas)

pub nothing_result : body_results v.Nothing ≡ v.Outcome 0
nothing_result = search (rules, the_lemmas)

pub full_result : (value : List ℕ) → body_results (v.Full value) ≡ v.Outcome 0
full_result value = search (rules, the_lemmas)

pub sparse_result : (ilvs : List Ilv) → body_results (v.Sparse ilvs) ≡ v.Outcome 0
sparse_result ilvs = search (rules, the_lemmas)

pub outcome_result : (code : ℕ) → body_results (v.Outcome code) ≡ v.Outcome 0
outcome_result code = search (rules, the_lemmas)

pub nested_result : (ps : List PathData) → body_results (v.Nested ps) ≡ v.Nested (map path_results ps)
nested_result ps = search (rules, the_lemmas)

pub path_results_is : (p : PathData) → path_results p ≡ roll-PathData (record { ids = p.ids; key = p.key; body = body_results p.body })
path_results_is p = search (rules, the_lemmas)
