use Rattle.fc_cells.proofs.Merging.{Merged, merge_under, merged_above, puts_are_found, unmoved, unnamed_stay}
use Rattle.std.proofs.Common.{◌++◌, ◌∷◌}
use Rattle.fc_cells.proofs.Under.{Never, others_stay}
use Rattle.fc_cells.proofs.laws.a_merge_changes_what_it_names.Goals as goal

pub returns-clause-put : goal.returns-clause-put
returns-clause-put c = λ ty v w ids ilvs h e. puts_are_found 8 ids ilvs ty v w h (merge_under ids ilvs ty v w e)

pub returns-clause-unnamed : goal.returns-clause-unnamed
returns-clause-unnamed c = λ ty v w ids ilvs id others e n. unnamed_stay ids ilvs id others ty v w (merge_under ids ilvs ty v w e) n

pub returns-clause-other : goal.returns-clause-other
returns-clause-other c = λ ty v w ids ilvs others e a. others_stay Never (Merged ilvs) ids others ty v w (merge_under ids ilvs ty v w e) a

pub returns-clause-above : goal.returns-clause-above
returns-clause-above c = λ ty v w front ids ilvs e. merged_above front ids ilvs ty v w (merge_under (front ++ ids) ilvs ty v w e)

pub returns-clause-path : goal.returns-clause-path
returns-clause-path c = λ ty part v w node ids first more path others h e p f a. unmoved ids path 8 first more others ty v w (part, node) h (merge_under ids (first ∷ more) ty v w e) p f a
