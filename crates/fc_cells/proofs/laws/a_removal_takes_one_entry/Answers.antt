use Rattle.std.proofs.Common.{◌++◌, ◌∷◌, []}
use Rattle.fc_cells.proofs.Removing.{Nothing, Taken, freed, gone, remains, removed_under}
use Rattle.fc_cells.proofs.Under.{above_stays, others_stay}
use Rattle.fc_cells.proofs.laws.a_removal_takes_one_entry.Goals as goal

pub returns-clause-gone : goal.returns-clause-gone
returns-clause-gone c = λ ty v w ids path sound h e p. gone ids path 8 ty v w sound h e p

pub returns-clause-free : goal.returns-clause-free
returns-clause-free c = λ ty array entry v w node old front id sound h r e f. freed front 8 id ty array entry v w node old h (removed_under (front ++ id ∷ []) 8 ty v w sound h r) e f

pub returns-clause-other : goal.returns-clause-other
returns-clause-other c = λ ty v w ids others sound h e a. others_stay Taken Nothing ids others ty v w (removed_under ids 8 ty v w sound h e) a

pub returns-clause-above : goal.returns-clause-above
returns-clause-above c = λ ty v w front id ids sound h e. above_stays Taken Nothing front id ids ty v w (removed_under (front ++ id ∷ ids) 8 ty v w sound h e)

pub returns-clause-path : goal.returns-clause-path
returns-clause-path c = λ ty part v w node ids path others sound h e p f a. remains ids path 8 others ty v w (part, node) sound h e a p f
