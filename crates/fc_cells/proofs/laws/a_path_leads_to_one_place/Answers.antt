use Rattle.fc_cells.proofs.Placing.{merged_at_ids, place_again, put_at_ids, removed_at_ids, walked_at}
use Rattle.fc_cells.proofs.laws.a_path_leads_to_one_place.Goals as goal

pub returns-clause-found : goal.returns-clause-found
returns-clause-found c = λ ty v path h. walked_at 8 path ty v h

pub returns-clause-put : goal.returns-clause-put
returns-clause-put c = λ ty v path bytes h. put_at_ids bytes 8 path ty v h

pub returns-clause-merged : goal.returns-clause-merged
returns-clause-merged c = λ ty v path ilvs h. merged_at_ids ilvs 8 path ty v h

pub returns-clause-removed : goal.returns-clause-removed
returns-clause-removed c = λ ty v path h. removed_at_ids 8 path ty v h

pub returns-clause-own : goal.returns-clause-own
returns-clause-own c = λ ty v path ids h e. place_again 8 path ty v ids h e
