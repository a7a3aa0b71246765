use Rattle.fc_configuration.proofs.Keyed.{found_by_ids, merged_by_ids, put_by_ids, removed_by_ids}
use Rattle.fc_configuration.proofs.laws.a_spot_leads_to_one_place.Goals as goal

pub returns-clause-found : goal.returns-clause-found
returns-clause-found c = found_by_ids

pub returns-clause-put : goal.returns-clause-put
returns-clause-put c = put_by_ids

pub returns-clause-merged : goal.returns-clause-merged
returns-clause-merged c = merged_by_ids

pub returns-clause-removed : goal.returns-clause-removed
returns-clause-removed c = removed_by_ids
