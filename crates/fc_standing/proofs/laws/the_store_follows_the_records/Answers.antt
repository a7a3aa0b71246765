use Rattle.fc_standing.proofs.Entries as entries
use Rattle.fc_standing.proofs.laws.the_store_follows_the_records.Goals as goal

pub returns-clause-opens : goal.returns-clause-opens
returns-clause-opens c = entries.opens

pub returns-clause-prepares : goal.returns-clause-prepares
returns-clause-prepares c = entries.prepares

pub returns-clause-adds : goal.returns-clause-adds
returns-clause-adds c = entries.adds

pub returns-clause-undoes : goal.returns-clause-undoes
returns-clause-undoes c = entries.undoes

pub returns-clause-completes : goal.returns-clause-completes
returns-clause-completes c = entries.completes

pub returns-clause-claims : goal.returns-clause-claims
returns-clause-claims c = entries.claims
