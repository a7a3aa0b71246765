use Rattle.fc_standing.proofs.Records as records
use Rattle.fc_standing.proofs.laws.a_rest_is_done_or_leaves_all.Goals as goal

pub returns-clause-held : goal.returns-clause-held
returns-clause-held c = records.are_held

pub returns-clause-begins : goal.returns-clause-begins
returns-clause-begins c = records.may_begin

pub returns-clause-beside : goal.returns-clause-beside
returns-clause-beside c = records.lie_beside

pub returns-clause-codes : goal.returns-clause-codes
returns-clause-codes c = records.rest_is

pub returns-clause-inside : goal.returns-clause-inside
returns-clause-inside c = records.rest_inside

pub returns-clause-done : goal.returns-clause-done
returns-clause-done c = records.rest_done

pub returns-clause-left : goal.returns-clause-left
returns-clause-left c = records.rest_left
