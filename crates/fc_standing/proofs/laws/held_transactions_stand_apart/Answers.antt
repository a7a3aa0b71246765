use Rattle.fc_standing.proofs.Copies as copies
use Rattle.fc_standing.proofs.Places.{begun_is}
use Rattle.fc_standing.proofs.Standing as standing
use Rattle.fc_standing.proofs.laws.held_transactions_stand_apart.Goals as goal

pub returns-clause-begun : goal.returns-clause-begun
returns-clause-begun c = begun_is

pub returns-clause-marked : goal.returns-clause-marked
returns-clause-marked c = standing.marked_is

pub returns-clause-added : goal.returns-clause-added
returns-clause-added c = standing.added_is

pub returns-clause-undone : goal.returns-clause-undone
returns-clause-undone c = standing.undone_is

pub returns-clause-completed : goal.returns-clause-completed
returns-clause-completed c = standing.completed_is

pub returns-clause-beside : goal.returns-clause-beside
returns-clause-beside c = standing.beside_state

pub returns-clause-beside_codes : goal.returns-clause-beside_codes
returns-clause-beside_codes c = standing.beside_codes

pub returns-clause-working : goal.returns-clause-working
returns-clause-working c = copies.working_is

pub returns-clause-element : goal.returns-clause-element
returns-clause-element c = copies.element_works

pub returns-clause-copied : goal.returns-clause-copied
returns-clause-copied c = copies.copied_state

pub returns-clause-copied_codes : goal.returns-clause-copied_codes
returns-clause-copied_codes c = copies.copied_codes

pub returns-clause-settled : goal.returns-clause-settled
returns-clause-settled c = copies.settled_is
