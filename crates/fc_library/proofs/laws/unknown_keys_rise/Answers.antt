use Rattle.fc_library.proofs.Least.{least_is_told, none_is_told}
use Rattle.fc_library.proofs.laws.unknown_keys_rise.Goals as goal

pub returns-clause-told : goal.returns-clause-told
returns-clause-told c = least_is_told

pub returns-clause-none : goal.returns-clause-none
returns-clause-none c = none_is_told
