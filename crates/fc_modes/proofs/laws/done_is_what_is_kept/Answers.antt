use Rattle.fc_modes.proofs.Outcomes.{kept_is_done, done_is_accepted, one_code_each}
use Rattle.fc_modes.proofs.laws.done_is_what_is_kept.Goals as goal

pub returns-clause-state : goal.returns-clause-state
returns-clause-state g c = kept_is_done g.R.Runner.effect g.met.R.Runner.refused

pub returns-clause-done : goal.returns-clause-done
returns-clause-done g c = done_is_accepted g.R.Runner.effect

pub returns-clause-codes : goal.returns-clause-codes
returns-clause-codes g c = one_code_each g.R.Runner.effect
