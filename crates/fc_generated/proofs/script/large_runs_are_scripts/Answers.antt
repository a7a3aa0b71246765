use Rattle.fc_generated.proofs.Keeping.{is_script}
use Rattle.fc_generated.proofs.script.large_runs_are_scripts.Goals as goal

pub returns : goal.returns
returns c = is_script
