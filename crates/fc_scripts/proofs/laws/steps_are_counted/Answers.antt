use Rattle.fc_steps.specs.Steps.{step_of}
use Rattle.std.proofs.Common.{map}
use Rattle.fc_scripts.proofs.Counting.{counted}
use Rattle.fc_scripts.proofs.laws.steps_are_counted.Goals as goal

pub returns : goal.returns
returns c = λ texts steps e. counted 1 (map step_of texts) steps e
