use Rattle.fc_playing.proofs.Steps.{are_made, come_to, falls, first_fault}
use Rattle.fc_playing.proofs.laws.steps_are_played.Goals as goal

pub returns-clause-made : goal.returns-clause-made
returns-clause-made c ts w new steps = (are_made steps ts w new, come_to steps ts w new)

pub returns-clause-refused : goal.returns-clause-refused
returns-clause-refused c ts w steps fault = (first_fault steps ts w fault, falls steps ts w fault)
