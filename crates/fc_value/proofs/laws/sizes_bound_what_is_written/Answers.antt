use Rattle.fc_value.proofs.Longest.{bounded, longest}
use Rattle.fc_value.proofs.laws.sizes_bound_what_is_written.Goals as goal

pub returns-clause-most : goal.returns-clause-most
returns-clause-most c = λ ty v s h. bounded ty v s h

pub returns-clause-reached : goal.returns-clause-reached
returns-clause-reached c = λ ty s bare. longest ty s bare
