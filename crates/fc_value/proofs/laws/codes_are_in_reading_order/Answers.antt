use Rattle.fc_value.proofs.Trying.{codes_first, codes_read}
use Rattle.fc_value.proofs.laws.codes_are_in_reading_order.Goals as goal

pub returns-clause-first : goal.returns-clause-first
returns-clause-first c = λ ty bytes code. codes_first ty bytes code

pub returns-clause-read : goal.returns-clause-read
returns-clause-read c = λ ty bytes. codes_read ty bytes
