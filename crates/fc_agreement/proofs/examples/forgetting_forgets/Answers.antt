use Rattle.std.proofs.Common.{refl}
use Rattle.fc_agreement.proofs.examples.forgetting_forgets.Goals as goal

pub returns-clause-first : goal.returns-clause-first
unfolding Rattle.fc_protocol.specs.Collections.put
returns-clause-first c = refl

pub returns-clause-second : goal.returns-clause-second
unfolding Rattle.fc_protocol.specs.Collections.put
returns-clause-second c = refl

pub returns-clause-first_records : goal.returns-clause-first_records
unfolding Rattle.fc_protocol.specs.Collections.put
returns-clause-first_records c = refl

pub returns-clause-second_records : goal.returns-clause-second_records
unfolding Rattle.fc_protocol.specs.Collections.put
returns-clause-second_records c = refl

pub returns-clause-first_line : goal.returns-clause-first_line
unfolding Rattle.fc_protocol.specs.Collections.put
returns-clause-first_line c = refl

pub returns-clause-sent : goal.returns-clause-sent
unfolding Rattle.fc_protocol.specs.Collections.put
returns-clause-sent c = refl

pub returns-clause-late : goal.returns-clause-late
unfolding Rattle.fc_protocol.specs.Collections.put
returns-clause-late c = refl

pub returns-clause-late_records : goal.returns-clause-late_records
unfolding Rattle.fc_protocol.specs.Collections.put
returns-clause-late_records c = refl

pub returns-clause-no_job : goal.returns-clause-no_job
unfolding Rattle.fc_protocol.specs.Collections.put
returns-clause-no_job c = refl

pub returns-clause-kept_floor : goal.returns-clause-kept_floor
unfolding Rattle.fc_protocol.specs.Collections.put
returns-clause-kept_floor c = refl
