use Rattle.fc_value.proofs.Places.{node_above, node_apart, node_put, node_there, put_nowhere}
use Rattle.fc_value.proofs.laws.other_places_stay.Goals as goal

pub returns-clause-there : goal.returns-clause-there
returns-clause-there c = λ v w d places h. node_there places v w d h

pub returns-clause-within : goal.returns-clause-within
returns-clause-within c = λ v w d places below h. node_put places v w d h below

pub returns-clause-above : goal.returns-clause-above
returns-clause-above c = λ v w front places. node_above front v w places

pub returns-clause-other : goal.returns-clause-other
returns-clause-other c = λ v w places others h. node_apart places v w others h

pub returns-clause-nowhere : goal.returns-clause-nowhere
returns-clause-nowhere c = λ v w places h. put_nowhere places v w h
