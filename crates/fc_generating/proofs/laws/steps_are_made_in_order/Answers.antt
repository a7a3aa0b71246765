use Rattle.fc_generating.proofs.Tries.{all_made, made_up_to}
use Rattle.fc_generating.proofs.laws.steps_are_made_in_order.Goals as goal

pub returns-clause-all : goal.returns-clause-all
returns-clause-all c ts w steps can = all_made ts w steps can

pub returns-clause-front : goal.returns-clause-front
returns-clause-front c ts w front rest x f can why = made_up_to ts w front rest x f can why
