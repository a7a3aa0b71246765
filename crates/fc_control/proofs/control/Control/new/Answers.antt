use Rattle.std.proofs.Common.{◌∙◌, ap}
use Rattle.fc_jobs.specs.Sending.{are_apart}
use Rattle.fc_protocol.specs.MasterMachine.{new_master}
use Rattle.fc_control.proofs.Apart.{apart_is}
use Rattle.fc_control.proofs.Planning.{first_is}
use Rattle.fc_control.proofs.control.Control.new.Goals as goal

pub new-requires : goal.new-requires
new-requires c = ap are_apart c.elements.ensures.same ∙ apart_is c.args.plan.elements ∙ c.elements.ensures.plan.apart

pub returns-clause-control : goal.returns-clause-control
returns-clause-control c =
    first_is c.args.ce _ _ _ c.args.plan.elements c.args.plan.transactions c.args.epoch (c.in_ok-master.ensures.core ∙ ap (new_master c.args.epoch) c.elements.ensures.same) c.in_ok-master.ensures.epoch
    c.new-2.ensures
