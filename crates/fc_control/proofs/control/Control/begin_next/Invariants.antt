use Rattle.std.proofs.Common.{◌≡◌, ◌-◌, List, length}
use Rattle.fc_hub.specs.declared.event.Act.{Act}
use Rattle.fc_peers.specs.Acting.{Acts}
use Rattle.fc_control.specs.ControlNode.{begins_next}
use Rattle.fc_control.specs.Controls.{control_of}
use Rattle.fc_control.proofs.Going.{before}
use Rattle.fc_control.proofs.control.Control.begin_next.Given as goal

abbrev pub invariant-plans : goal.invariant-plans
invariant-plans g l = record {
  begun : (acts : List Act) × Acts (g.H.Hub.held l.fn.hub) (g.H.Hub.held l.hub) acts
      × (begins_next (control_of l.fn.self) ≡ before acts (begins_next (control_of l.self)));
  count : g.H.Hub.faults l.hub ≡ g.H.Hub.faults l.fn.hub;
}

abbrev pub decreases-plans : goal.decreases-plans
decreases-plans g l = length (control_of l.self).plan - length l.self.begun
