use Rattle.std.proofs.Common.{◌≡◌, false, List, length}
use Rattle.fc_hub.specs.declared.event.HubEvent.{HubEvent}
use Rattle.fc_control.specs.ControlNode.{has_ended, node_after}
use Rattle.fc_control.specs.Controls.{node_of}
use Rattle.fc_control.specs.Serving.{Went}
use Rattle.fc_control.proofs.running.serve.Given as goal

abbrev pub invariant-turns : goal.invariant-turns
invariant-turns g l = record {
  went : (events : List HubEvent) × (length events ≡ l.counter)
      × Went (g.H.Hub.held l.fn.hub) (g.H.Hub.held l.hub) (node_of l.fn.node) events
      × (node_of l.node ≡ node_after (node_of l.fn.node) events);
  goes : has_ended (node_of l.node).control ≡ false;
  count : g.H.Hub.faults l.hub ≡ g.H.Hub.faults l.fn.hub;
}
