use Rattle.std.proofs.Common.{◌≡◌, List, length}
use Rattle.fc_hub.specs.declared.event.HubEvent.{HubEvent}
use Rattle.fc_serving.specs.Serving.{Went}
use Rattle.fc_serving.specs.ElementNode.{node_after}
use Rattle.fc_serving.proofs.serve.serve.Given as goal

abbrev pub invariant-turns : goal.invariant-turns
invariant-turns g l = record {
  went : (events : List HubEvent) × (length events ≡ l.counter)
      × Went (g.H.Hub.held l.fn.hub) (g.H.Hub.held l.hub) l.fn.node events
      × (l.node ≡ node_after l.fn.node events);
  count : g.H.Hub.faults l.hub ≡ g.H.Hub.faults l.fn.hub;
}
