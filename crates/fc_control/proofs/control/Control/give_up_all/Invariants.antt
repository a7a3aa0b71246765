use Rattle.std.proofs.Common.{◌≡◌, List, drop}
use Rattle.fc_hub.specs.declared.event.Act.{Act}
use Rattle.fc_peers.specs.Acting.{Acts}
use Rattle.fc_control.specs.ControlNode.{gives_up_all}
use Rattle.fc_control.specs.Controls.{control_of}
use Rattle.fc_control.proofs.Going.{before}
use Rattle.fc_control.proofs.control.Control.give_up_all.Given as goal

abbrev pub invariant-loop-txn : goal.invariant-loop-txn
invariant-loop-txn g l = record {
  gave : (acts : List Act) × Acts (g.H.Hub.held l.fn.hub) (g.H.Hub.held l.hub) acts
      × (gives_up_all l.txns (control_of l.fn.self) ≡ before acts (gives_up_all (drop l.txn-index l.txns) (control_of l.self)));
  count : g.H.Hub.faults l.hub ≡ g.H.Hub.faults l.fn.hub;
}
