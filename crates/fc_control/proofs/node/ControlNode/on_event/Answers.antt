use Rattle.std.proofs.Common.{◌≡◌, OnOk, subst, sym}
use Rattle.fc_control.specs.ControlNode.{on_bytes, on_event}
use Rattle.fc_control.specs.Controls.{node_of}
use Rattle.fc_control.proofs.node.ControlNode.on_event.Goals as goal

pub returns-in-Bytes-clause-ok : goal.returns-in-Bytes-clause-ok
returns-in-Bytes-clause-ok g c =
    let n = node_of c.args.self.now in
    subst (λ e. OnOk c.bytes.result (node_of c.bytes.new.self ≡ (on_event e n).state)) (sym c.in-Bytes.is)
    (subst (λ l. OnOk c.bytes.result (node_of c.bytes.new.self ≡ (on_bytes c.in-Bytes.peer l n).state)) c.as_slice.ensures c.bytes.ensures.ok)
