use Rattle.std.proofs.Common.{ap, sym}
use Rattle.fc_peers.proofs.Acts.{until_same}
use Rattle.fc_control.specs.ControlNode.{number_of, refusal_of, sent}
use Rattle.fc_control.specs.Controls.{control_of}
use Rattle.fc_control.proofs.Refusing.{stops_free}
use Rattle.fc_control.proofs.control.Control.begin.Goals as goal

pub returns-in-Err-send-clause-err : goal.returns-in-Err-send-clause-err
returns-in-Err-send-clause-err g c =
    let n = control_of c.args.self.now in
    let stop = c.in-Err-send.stop in
    stops_free (refusal_of c.args.plan n) stop _ _ _ c.in-Ok.ensures.accepted
    (until_same stop _ _ _ _ c.in-Err-send.ensures.err (ap (sent n.elements) (sym (c.in-Ok.ensures.outs (number_of n)))))
