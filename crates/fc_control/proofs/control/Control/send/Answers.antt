use Rattle.std.proofs.Common.{OnOk, IfErr, subst}
use Rattle.fc_peers.specs.Acting.{Acts, ActsUntil}
use Rattle.fc_control.specs.ControlNode.{sent}
use Rattle.fc_control.proofs.Sendings.{all_sent, none_sent}
use Rattle.fc_control.proofs.control.Control.send.Goals as goal

pub returns-clause-ok : goal.returns-clause-ok
returns-clause-ok g c = all_sent c.send_all.result _ _ _ _ _ _ c.elements.ensures.same c.as_slice.ensures c.send_all.ensures.ok

pub returns-clause-err : goal.returns-clause-err
returns-clause-err g c = none_sent c.send_all.result _ _ _ _ _ _ c.elements.ensures.same c.as_slice.ensures c.send_all.ensures.err
