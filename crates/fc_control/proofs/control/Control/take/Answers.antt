use Rattle.std.proofs.Common.{OnOk, IfErr, subst}
use Rattle.fc_master.specs.Masters.{core_of}
use Rattle.fc_peers.specs.Acting.{Acts, ActsUntil}
use Rattle.fc_control.specs.ControlNode.{number_of, sent}
use Rattle.fc_control.specs.Controls.{control_of}
use Rattle.fc_control.proofs.Refusing.{always, took}
use Rattle.fc_control.proofs.control.Control.take.Goals as goal

pub returns-in-Ok-clause-ok : goal.returns-in-Ok-clause-ok
returns-in-Ok-clause-ok g c =
    let n = control_of c.args.self.now in
    always c.send.result (took n c.step.new.self.life (core_of c.step.new.self) _ c.in-Ok.ensures.life (c.in-Ok.ensures.core (number_of n)))

pub returns-in-Ok-clause-acts : goal.returns-in-Ok-clause-acts
returns-in-Ok-clause-acts g c =
    let n = control_of c.args.self.now in
    subst (λ outs. OnOk c.send.result (Acts (g.H.Hub.held c.args.hub.now) (g.H.Hub.held c.send.new.hub) (sent n.elements outs))) (c.in-Ok.ensures.outs (number_of n)) c.send.ensures.ok

pub returns-in-Ok-clause-err : goal.returns-in-Ok-clause-err
returns-in-Ok-clause-err g c =
    let n = control_of c.args.self.now in
    subst (λ outs. IfErr c.send.result (λ stop. ActsUntil stop (g.H.Hub.held c.args.hub.now) (g.H.Hub.held c.send.new.hub) (sent n.elements outs))) (c.in-Ok.ensures.outs (number_of n)) c.send.ensures.err
