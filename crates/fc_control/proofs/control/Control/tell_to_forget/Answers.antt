use Rattle.std.proofs.Common.{◌∙◌, OnOk, IfErr, ap, sym, subst}
use Rattle.fc_master.specs.Masters.{core_of}
use Rattle.fc_peers.specs.Acting.{Acts, ActsUntil}
use Rattle.fc_protocol.specs.MasterMachine.{finish, forget_refusal, forgets}
use Rattle.fc_control.specs.ControlNode.{number_of, sent}
use Rattle.fc_control.specs.Controls.{control_of}
use Rattle.fc_control.proofs.Refusing.{always, forgot_now, forgotten}
use Rattle.fc_control.proofs.control.Control.tell_to_forget.Goals as goal

pub returns-in-Ok-clause-ok : goal.returns-in-Ok-clause-ok
returns-in-Ok-clause-ok g c =
    let n = control_of c.args.self.now in
    let s = finish (number_of n) (forgets n.core) in
    let told = forgotten (forget_refusal n.core) n s c.in-Ok.ensures.accepted in
    always c.send.result (forgot_now n c.forget.new.self.life (core_of c.forget.new.self) _ c.in-Ok.ensures.life (c.in-Ok.ensures.core (number_of n)) ∙ sym (ap (λ t. t.state) told))

pub returns-in-Ok-clause-acts : goal.returns-in-Ok-clause-acts
returns-in-Ok-clause-acts g c =
    let n = control_of c.args.self.now in
    let s = finish (number_of n) (forgets n.core) in
    let told = forgotten (forget_refusal n.core) n s c.in-Ok.ensures.accepted in
    subst (λ acts. OnOk c.send.result (Acts (g.H.Hub.held c.args.hub.now) (g.H.Hub.held c.send.new.hub) acts)) (ap (sent n.elements) (c.in-Ok.ensures.outs (number_of n)) ∙ sym (ap (λ t. t.acts) told)) c.send.ensures.ok

pub returns-in-Ok-clause-err : goal.returns-in-Ok-clause-err
returns-in-Ok-clause-err g c =
    let n = control_of c.args.self.now in
    let s = finish (number_of n) (forgets n.core) in
    let told = forgotten (forget_refusal n.core) n s c.in-Ok.ensures.accepted in
    subst (λ acts. IfErr c.send.result (λ stop. ActsUntil stop (g.H.Hub.held c.args.hub.now) (g.H.Hub.held c.send.new.hub) acts)) (ap (sent n.elements) (c.in-Ok.ensures.outs (number_of n)) ∙ sym (ap (λ t. t.acts) told)) c.send.ensures.err
