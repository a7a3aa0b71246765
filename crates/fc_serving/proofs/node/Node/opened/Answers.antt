use Rattle.std.proofs.Common.{OnOk, subst}
use Rattle.std.specs.FinMap.{get}
use Rattle.fc_peers.specs.Acting.{Acts}
use Rattle.fc_serving.specs.ElementNode.{node, on_opened}
use Rattle.fc_serving.proofs.Bytes.{reopened}
use Rattle.fc_serving.proofs.node.Node.opened.Goals as goal

pub returns-clause-acts : goal.returns-clause-acts
returns-clause-acts g c =
    let s = c.self.inside in
    let old = g.H.Hub.held c.args.hub.now in
    let new = g.H.Hub.held c.give.new.hub in
    subst (λ n. OnOk c.give.result (Acts old new (on_opened n c.args.peer (get n.peers c.args.peer)).acts)) c.self.view_is
    (subst (λ acts. OnOk c.give.result (Acts old new acts)) (reopened (node s.element s.peers) c.args.peer _ c.in-Some.ensures.left) c.give.ensures.acts)
