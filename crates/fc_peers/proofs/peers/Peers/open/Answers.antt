use Rattle.std.proofs.Common.{ap, [], ◌∙◌}
use Rattle.std.specs.FinMap.{insert}
use Rattle.fc_peers.specs.OpenPeers.{peers_of}
use Rattle.fc_peers.proofs.OpenPeers.{is_put}
use Rattle.fc_peers.proofs.peers.Peers.open.Goals as goal

pub returns-in-Ok-clause-ok : goal.returns-in-Ok-clause-ok
returns-in-Ok-clause-ok c =
    is_put c.self.inside.splitters.entries c.insert.new.self.entries c.args.peer c.new.result c.in-Ok.ensures.updates.0
    ∙ ap (insert (peers_of c.self.inside.splitters.entries) c.args.peer) c.new.ensures ∙ ap (λ m. insert m c.args.peer []) c.self.view_is
