use Rattle.std.proofs.Common.{ap, sym, is_some, ◌∙◌}
use Rattle.std.specs.FinMap.{get, remove}
use Rattle.fc_peers.proofs.OpenPeers.{got, is_gone}
use Rattle.fc_peers.proofs.peers.Peers.close.Goals as goal

pub returns-clause-open : goal.returns-clause-open
returns-clause-open c =
    c.is_some.ensures
    ∙ ap is_some (c.remove.ensures.value ∙ sym (got c.self.inside.splitters.entries c.args.peer) ∙ ap (λ m. get m c.args.peer) c.self.view_is)

pub returns-clause-others : goal.returns-clause-others
returns-clause-others c =
    is_gone c.self.inside.splitters.entries c.remove.new.self.entries c.args.peer c.remove.ensures.updates.0 ∙ ap (λ m. remove m c.args.peer) c.self.view_is
