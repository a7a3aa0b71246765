use Rattle.std.proofs.Common.{ap, sym, ◌∙◌}
use Rattle.std.specs.FinMap.{len}
use Rattle.fc_peers.proofs.OpenPeers.{counted}
use Rattle.fc_peers.proofs.peers.Peers.len.Goals as goal

pub returns : goal.returns
returns c = c.len.ensures.len ∙ sym (counted c.self.inside.splitters.entries c.len.ensures.ordered) ∙ ap (λ m. len m) c.self.view_is
