use Rattle.std.proofs.Common.{ap, sym, subst, refl, ◌∙◌, Some, IsSome}
use Rattle.std.specs.FinMap.{get, insert}
use Rattle.fc_peers.specs.OpenPeers.{peers_of}
use Rattle.fc_peers.proofs.OpenPeers.{got, is_put}
use Rattle.fc_peers.proofs.peers.Peers.put.Goals as goal

pub returns-in_default-clause-left : goal.returns-in_default-clause-left
returns-in_default-clause-left c =
    c.in_default.ensures.value ∙ sym (got c.self.inside.splitters.entries c.args.peer) ∙ ap (λ m. get m c.args.peer) c.self.view_is

pub returns-clause-left : goal.returns-clause-left
returns-clause-left c =
    ap Some c.replace.ensures.value ∙ c.in-Some.ensures.value ∙ sym (got c.self.inside.splitters.entries c.args.peer) ∙ ap (λ m. get m c.args.peer) c.self.view_is

pub returns-clause-some : goal.returns-clause-some
returns-clause-some c =
    let held = c.self.inside.splitters.entries in
    let is = subst (λ o. IsSome o) c.in-Some.ensures.value refl in
    is_put held (c.get_mut.follows.lender c.replace.new.dest).entries c.args.peer c.replace.new.dest ((c.get_mut.follows.holds c.replace.new.dest).3 is).0
    ∙ ap (insert (peers_of held) c.args.peer) c.replace.ensures.after ∙ ap (λ m. insert m c.args.peer c.args.splitter) c.self.view_is
