use Rattle.std.proofs.Common.{[], arith}
use Rattle.std.specs.FinMap.{len-entries}
use Rattle.fc_element.specs.Notices.{peers_of}
use Rattle.fc_element.proofs.Beats.{all_sent, peer_more, peers_length}
use Rattle.fc_element.proofs.notices.peers_of.Goals as goal

pub loop-place-preserved : goal.loop-place-preserved
loop-place-preserved c =
    peer_more c.args.associations.now c.loop-place.place c.loop-place.peers.items c.push.new.self.items c.in-Some.seen c.get.result c.in-Some.ensures c.get.ensures.same c.loop-place.invariant
    c.in_ok-push-in-Some.ensures.items

pub returns : goal.returns
returns c =
    all_sent (peers_of c.args.associations.now) [] c.loop-place.peers.items c.loop-place.place
    (omega (arith, len-entries c.args.associations.now, peers_length c.args.associations.now, c.len-place-end.ensures.same, c.loop-place-test.false)) c.loop-place.invariant
