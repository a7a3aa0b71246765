-- What a node is after bytes of a peer.
use Rattle.std.proofs.Common.{◌≡◌, ℕ, List, [], ◌++◌, refl, sym, ap, ◌∙◌, Option, None, Some}
use Rattle.std.specs.Prelude.{IfSome}
use Rattle.std.specs.FinMap.{get, insert, remove}
use Rattle.fc_peers.specs.OpenPeers.{PeerMap}
use Rattle.fc_peers.specs.Streams.{frames, rest}
use Rattle.fc_peers.proofs.OpenPeers.{gone_put, got_put, put_twice}
use Rattle.fc_control.specs.ControlNode.{ControlState, NodeState, after_heard, element_of, hears, move, node, on_bytes, on_bytes_of}

-- what bytes make of a peer that is open
of_open : (n : NodeState) (peer p : ℕ) (piece left : List ℕ) → Some p ≡ element_of n.control.elements peer → Some left ≡ get n.peers peer
    → on_bytes peer piece n ≡ after_heard (hears peer p (frames (left ++ piece)) (rest (left ++ piece)) n.control) peer n.peers
of_open n peer p piece left of found = ap (λ o. on_bytes_of o (get n.peers peer) peer piece n) (sym of) ∙ ap (λ o. on_bytes_of (Some p) o peer piece n) (sym found)

-- the peer stays open
pub stayed : (n : NodeState) (peer p : ℕ) (piece left fed after : List ℕ) (c : ControlState) (one two : PeerMap) → Some p ≡ element_of n.control.elements peer → Some left ≡ get n.peers peer
    → fed ≡ left ++ piece → Some after ≡ (hears peer p (frames fed) (rest fed) n.control).left → c ≡ (hears peer p (frames fed) (rest fed) n.control).state
    → one ≡ insert n.peers peer [] → two ≡ insert one peer after → node c two ≡ (on_bytes peer piece n).state
stayed n peer p piece left fed after c one two of found is stays state first second =
    rw (of_open n peer p piece left of found, ← is, ← stays, second, first, put_twice n.peers peer [] after, state) refl

-- the peer was shut
pub went : (n : NodeState) (peer p : ℕ) (piece left fed : List ℕ) (c : ControlState) (one two : PeerMap) → Some p ≡ element_of n.control.elements peer → Some left ≡ get n.peers peer
    → fed ≡ left ++ piece → None ≡ (hears peer p (frames fed) (rest fed) n.control).left → c ≡ (hears peer p (frames fed) (rest fed) n.control).state
    → one ≡ insert n.peers peer [] → two ≡ remove one peer → node c two ≡ (on_bytes peer piece n).state
went n peer p piece left fed c one two of found is shut state first second =
    rw (of_open n peer p piece left of found, ← is, ← shut, second, first, gone_put n.peers peer [], state) refl

-- the acts that they make
pub done : (n : NodeState) (peer p : ℕ) (piece left fed : List ℕ) → Some p ≡ element_of n.control.elements peer → Some left ≡ get n.peers peer → fed ≡ left ++ piece
    → (hears peer p (frames fed) (rest fed) n.control).acts ≡ (on_bytes peer piece n).acts
done n peer p piece left fed of found is = rw (of_open n peer p piece left of found, ← is) refl

-- what is put back for a peer from which other bytes were taken
pub put_back : (o : Option (List ℕ)) (m one two : PeerMap) (peer : ℕ) (after : List ℕ) → o ≡ get one peer → one ≡ insert m peer []
    → IfSome o (λ _. two ≡ insert one peer after) → two ≡ insert one peer after
put_back None m one two peer after is first told = let none = is ∙ ap (λ m. get m peer) first ∙ got_put m peer [] in absurd (cc none)
put_back (Some left) m one two peer after is first told = told

-- a peer that is not open, or of no element
pub unknown : (n : NodeState) (peer : ℕ) (piece : List ℕ) → None ≡ element_of n.control.elements peer → on_bytes peer piece n ≡ move n []
unknown n peer piece of = ap (λ o. on_bytes_of o (get n.peers peer) peer piece n) (sym of)

pub closed : (n : NodeState) (peer p : ℕ) (piece : List ℕ) → Some p ≡ element_of n.control.elements peer → None ≡ get n.peers peer → on_bytes peer piece n ≡ move n []
closed n peer p piece of found = ap (λ o. on_bytes_of o (get n.peers peer) peer piece n) (sym of) ∙ ap (λ o. on_bytes_of (Some p) o peer piece n) (sym found)
