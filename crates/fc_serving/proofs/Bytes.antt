-- What a node is after bytes of a peer, and what it does where one is opened.
use Rattle.std.proofs.Common.{◌≡◌, ℕ, List, [], ◌++◌, true, false, refl, ap, ◌∙◌, Option, None, Some}
use Rattle.std.specs.Prelude.{IfSome}
use Rattle.std.specs.FinMap.{get, insert, remove}
use Rattle.fc_element.specs.declared.input.ElIn.TheVariants.{Opened}
use Rattle.fc_element.specs.ElementMachine.{step}
use Rattle.fc_element.specs.ElementState.{ElementState}
use Rattle.fc_peers.specs.OpenPeers.{PeerMap}
use Rattle.fc_peers.specs.Streams.{frames, rest}
use Rattle.fc_peers.proofs.OpenPeers.{gone_put, got_put, put_twice}
use Rattle.fc_serving.specs.ElementNode.{NodeState, hears, node, on_bytes, on_opened, sent}

-- the peer stays open
pub stayed : (n : NodeState) (peer : ℕ) (piece left fed after : List ℕ) (e : ElementState) (one two : PeerMap) → Some left ≡ get n.peers peer → fed ≡ left ++ piece
    → true ≡ (hears n.element peer (frames fed)).stays → e ≡ (hears n.element peer (frames fed)).element → after ≡ rest fed
    → one ≡ insert n.peers peer [] → two ≡ insert one peer after → node e two ≡ (on_bytes n peer piece (get n.peers peer)).state
stayed n peer piece left fed after e one two found is stays element rested first second =
    rw (← found, ← is, ← stays, second, first, put_twice n.peers peer [] after, rested, element) refl

-- the peer was shut
pub went : (n : NodeState) (peer : ℕ) (piece left fed : List ℕ) (e : ElementState) (one two : PeerMap) → Some left ≡ get n.peers peer → fed ≡ left ++ piece
    → false ≡ (hears n.element peer (frames fed)).stays → e ≡ (hears n.element peer (frames fed)).element
    → one ≡ insert n.peers peer [] → two ≡ remove one peer → node e two ≡ (on_bytes n peer piece (get n.peers peer)).state
went n peer piece left fed e one two found is stays element first second =
    rw (← found, ← is, ← stays, second, first, gone_put n.peers peer [], element) refl

-- what is put back for a peer from which other bytes were taken
pub put_back : (o : Option (List ℕ)) (m one two : PeerMap) (peer : ℕ) (after : List ℕ) → o ≡ get one peer → one ≡ insert m peer []
    → IfSome o (λ _. two ≡ insert one peer after) → two ≡ insert one peer after
put_back None m one two peer after is first told = let none = is ∙ ap (λ m. get m peer) first ∙ got_put m peer [] in absurd (cc none)
put_back (Some left) m one two peer after is first told = told

-- what an open peer makes that is opened again
pub reopened : (n : NodeState) (peer : ℕ) (left : List ℕ) → Some left ≡ get n.peers peer
    → sent (step n.element (Opened peer)).outs ≡ (on_opened n peer (get n.peers peer)).acts
reopened n peer left found = rw (← found) refl
