-- Bytes that come in two pieces: what they make of an element, and of a node.
use Rattle.std.proofs.Common.{◌≡◌, ℕ, List, [], ◌∷◌, ◌++◌, Bool, true, false, if◌then◌else◌, refl, sym, ap, ◌∙◌, append_assoc, append-nil, Option, Some, None}
use Rattle.std.specs.FinMap.{get, insert, remove}
use Rattle.fc_hub.specs.declared.event.HubEvent.TheVariants as event
use Rattle.fc_hub.specs.declared.event.Act.{Act}
use Rattle.fc_msg.specs.declared.message.Message.{Message}
use Rattle.fc_msg.specs.Reading.{message_in}
use Rattle.fc_element.specs.declared.input.ElIn.TheVariants.{Arrived}
use Rattle.fc_element.specs.ElementMachine.{Turn, step}
use Rattle.fc_element.specs.ElementState.{ElementState}
use Rattle.fc_peers.specs.OpenPeers.{PeerMap}
use Rattle.fc_peers.specs.Streams.{cut_of, frames, rest}
use Rattle.fc_peers.proofs.OpenPeers.{gone_put, got_gone, got_put, put_twice}
use Rattle.fc_peers.proofs.Streaming.{cut_on}
use Rattle.fc_serving.specs.ElementNode.{Heard, Move, NodeState, after_heard, by_message, first_heard, heard, hears, move, node, node_step, on_bytes, sent}
use Rattle.fc_serving.specs.Pieces.{AreAlike}

-- ---- what they make of an element

abbrev then_heard : Heard → (ElementState → Heard) → Heard
then_heard h later = if h.stays then heard (later h.element).element (h.acts ++ (later h.element).acts) (later h.element).stays else h

first_by : (b : Bool) (turn : Turn) (e : ElementState) (acts : List Act) (later : ElementState → Heard)
    → first_heard turn (then_heard (heard e acts b) later) ≡ then_heard (first_heard turn (heard e acts b)) later
first_by true turn e acts later = ap (λ l. heard (later e).element l (later e).stays) (sym (append_assoc (sent turn.outs) acts (later e).acts))
first_by false turn e acts later = refl

hears_by : (o : Option Message) (e : ElementState) (peer : ℕ) (fs gs : List (List ℕ))
    → ((next : ElementState) → hears next peer (fs ++ gs) ≡ then_heard (hears next peer fs) (λ last. hears last peer gs))
    → by_message o e peer (λ next. hears next peer (fs ++ gs)) ≡ then_heard (by_message o e peer (λ next. hears next peer fs)) (λ last. hears last peer gs)
hears_by None e peer fs gs more = refl
hears_by (Some m) e peer fs gs more =
    let turn = step e (Arrived peer m) in
    let h = hears turn.state peer fs in
    ap (first_heard turn) (more turn.state) ∙ first_by h.stays turn h.element h.acts (λ last. hears last peer gs)

hears_on : (fs gs : List (List ℕ)) (e : ElementState) (peer : ℕ) → hears e peer (fs ++ gs) ≡ then_heard (hears e peer fs) (λ last. hears last peer gs)
hears_on [] gs e peer = refl
hears_on (f ∷ fs) gs e peer = hears_by (message_in f) e peer fs gs (λ next. hears_on fs gs next peer)

-- ---- the node

alike_stay : (h later : Heard) (peer : ℕ) (r last : List ℕ) (peers : PeerMap) → h.stays ≡ true
    → AreAlike (after_heard h peer r peers) (after_heard later peer last (insert peers peer r))
    (after_heard (heard later.element (h.acts ++ later.acts) later.stays) peer last peers)
alike_stay h later peer r last peers stays = record { state = rw (put_twice peers peer r last, gone_put peers peer r) refl; acts = refl }

alike_gone : (h : Heard) (peer : ℕ) (r last : List ℕ) (peers : PeerMap) → h.stays ≡ false
    → AreAlike (after_heard h peer r peers) (move (node h.element (remove peers peer)) []) (after_heard h peer last peers)
alike_gone h peer r last peers gone = record { state = rw gone refl; acts = append-nil h.acts }

alike_at : (first second second' whole whole' : Move) → second ≡ second' → whole ≡ whole' → AreAlike first second' whole' → AreAlike first second whole
alike_at first second second' whole whole' is are alike = rw (is, are) alike

bytes_end : (b : Bool) (n : NodeState) (peer : ℕ) (left front back : List ℕ) → get n.peers peer ≡ Some left
    → (hears n.element peer (frames (left ++ front))).stays ≡ b
    → on_bytes n peer (front ++ back) (Some left)
    ≡ after_heard
    (if b then then_heard (heard (hears n.element peer (frames (left ++ front))).element (hears n.element peer (frames (left ++ front))).acts true) (λ next. hears next peer (frames (rest (left ++ front) ++ back)))
    else hears n.element peer (frames (left ++ front)))
    peer (rest (rest (left ++ front) ++ back)) n.peers
    → node_step (on_bytes n peer front (Some left)).state (event.Bytes peer back)
    ≡ node_step (node (hears n.element peer (frames (left ++ front))).element (if b then insert n.peers peer (rest (left ++ front)) else remove n.peers peer)) (event.Bytes peer back)
    → AreAlike (on_bytes n peer front (Some left)) (node_step (on_bytes n peer front (Some left)).state (event.Bytes peer back)) (on_bytes n peer (front ++ back) (Some left))
bytes_end true n peer left front back some stays both second =
    let h = hears n.element peer (frames (left ++ front)) in
    let r = rest (left ++ front) in
    let opened = second ∙ ap (λ o. on_bytes (node h.element (insert n.peers peer r)) peer back o) (got_put n.peers peer r) in
    alike_at _ _ _ _ _ opened both (alike_stay h (hears h.element peer (frames (r ++ back))) peer r (rest (r ++ back)) n.peers stays)
bytes_end false n peer left front back some stays both second =
    let h = hears n.element peer (frames (left ++ front)) in
    let r = rest (left ++ front) in
    let closed = second ∙ ap (λ o. on_bytes (node h.element (remove n.peers peer)) peer back o) (got_gone n.peers peer) in
    alike_at _ _ _ _ _ closed both (alike_gone h peer r (rest (r ++ back)) n.peers stays)

bytes_by : (b : Bool) (n : NodeState) (peer : ℕ) (left front back : List ℕ) → get n.peers peer ≡ Some left
    → (hears n.element peer (frames (left ++ front))).stays ≡ b
    → AreAlike (on_bytes n peer front (Some left)) (node_step (on_bytes n peer front (Some left)).state (event.Bytes peer back)) (on_bytes n peer (front ++ back) (Some left))
bytes_by b n peer left front back some stays =
    let h = hears n.element peer (frames (left ++ front)) in
    let r = rest (left ++ front) in
    let later = hears h.element peer (frames (r ++ back)) in
    let last = rest (r ++ back) in
    let both : on_bytes n peer (front ++ back) (Some left) ≡ after_heard (if b then heard later.element (h.acts ++ later.acts) later.stays else h) peer last n.peers =
    ap (λ c. after_heard (hears n.element peer c.taken) peer c.rest n.peers) (ap cut_of (sym (append_assoc left front back)) ∙ cut_on (left ++ front) back)
    ∙ ap (λ x. after_heard x peer last n.peers)
    (hears_on (frames (left ++ front)) (frames (r ++ back)) n.element peer ∙ ap (λ b. if b then heard later.element (h.acts ++ later.acts) later.stays else h) stays) in
    let second : node_step (on_bytes n peer front (Some left)).state (event.Bytes peer back)
    ≡ node_step (node h.element (if b then insert n.peers peer r else remove n.peers peer)) (event.Bytes peer back) =
    ap (λ b. node_step (node h.element (if b then insert n.peers peer r else remove n.peers peer)) (event.Bytes peer back)) stays in
    bytes_end b n peer left front back some stays both second

alike_by : (o : Option (List ℕ)) (n : NodeState) (peer : ℕ) (front back : List ℕ) → get n.peers peer ≡ o
    → AreAlike (on_bytes n peer front o) (node_step (on_bytes n peer front o).state (event.Bytes peer back)) (on_bytes n peer (front ++ back) o)
alike_by None n peer front back is = record { state = rw is refl; acts = rw is refl }
alike_by (Some left) n peer front back is = bytes_by (hears n.element peer (frames (left ++ front))).stays n peer left front back is refl

pub bytes_alike : (n : NodeState) (peer : ℕ) (front back : List ℕ)
    → AreAlike (node_step n (event.Bytes peer front)) (node_step (node_step n (event.Bytes peer front)).state (event.Bytes peer back)) (node_step n (event.Bytes peer (front ++ back)))
bytes_alike n peer front back = alike_by (get n.peers peer) n peer front back refl
