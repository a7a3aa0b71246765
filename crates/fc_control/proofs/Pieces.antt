-- Bytes that come in two pieces: what they make of a control element, and of a node.
use Rattle.std.proofs.Common.{◌≡◌, ◌⊎◌, ℕ, Bool, true, false, List, [], ◌∷◌, ◌++◌, refl, sym, subst, ap, ◌∙◌, inl, inr, append_assoc, append-nil, Option, Some, None, if◌then◌else◌}
use Rattle.std.specs.FinMap.{get, insert, remove}
use Rattle.fc_hub.specs.declared.event.HubEvent.TheVariants as event
use Rattle.fc_hub.specs.declared.event.Act.{Act}
use Rattle.fc_msg.specs.declared.message.Message.{Message}
use Rattle.fc_msg.specs.Reading.{message_in}
use Rattle.fc_peers.specs.OpenPeers.{PeerMap}
use Rattle.fc_peers.specs.Streams.{cut_of, frames, rest}
use Rattle.fc_peers.proofs.OpenPeers.{gone_put, got_gone, got_put, put_twice}
use Rattle.fc_peers.proofs.Streaming.{cut_on}
use Rattle.fc_control.specs.ControlNode.{ControlState, Heard, Move, NodeState, Turn, after_heard, by_message, comes, element_of, first_heard, has_ended, heard, hears, move, node, node_step, on_bytes, on_bytes_of, on_event, put_left, unless_ended}
use Rattle.fc_control.specs.Pieces.{AreAlike}
use Rattle.fc_control.proofs.Keeping.{hears_keeps}

-- ---- what the frames make of a control element

-- frames behind others, by what is left of the peer and whether the control element has ended
abbrev then_by : Option (List ℕ) → Bool → Heard → (ControlState → Heard) → Heard
then_by None b h later = h
then_by (Some left) true h later = h
then_by (Some left) false h later = first_heard h.acts (later h.state)

abbrev then_heard : Heard → (ControlState → Heard) → Heard
then_heard h later = then_by h.left (has_ended h.state) h later

first_by : (o : Option (List ℕ)) (b : Bool) (acts : List Act) (h : Heard) (later : ControlState → Heard) → first_heard acts (then_by o b h later) ≡ then_by o b (first_heard acts h) later
first_by None b acts h later = refl
first_by (Some left) true acts h later = refl
first_by (Some left) false acts h later = let last = later h.state in ap (λ l. heard last.state l last.left) (sym (append_assoc acts h.acts last.acts))

ended_by : (b : Bool) (t : Turn) (both front : ControlState → Heard) (later : ControlState → Heard) → has_ended t.state ≡ b
    → (has_ended t.state ≡ false → both t.state ≡ then_heard (front t.state) later) → unless_ended b t both ≡ then_heard (unless_ended b t front) later
ended_by true t both front later at more = ap (λ b. then_by (Some []) b (heard t.state t.acts (Some [])) later) (sym at)
ended_by false t both front later at more =
    let h = front t.state in
    ap (first_heard t.acts) (more at) ∙ first_by h.left (has_ended h.state) t.acts h later

hears_by : (o : Option Message) (peer p : ℕ) (n : ControlState) (both front later : ControlState → Heard)
    → ((next : ControlState) → has_ended next ≡ false → both next ≡ then_heard (front next) later)
    → by_message o peer p n both ≡ then_heard (by_message o peer p n front) later
hears_by None peer p n both front later more = refl
hears_by (Some m) peer p n both front later more =
    let t = comes peer p m n in
    ended_by (has_ended t.state) t both front later refl (more t.state)

hears_on : (fs gs : List (List ℕ)) (peer p : ℕ) (r last : List ℕ) (n : ControlState) → has_ended n ≡ false
    → hears peer p (fs ++ gs) last n ≡ then_heard (hears peer p fs r n) (λ x. hears peer p gs last x)
hears_on [] gs peer p r last n goes = ap (λ b. then_by (Some r) b (heard n [] (Some r)) (λ x. hears peer p gs last x)) (sym goes)
hears_on (f ∷ fs) gs peer p r last n goes =
    hears_by (message_in f) peer p n (λ next. hears peer p (fs ++ gs) last next) (λ next. hears peer p fs r next) (λ x. hears peer p gs last x)
    (λ next at. hears_on fs gs peer p r last next at)

-- how they end: the peer was shut, the control element has ended, or these bytes are left
abbrev Ends : Heard → List ℕ → Type 0
Ends h r = (h.left ≡ None) ⊎ (((has_ended h.state ≡ true) × (h.left ≡ Some [])) ⊎ ((has_ended h.state ≡ false) × (h.left ≡ Some r)))

ends_ended : (b : Bool) (t : Turn) (front : ControlState → Heard) (r : List ℕ) → has_ended t.state ≡ b → (has_ended t.state ≡ false → Ends (front t.state) r) → Ends (unless_ended b t front) r
ends_ended true t front r at more = inr (inl (at, refl))
ends_ended false t front r at more = more at

ends_by : (o : Option Message) (peer p : ℕ) (n : ControlState) (front : ControlState → Heard) (r : List ℕ) → ((next : ControlState) → has_ended next ≡ false → Ends (front next) r)
    → Ends (by_message o peer p n front) r
ends_by None peer p n front r more = inl refl
ends_by (Some m) peer p n front r more = let t = comes peer p m n in ends_ended (has_ended t.state) t front r refl (more t.state)

ends : (fs : List (List ℕ)) (peer p : ℕ) (r : List ℕ) (n : ControlState) → has_ended n ≡ false → Ends (hears peer p fs r n) r
ends [] peer p r n goes = inr (inr (goes, refl))
ends (f ∷ fs) peer p r n goes = ends_by (message_in f) peer p n (λ next. hears peer p fs r next) r (λ next at. ends fs peer p r next at)

-- ---- the node

-- bytes of a peer that is not open, or of a node that has ended
nothing : (b : Bool) (o : Option ℕ) (n : NodeState) (peer : ℕ) (back : List ℕ) → has_ended n.control ≡ b → element_of n.control.elements peer ≡ o → get n.peers peer ≡ None
    → node_step n (event.Bytes peer back) ≡ move n []
nothing true o n peer back ended of none = ap (λ b. if b then move n [] else on_bytes peer back n) ended
nothing false None n peer back ended of none =
    ap (λ b. if b then move n [] else on_bytes peer back n) ended ∙ ap (λ o. on_bytes_of o (get n.peers peer) peer back n) of
nothing false (Some p) n peer back ended of none =
    ap (λ b. if b then move n [] else on_bytes peer back n) ended ∙ ap (λ o. on_bytes_of o (get n.peers peer) peer back n) of
    ∙ ap (λ o. on_bytes_of (Some p) o peer back n) none

over : (n : NodeState) (peer : ℕ) (back : List ℕ) → has_ended n.control ≡ true → node_step n (event.Bytes peer back) ≡ move n []
over n peer back ended = ap (λ b. if b then move n [] else on_bytes peer back n) ended

goes_to : (n : NodeState) (peer : ℕ) (back : List ℕ) → has_ended n.control ≡ false → node_step n (event.Bytes peer back) ≡ on_bytes peer back n
goes_to n peer back goes = ap (λ b. if b then move n [] else on_bytes peer back n) goes

-- the second piece made nothing
alike_end : (first second whole : Move) → second ≡ move first.state [] → whole ≡ first → AreAlike first second whole
alike_end first second whole is same = record {
  state = ap (λ m. m.state) is ∙ sym (ap (λ m. m.state) same);
  acts = ap (λ m. first.acts ++ m.acts) is ∙ append-nil first.acts ∙ sym (ap (λ m. m.acts) same);
}

put_again : (o : Option (List ℕ)) (peer : ℕ) (r : List ℕ) (peers : PeerMap) → put_left o peer (insert peers peer r) ≡ put_left o peer peers
put_again None peer r peers = gone_put peers peer r
put_again (Some left) peer r peers = put_twice peers peer r left

-- the second piece went on
alike_on : (h later : Heard) (peer : ℕ) (r : List ℕ) (peers : PeerMap) (first second whole : Move) → first ≡ move (node h.state (insert peers peer r)) h.acts
    → second ≡ after_heard later peer (insert peers peer r) → whole ≡ after_heard (first_heard h.acts later) peer peers → AreAlike first second whole
alike_on h later peer r peers first second whole one two all = record {
  state = ap (λ m. m.state) two ∙ ap (λ peers. node later.state peers) (put_again later.left peer r peers) ∙ sym (ap (λ m. m.state) all);
  acts = ap (λ m. m.acts ++ second.acts) one ∙ ap (λ m. h.acts ++ m.acts) two ∙ sym (ap (λ m. m.acts) all);
}

-- a peer that is open
pieces : (n : NodeState) (peer p : ℕ) (left front back : List ℕ) → has_ended n.control ≡ false → element_of n.control.elements peer ≡ Some p
    → Ends (hears peer p (frames (left ++ front)) (rest (left ++ front)) n.control) (rest (left ++ front))
    → AreAlike (on_bytes_of (Some p) (Some left) peer front n) (node_step (on_bytes_of (Some p) (Some left) peer front n).state (event.Bytes peer back)) (on_bytes_of (Some p) (Some left) peer (front ++ back) n)
pieces n peer p left front back goes of how =
    let r = rest (left ++ front) in
    let h = hears peer p (frames (left ++ front)) r n.control in
    let first = on_bytes_of (Some p) (Some left) peer front n in
    let second = node_step first.state (event.Bytes peer back) in
    let whole = on_bytes_of (Some p) (Some left) peer (front ++ back) n in
    let onward = λ (x : ControlState). hears peer p (frames (r ++ back)) (rest (r ++ back)) x in
    let all : whole ≡ after_heard (then_heard h onward) peer n.peers =
    ap (λ c. after_heard (hears peer p c.taken c.rest n.control) peer n.peers) (ap cut_of (sym (append_assoc left front back)) ∙ cut_on (left ++ front) back)
    ∙ ap (λ x. after_heard x peer n.peers) (hears_on (frames (left ++ front)) (frames (r ++ back)) peer p r (rest (r ++ back)) n.control goes) in
    elim how [
      | inl none ↦
          let same : whole ≡ first = all ∙ ap (λ o. after_heard (then_by o (has_ended h.state) h onward) peer n.peers) none in
          let shut : get first.state.peers peer ≡ None = ap (λ o. get (put_left o peer n.peers) peer) none ∙ got_gone n.peers peer in
          alike_end first second whole (nothing (has_ended h.state) (element_of h.state.elements peer) first.state peer back refl refl shut) same
      | inr (inl (ended, some)) ↦
          let same : whole ≡ first =
          all ∙ ap (λ o. after_heard (then_by o (has_ended h.state) h onward) peer n.peers) some ∙ ap (λ b. after_heard (then_by (Some []) b h onward) peer n.peers) ended in
          alike_end first second whole (over first.state peer back ended) same
      | inr (inr (on, some)) ↦
          let later = onward h.state in
          let one : first ≡ move (node h.state (insert n.peers peer r)) h.acts = ap (λ o. move (node h.state (put_left o peer n.peers)) h.acts) some in
          let kept : element_of h.state.elements peer ≡ Some p = ap (λ l. element_of l peer) (hears_keeps (frames (left ++ front)) peer p r n.control) ∙ of in
          let there : get first.state.peers peer ≡ Some r = ap (λ o. get (put_left o peer n.peers) peer) some ∙ got_put n.peers peer r in
          let two : second ≡ after_heard later peer (insert n.peers peer r) =
          goes_to first.state peer back on ∙ ap (λ o. on_bytes_of o (get first.state.peers peer) peer back first.state) kept
          ∙ ap (λ o. on_bytes_of (Some p) o peer back first.state) there
          ∙ ap (λ o. after_heard later peer (put_left o peer n.peers)) some in
          let both : whole ≡ after_heard (first_heard h.acts later) peer n.peers =
          all ∙ ap (λ o. after_heard (then_by o (has_ended h.state) h onward) peer n.peers) some ∙ ap (λ b. after_heard (then_by (Some r) b h onward) peer n.peers) on in
          alike_on h later peer r n.peers first second whole one two both
    ]

alike_by : (o : Option ℕ) (l : Option (List ℕ)) (n : NodeState) (peer : ℕ) (front back : List ℕ) → has_ended n.control ≡ false → element_of n.control.elements peer ≡ o → get n.peers peer ≡ l
    → AreAlike (on_bytes_of o l peer front n) (node_step (on_bytes_of o l peer front n).state (event.Bytes peer back)) (on_bytes_of o l peer (front ++ back) n)
alike_by None l n peer front back goes of is =
    alike_end (move n []) _ (move n []) (goes_to n peer back goes ∙ ap (λ o. on_bytes_of o (get n.peers peer) peer back n) of) refl
alike_by (Some p) None n peer front back goes of is =
    alike_end (move n []) _ (move n []) (nothing false (Some p) n peer back goes of is) refl
alike_by (Some p) (Some left) n peer front back goes of is =
    pieces n peer p left front back goes of (ends (frames (left ++ front)) peer p (rest (left ++ front)) n.control goes)

alike_ended : (b : Bool) (n : NodeState) (peer : ℕ) (front back : List ℕ) → has_ended n.control ≡ b
    → AreAlike (node_step n (event.Bytes peer front)) (node_step (node_step n (event.Bytes peer front)).state (event.Bytes peer back)) (node_step n (event.Bytes peer (front ++ back)))
alike_ended true n peer front back ended =
    let first = over n peer front ended in
    alike_end _ _ _ (ap (λ m. node_step m.state (event.Bytes peer back)) first ∙ over n peer back ended ∙ sym (ap (λ m. move m.state []) first)) (over n peer (front ++ back) ended ∙ sym first)
alike_ended false n peer front back goes =
    let first = goes_to n peer front goes in
    subst (λ m. AreAlike m (node_step m.state (event.Bytes peer back)) (node_step n (event.Bytes peer (front ++ back)))) (sym first)
    (subst (λ m. AreAlike (on_bytes peer front n) (node_step (on_bytes peer front n).state (event.Bytes peer back)) m) (sym (goes_to n peer (front ++ back) goes))
    (alike_by (element_of n.control.elements peer) (get n.peers peer) n peer front back goes refl refl))

-- one event of bytes in two
pub bytes_alike : (n : NodeState) (peer : ℕ) (front back : List ℕ)
    → AreAlike (node_step n (event.Bytes peer front)) (node_step (node_step n (event.Bytes peer front)).state (event.Bytes peer back)) (node_step n (event.Bytes peer (front ++ back)))
bytes_alike n peer front back = alike_ended (has_ended n.control) n peer front back refl
