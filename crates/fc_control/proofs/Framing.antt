-- What the frames of a peer make of a control element, frame by frame.
use Rattle.std.proofs.Common.{◌≡◌, ◌≤◌, ◌<◌, ℕ, Bool, true, false, List, [], ◌∷◌, ◌++◌, length, take, drop, refl, sym, ap, ◌∙◌, append_assoc, append-nil, Option, Some, None}
use Rattle.fc_wire.specs.Frames.{frame_len}
use Rattle.fc_hub.specs.Hubs.{Held}
use Rattle.fc_hub.specs.declared.event.Act.{Act}
use Rattle.fc_hub.specs.declared.event.Act.TheVariants.{Shut}
use Rattle.fc_msg.specs.declared.message.Message.{Message}
use Rattle.fc_msg.specs.Reading.{message_in}
use Rattle.fc_peers.specs.Acting.{Acts, ActsUntil}
use Rattle.fc_peers.specs.Streams.{frames, rest}
use Rattle.fc_peers.specs.declared.acting.NodeStop.{NodeStop}
use Rattle.fc_peers.proofs.Acts.{until_longer, until_on, until_same}
use Rattle.fc_peers.proofs.Cut.{cut_partial, cut_whole}
use Rattle.fc_control.specs.ControlNode.{ControlState, Heard, Turn, by_message, comes, first_heard, has_ended, heard, hears, unless_ended}

-- a frame was a message
by_one : (start : Heard) (acts : List Act) (peer p : ℕ) (bytes : List ℕ) (m : Message) (n : ControlState) (b : Bool)
    → start ≡ first_heard acts (hears peer p (frames bytes) (rest bytes) n) → frame_len bytes ≤ length bytes → message_in (take (frame_len bytes) bytes) ≡ Some m
    → has_ended (comes peer p m n).state ≡ b
    → start ≡ first_heard acts (unless_ended b (comes peer p m n) (λ next. hears peer p (frames (drop (frame_len bytes) bytes)) (rest (drop (frame_len bytes) bytes)) next))
by_one start acts peer p bytes m n b is le message at =
    let later : ControlState → Heard = λ next. hears peer p (frames (drop (frame_len bytes) bytes)) (rest (drop (frame_len bytes) bytes)) next in
    is ∙ ap (λ c. first_heard acts (hears peer p c.taken c.rest n)) (cut_whole bytes le)
    ∙ ap (λ o. first_heard acts (by_message o peer p n later)) message
    ∙ ap (λ b. first_heard acts (unless_ended b (comes peer p m n) later)) at

pub heard_more : (start : Heard) (acts : List Act) (peer p : ℕ) (bytes : List ℕ) (m : Message) (n : ControlState)
    → start ≡ first_heard acts (hears peer p (frames bytes) (rest bytes) n) → frame_len bytes ≤ length bytes → message_in (take (frame_len bytes) bytes) ≡ Some m
    → has_ended (comes peer p m n).state ≡ false
    → start ≡ first_heard (acts ++ (comes peer p m n).acts) (hears peer p (frames (drop (frame_len bytes) bytes)) (rest (drop (frame_len bytes) bytes)) (comes peer p m n).state)
heard_more start acts peer p bytes m n is le message goes =
    let t = comes peer p m n in
    let later = hears peer p (frames (drop (frame_len bytes) bytes)) (rest (drop (frame_len bytes) bytes)) t.state in
    by_one start acts peer p bytes m n false is le message goes ∙ ap (λ l. heard later.state l later.left) (sym (append_assoc acts t.acts later.acts))

-- it was the last
pub heard_ended : (start : Heard) (acts : List Act) (peer p : ℕ) (bytes : List ℕ) (m : Message) (n : ControlState)
    → start ≡ first_heard acts (hears peer p (frames bytes) (rest bytes) n) → frame_len bytes ≤ length bytes → message_in (take (frame_len bytes) bytes) ≡ Some m
    → has_ended (comes peer p m n).state ≡ true → start ≡ heard (comes peer p m n).state (acts ++ (comes peer p m n).acts) (Some [])
heard_ended start acts peer p bytes m n is le message ended = by_one start acts peer p bytes m n true is le message ended

-- of a message a front of the acts was done
until_by : (b : Bool) (stop : NodeStop) (x y z : Option Held) (start : Heard) (acts : List Act) (t : Turn) (later : ControlState → Heard)
    → start ≡ first_heard acts (unless_ended b t later) → Acts x y acts → ActsUntil stop y z t.acts → ActsUntil stop x z start.acts
until_by true stop x y z start acts t later is first second = until_same stop x z _ _ (until_on stop x y z acts t.acts first second) (ap (λ h. h.acts) is)
until_by false stop x y z start acts t later is first second =
    until_same stop x z _ _ (until_on stop x y z acts (t.acts ++ (later t.state).acts) first (until_longer stop y z t.acts (later t.state).acts second)) (ap (λ h. h.acts) is)

pub heard_until : (stop : NodeStop) (x y z : Option Held) (start : Heard) (acts : List Act) (peer p : ℕ) (bytes : List ℕ) (m : Message) (n : ControlState)
    → start ≡ first_heard acts (hears peer p (frames bytes) (rest bytes) n) → frame_len bytes ≤ length bytes → message_in (take (frame_len bytes) bytes) ≡ Some m
    → Acts x y acts → ActsUntil stop y z (comes peer p m n).acts → ActsUntil stop x z start.acts
heard_until stop x y z start acts peer p bytes m n is le message first second =
    let t = comes peer p m n in
    until_by (has_ended t.state) stop x y z start acts t _ (by_one start acts peer p bytes m n (has_ended t.state) is le message refl) first second

-- no frame is left
pub heard_all : (start : Heard) (acts : List Act) (peer p : ℕ) (bytes : List ℕ) (n : ControlState) → start ≡ first_heard acts (hears peer p (frames bytes) (rest bytes) n)
    → length bytes < frame_len bytes → start ≡ heard n acts (Some bytes)
heard_all start acts peer p bytes n is lt =
    is ∙ ap (λ c. first_heard acts (hears peer p c.taken c.rest n)) (cut_partial bytes lt) ∙ ap (λ l. heard n l (Some bytes)) (append-nil acts)

-- a frame was no message
pub heard_no_message : (start : Heard) (acts : List Act) (peer p : ℕ) (bytes : List ℕ) (n : ControlState) → start ≡ first_heard acts (hears peer p (frames bytes) (rest bytes) n)
    → frame_len bytes ≤ length bytes → message_in (take (frame_len bytes) bytes) ≡ None → start ≡ heard n (acts ++ Shut peer ∷ []) None
heard_no_message start acts peer p bytes n is le none =
    is ∙ ap (λ c. first_heard acts (hears peer p c.taken c.rest n)) (cut_whole bytes le)
    ∙ ap (λ o. first_heard acts (by_message o peer p n (λ next. hears peer p (frames (drop (frame_len bytes) bytes)) (rest (drop (frame_len bytes) bytes)) next))) none
