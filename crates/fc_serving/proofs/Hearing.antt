-- What the frames of a peer make of an element, frame by frame.
use Rattle.std.proofs.Common.{◌≡◌, ◌≤◌, ◌<◌, ℕ, List, [], ◌∷◌, ◌++◌, length, take, drop, true, false, sym, ap, ◌∙◌, append_assoc, append-nil, Some, None}
use Rattle.fc_wire.specs.Frames.{frame_len}
use Rattle.fc_hub.specs.declared.event.Act.{Act}
use Rattle.fc_hub.specs.declared.event.Act.TheVariants.{Shut}
use Rattle.fc_msg.specs.declared.message.Message.{Message}
use Rattle.fc_msg.specs.Reading.{message_in}
use Rattle.fc_element.specs.declared.input.ElIn.TheVariants.{Arrived}
use Rattle.fc_element.specs.ElementMachine.{step}
use Rattle.fc_element.specs.ElementState.{ElementState}
use Rattle.fc_peers.specs.Streams.{frames}
use Rattle.fc_peers.proofs.Cut.{cut_partial, cut_whole}
use Rattle.fc_serving.specs.ElementNode.{Heard, by_message, first_heard, heard, hears, sent}

-- acts that were done before
abbrev pub before : List Act → Heard → Heard
before acts h = heard h.element (acts ++ h.acts) h.stays

-- a frame was a message
pub heard_more : (start : Heard) (acts : List Act) (e : ElementState) (peer : ℕ) (bytes : List ℕ) (m : Message)
    → start ≡ before acts (hears e peer (frames bytes)) → frame_len bytes ≤ length bytes → message_in (take (frame_len bytes) bytes) ≡ Some m
    → start ≡ before (acts ++ sent (step e (Arrived peer m)).outs) (hears (step e (Arrived peer m)).state peer (frames (drop (frame_len bytes) bytes)))
heard_more start acts e peer bytes m is le message =
    let turn = step e (Arrived peer m) in
    let later = hears turn.state peer (frames (drop (frame_len bytes) bytes)) in
    let first : hears e peer (frames bytes) ≡ first_heard turn later =
    ap (λ c. hears e peer c.taken) (cut_whole bytes le) ∙ ap (λ o. by_message o e peer (λ next. hears next peer (frames (drop (frame_len bytes) bytes)))) message in
    is ∙ ap (before acts) first ∙ ap (λ l. heard later.element l later.stays) (sym (append_assoc acts (sent turn.outs) later.acts))

-- no frame is left
pub heard_all : (start : Heard) (acts : List Act) (e : ElementState) (peer : ℕ) (bytes : List ℕ) → start ≡ before acts (hears e peer (frames bytes))
    → length bytes < frame_len bytes → start ≡ heard e acts true
heard_all start acts e peer bytes is lt =
    is ∙ ap (λ c. before acts (hears e peer c.taken)) (cut_partial bytes lt) ∙ ap (λ l. heard e l true) (append-nil acts)

-- a frame was no message
pub heard_no_message : (start : Heard) (acts : List Act) (e : ElementState) (peer : ℕ) (bytes : List ℕ) → start ≡ before acts (hears e peer (frames bytes))
    → frame_len bytes ≤ length bytes → message_in (take (frame_len bytes) bytes) ≡ None → start ≡ heard e (acts ++ Shut peer ∷ []) false
heard_no_message start acts e peer bytes is le none =
    is ∙ ap (λ c. before acts (hears e peer c.taken)) (cut_whole bytes le)
    ∙ ap (λ o. before acts (by_message o e peer (λ next. hears next peer (frames (drop (frame_len bytes) bytes))))) none
