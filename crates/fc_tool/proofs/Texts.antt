-- Messages of the same frames have the same texts.
use Rattle.std.proofs.Common.{◌≡◌, ℕ, List, [], ◌∷◌, refl, ap}
use Rattle.fc_msg.specs.declared.message.Message.{Message}
use Rattle.fc_msg.proofs.Reading.{once}
use Rattle.fc_tool.specs.Show.{AreMessages, text_of}

-- the same frames are the same messages
pub same_messages : (hs ks : List Message) (frames : List (List ℕ)) → AreMessages hs frames → AreMessages ks frames → hs ≡ ks
same_messages [] [] [] all each = refl
same_messages [] (k ∷ ks) [] all each = absurd each
same_messages (h ∷ hs) ks [] all each = absurd all
same_messages [] ks (f ∷ fs) all each = absurd all
same_messages (h ∷ hs) [] (f ∷ fs) all each = absurd each
same_messages (h ∷ hs) (k ∷ ks) (f ∷ fs) all each =
    let first = once h k f all.0 each.0 in
    let others = same_messages hs ks fs all.1 each.1 in
    cc

pub same_text : (hs ks : List Message) (frames : List (List ℕ)) → AreMessages hs frames → AreMessages ks frames → text_of hs ≡ text_of ks
same_text hs ks frames all each = ap text_of (same_messages hs ks frames all each)
