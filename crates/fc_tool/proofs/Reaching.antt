-- Frames one after the other, and their lines.
use Rattle.std.proofs.Common.{◌≡◌, ◌+◌, ℕ, List, [], ◌∷◌, ◌++◌, take, drop, append_assoc, append-nil, refl, ap, ◌∙◌}
use Rattle.std.proofs.lemmas.List.{take-append-drop, drop-drop}
use Rattle.std.proofs.lemmas.Grind.{flat_map-append}
use Rattle.fc_msg.specs.declared.message.Message.{Message}
use Rattle.fc_wire.specs.Frames.{joined}
use Rattle.fc_text.specs.Text.{message_text}
use Rattle.fc_msg.specs.Messages.{Spells}
use Rattle.fc_tool.specs.Show.{AreMessages, Reaches, text_of}

pub messages_both : (hs ks : List Message) (frames others : List (List ℕ)) → AreMessages hs frames → AreMessages ks others
    → AreMessages (hs ++ ks) (frames ++ others)
messages_both [] ks [] others all more = more
messages_both [] ks (f ∷ fs) others all more = absurd all
messages_both (h ∷ hs) ks [] others all more = absurd all
messages_both (h ∷ hs) ks (f ∷ fs) others all more = (all.0, messages_both hs ks fs others all.1 more)

-- one message more, of so many bytes
pub reaches_more : (bytes : List ℕ) (hs : List Message) (at size : ℕ) (h : Message) → Reaches bytes hs (drop at bytes)
    → Spells h (take size (drop at bytes)) → Reaches bytes (hs ++ h ∷ []) (drop (at + size) bytes)
reaches_more bytes hs at size h there is =
    let rest = drop at bytes in
    record {
      frames = there.frames ++ take size rest ∷ [];
      whole = rw (flat_map-append, append-nil, append_assoc, ← drop-drop size at bytes, take-append-drop) there.whole;
      each = messages_both hs (h ∷ []) there.frames (take size rest ∷ []) there.each (is, tt);
    }

-- the next piece of the stream came
pub reaches_fed : (bytes : List ℕ) (hs : List Message) (rest piece : List ℕ) → Reaches bytes hs rest → Reaches (bytes ++ piece) hs (rest ++ piece)
reaches_fed bytes hs rest piece there = record {
  frames = there.frames;
  whole = ap (λ l. l ++ piece) there.whole ∙ append_assoc (joined there.frames) rest piece;
  each = there.each;
}

-- more messages stand in what was left
pub reaches_on : (bytes : List ℕ) (hs : List Message) (mid : List ℕ) (ks : List Message) (rest : List ℕ) → Reaches bytes hs mid → Reaches mid ks rest
    → Reaches bytes (hs ++ ks) rest
reaches_on bytes hs mid ks rest first second = record {
  frames = first.frames ++ second.frames;
  whole = rw (flat_map-append, append_assoc) (first.whole ∙ ap (λ l. joined first.frames ++ l) second.whole);
  each = messages_both hs ks first.frames second.frames first.each second.each;
}

pub text_more : (hs : List Message) (h : Message) (before now : List ℕ) → now ≡ before ++ text_of hs
    → now ++ message_text h ≡ before ++ text_of (hs ++ h ∷ [])
text_more hs h before now e = rw (flat_map-append, append-nil, e, append_assoc) refl
