-- All events of a node, with bytes among them that come in two pieces.
use Rattle.std.proofs.Common.{◌≡◌, ◌+◌, ℕ, List, [], ◌∷◌, ◌++◌, refl, sym, ap, ◌∙◌, append_assoc}
use Rattle.std.proofs.lemmas.List.{map-append}
use Rattle.fc_hub.specs.declared.event.HubEvent.{HubEvent}
use Rattle.fc_hub.specs.declared.event.HubEvent.TheVariants.{Bytes}
use Rattle.fc_hub.specs.declared.event.Act.{Act}
use Rattle.fc_peers.specs.Acting.{numbered}
use Rattle.fc_serving.specs.ElementNode.{Move, NodeState, acts_of, node_after, node_step}
use Rattle.fc_serving.specs.Pieces.{AreAlike, MakeTheSame, unnumbered}
use Rattle.fc_serving.proofs.Pieces.{bytes_alike}

-- the acts of all events, without numbers
abbrev plain : NodeState → List HubEvent → List Act
plain n [] = []
plain n (e ∷ es) = (node_step n e).acts ++ plain (node_step n e).state es

no_number : (taken : ℕ) (acts : List Act) → unnumbered (numbered taken acts) ≡ acts
no_number taken [] = refl
no_number taken (act ∷ acts) = ap (λ l. act ∷ l) (no_number taken acts)

is_plain : (taken : ℕ) (n : NodeState) (es : List HubEvent) → unnumbered (acts_of taken n es) ≡ plain n es
is_plain taken n [] = refl
is_plain taken n (e ∷ es) =
    let moved = node_step n e in
    map-append (λ act. act.1) (numbered (taken + 1) moved.acts) (acts_of (taken + 1) moved.state es)
    ∙ ap (λ l. l ++ unnumbered (acts_of (taken + 1) moved.state es)) (no_number (taken + 1) moved.acts)
    ∙ ap (λ l. moved.acts ++ l) (is_plain (taken + 1) moved.state es)

after_both : (n : NodeState) (es fs : List HubEvent) → node_after n (es ++ fs) ≡ node_after (node_after n es) fs
after_both n [] fs = refl
after_both n (e ∷ es) fs = after_both (node_step n e).state es fs

plain_both : (n : NodeState) (es fs : List HubEvent) → plain n (es ++ fs) ≡ plain n es ++ plain (node_after n es) fs
plain_both n [] fs = refl
plain_both n (e ∷ es) fs =
    let moved = node_step n e in
    ap (λ l. moved.acts ++ l) (plain_both moved.state es fs) ∙ sym (append_assoc moved.acts (plain moved.state es) (plain (node_after moved.state es) fs))

alike_acts : (first second whole : Move) (es : List HubEvent) → AreAlike first second whole
    → first.acts ++ (second.acts ++ plain second.state es) ≡ whole.acts ++ plain whole.state es
alike_acts first second whole es alike =
    sym (append_assoc first.acts second.acts (plain second.state es)) ∙ ap (λ l. l ++ plain second.state es) alike.acts
    ∙ ap (λ s. whole.acts ++ plain s es) alike.state

-- the same behind the same events
behind : (n : NodeState) (before these those : List HubEvent) → node_after (node_after n before) these ≡ node_after (node_after n before) those
    → plain (node_after n before) these ≡ plain (node_after n before) those → MakeTheSame n (before ++ these) (before ++ those)
behind n before these those state acts =
    let done : plain n (before ++ these) ≡ plain n (before ++ those) =
    plain_both n before these ∙ ap (λ l. plain n before ++ l) acts ∙ sym (plain_both n before those) in
    record {
      state = after_both n before these ∙ state ∙ sym (after_both n before those);
      acts = λ taken. is_plain taken n (before ++ these) ∙ done ∙ sym (is_plain taken n (before ++ those));
    }

pub run_alike : (first : NodeState) (before after : List HubEvent) (peer : ℕ) (front back : List ℕ)
    → MakeTheSame first (before ++ Bytes peer front ∷ Bytes peer back ∷ after) (before ++ Bytes peer (front ++ back) ∷ after)
run_alike first before after peer front back =
    let n = node_after first before in
    let one = node_step n (Bytes peer front) in
    let two = node_step one.state (Bytes peer back) in
    let whole = node_step n (Bytes peer (front ++ back)) in
    let alike = bytes_alike n peer front back in
    behind first before (Bytes peer front ∷ Bytes peer back ∷ after) (Bytes peer (front ++ back) ∷ after)
    (ap (λ s. node_after s after) alike.state) (alike_acts one two whole after alike)
