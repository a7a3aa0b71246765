-- Messages of an element one after the other.
use Rattle.std.proofs.Common.{◌≡◌, ◌<◌, ◌+◌, get_or, ℕ, List, [], ◌∷◌, ◌++◌, length, take, drop, sym, ap, ◌∙◌, append_assoc, Option}
use Rattle.std.specs.Option.{option_map}
use Rattle.std.proofs.lemmas.List.{map-append, take-append-drop, take_more}
use Rattle.fc_hub.specs.Hubs.{Held}
use Rattle.fc_performing.specs.declared.out.Out.{Out}
use Rattle.fc_peers.specs.Acting.{Acts, ActsUntil, acted}
use Rattle.fc_peers.specs.declared.acting.NodeStop.{NodeStop}
use Rattle.fc_peers.proofs.Acts.{acts_on, until_here}
use Rattle.fc_serving.specs.ElementNode.{sent}

-- so many messages were sent, and the next was not
pub sent_until : (stop : NodeStop) (a b c : Option Held) (outs : List Out) (n : ℕ) (o : Out) → n < length outs → o ≡ get_or outs n o → Acts a b (sent (take n outs))
    → c ≡ b → ActsUntil stop a c (sent outs)
sent_until stop a b c outs n o lt at first same =
    let more : take (n + 1) outs ≡ take n outs ++ o ∷ [] = take_more outs n o lt ∙ ap (λ x. take n outs ++ x ∷ []) (sym at) in
    let all : outs ≡ take n outs ++ o ∷ drop (n + 1) outs =
    sym (take-append-drop (n + 1) outs) ∙ ap (λ l. l ++ drop (n + 1) outs) more ∙ append_assoc (take n outs) (o ∷ []) (drop (n + 1) outs) in
    let (front, left, split, some, done) = until_here stop a b c (sent (take n outs)) _ (sent (drop (n + 1) outs)) first same in
    (front, left, ap sent all ∙ map-append _ (take n outs) (o ∷ drop (n + 1) outs) ∙ split, some, done)

-- one message more was sent
pub sent_more : (a b c : Option Held) (outs : List Out) (n : ℕ) (o : Out) → n < length outs → o ≡ get_or outs n o → Acts a b (sent (take n outs))
    → Acts b c (sent (o ∷ [])) → Acts a c (sent (take (n + 1) outs))
sent_more a b c outs n o lt at first second =
    let more : take (n + 1) outs ≡ take n outs ++ o ∷ [] = take_more outs n o lt ∙ ap (λ x. take n outs ++ x ∷ []) (sym at) in
    acts_on a b c _ _ first second ∙ ap (λ l. option_map (acted l) a) (sym (ap sent more ∙ map-append _ (take n outs) (o ∷ [])))
