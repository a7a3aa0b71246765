-- Messages of a control element one after the other.
use Rattle.std.proofs.Common.{◌≡◌, ◌<◌, ◌+◌, get_or, ℕ, List, [], ◌∷◌, ◌++◌, length, take, drop, sym, ap, ◌∙◌, append-nil, Option, Result, subst}
use Rattle.std.specs.Prelude.{IfErr, OnOk}
use Rattle.std.proofs.lemmas.Grind.{flat_map-append}
use Rattle.std.proofs.lemmas.List.{take-append-drop, take_more}
use Rattle.fc_hub.specs.Hubs.{Held}
use Rattle.fc_jobs.specs.declared.sending.CeOut.{CeOut}
use Rattle.fc_peers.specs.Acting.{Acts, ActsUntil, sending}
use Rattle.fc_peers.specs.declared.acting.NodeStop.{NodeStop}
use Rattle.fc_peers.proofs.Acts.{acts_on, acts_same, until_longer, until_on, until_same}
use Rattle.fc_control.specs.ControlNode.{peer_of, sent}

sent_both : (elements : List ℕ) (outs others : List CeOut) → sent elements (outs ++ others) ≡ sent elements outs ++ sent elements others
sent_both elements outs others = flat_map-append (λ (o : CeOut). sending (peer_of o.to elements) o.message) outs others

sent_push : (elements : List ℕ) (outs : List CeOut) (o : CeOut) → sent elements (outs ++ o ∷ []) ≡ sent elements outs ++ sending (peer_of o.to elements) o.message
sent_push elements outs o = sent_both elements outs (o ∷ []) ∙ ap (λ l. sent elements outs ++ l) (append-nil (sending (peer_of o.to elements) o.message))

-- so many messages and one more
taken : (elements : List ℕ) (outs : List CeOut) (n : ℕ) (o : CeOut) (peer : ℕ) → n < length outs → o ≡ get_or outs n o → peer ≡ peer_of o.to elements
    → sent elements (take (n + 1) outs) ≡ sent elements (take n outs) ++ sending peer o.message
taken elements outs n o peer lt at is =
    let more : take (n + 1) outs ≡ take n outs ++ o ∷ [] = take_more outs n o lt ∙ ap (λ x. take n outs ++ x ∷ []) (sym at) in
    ap (sent elements) more ∙ sent_push elements (take n outs) o ∙ ap (λ k. sent elements (take n outs) ++ sending k o.message) (sym is)

-- one message more was sent
pub sent_more : (a b c : Option Held) (elements : List ℕ) (outs : List CeOut) (n : ℕ) (o : CeOut) (peer : ℕ) → n < length outs → o ≡ get_or outs n o → peer ≡ peer_of o.to elements
    → Acts a b (sent elements (take n outs)) → Acts b c (sending peer o.message) → Acts a c (sent elements (take (n + 1) outs))
sent_more a b c elements outs n o peer lt at is first second =
    acts_same a c _ _ (acts_on a b c (sent elements (take n outs)) (sending peer o.message) first second) (taken elements outs n o peer lt at is)

-- so many messages were sent, and the next was not
pub sent_until : (stop : NodeStop) (a b c : Option Held) (elements : List ℕ) (outs : List CeOut) (n : ℕ) (o : CeOut) (peer : ℕ) → n < length outs → o ≡ get_or outs n o → peer ≡ peer_of o.to elements
    → Acts a b (sent elements (take n outs)) → ActsUntil stop b c (sending peer o.message) → ActsUntil stop a c (sent elements outs)
sent_until stop a b c elements outs n o peer lt at is first second =
    let front = sent elements (take n outs) ++ sending peer o.message in
    let back = sent elements (drop (n + 1) outs) in
    let split : sent elements outs ≡ front ++ back =
    ap (sent elements) (sym (take-append-drop (n + 1) outs)) ∙ sent_both elements (take (n + 1) outs) (drop (n + 1) outs) ∙ ap (λ l. l ++ back) (taken elements outs n o peer lt at is) in
    until_same stop a c (front ++ back) (sent elements outs) (until_longer stop a c front back (until_on stop a b c (sent elements (take n outs)) (sending peer o.message) first second)) split

-- the same of lists that are these
pub all_sent : (r : Result (Unit {0}) NodeStop) (a b : Option Held) (elements others : List ℕ) (outs those : List CeOut) → elements ≡ others → outs ≡ those
    → OnOk r (Acts a b (sent elements outs)) → OnOk r (Acts a b (sent others those))
all_sent r a b elements others outs those is same told = subst (λ es. OnOk r (Acts a b (sent es those))) is (subst (λ os. OnOk r (Acts a b (sent elements os))) same told)

pub none_sent : (r : Result (Unit {0}) NodeStop) (a b : Option Held) (elements others : List ℕ) (outs those : List CeOut) → elements ≡ others → outs ≡ those
    → IfErr r (λ stop. ActsUntil stop a b (sent elements outs)) → IfErr r (λ stop. ActsUntil stop a b (sent others those))
none_sent r a b elements others outs those is same told =
    subst (λ es. IfErr r (λ stop. ActsUntil stop a b (sent es those))) is (subst (λ os. IfErr r (λ stop. ActsUntil stop a b (sent elements os))) same told)
