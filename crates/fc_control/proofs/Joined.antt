-- What is done in two parts.
use Rattle.std.proofs.Common.{◌≡◌, ◌++◌, ap, subst, ◌∙◌, Option, Result, Ok, Err}
use Rattle.std.specs.Prelude.{IfErr, OnOk}
use Rattle.fc_hub.specs.Hubs.{Held}
use Rattle.fc_peers.specs.Acting.{Acts, ActsUntil}
use Rattle.fc_peers.specs.declared.acting.NodeStop.{NodeStop}
use Rattle.fc_peers.proofs.Acts.{acts_on, until_longer, until_on}
use Rattle.fc_control.specs.ControlNode.{ControlState, Turn, and_then}

-- the second part leaves what both leave
pub then_state : (r : Result (Unit {0}) NodeStop) (t : Turn) (f : ControlState → Turn) (mid last : ControlState) → mid ≡ t.state → OnOk r (last ≡ (f mid).state)
    → OnOk r (last ≡ (and_then t f).state)
then_state (Ok x) t f mid last is second = second ∙ ap (λ n. (f n).state) is
then_state (Err stop) t f mid last is second = tt

-- its acts follow
pub then_acts : (r : Result (Unit {0}) NodeStop) (a b c : Option Held) (t : Turn) (f : ControlState → Turn) (mid : ControlState) → mid ≡ t.state → Acts a b t.acts
    → OnOk r (Acts b c (f mid).acts) → OnOk r (Acts a c (and_then t f).acts)
then_acts (Ok x) a b c t f mid is first second = subst (λ n. Acts a c (t.acts ++ (f n).acts)) is (acts_on a b c t.acts (f mid).acts first second)
then_acts (Err stop) a b c t f mid is first second = tt

-- or a front of them
pub then_until : (r : Result (Unit {0}) NodeStop) (a b c : Option Held) (t : Turn) (f : ControlState → Turn) (mid : ControlState) → mid ≡ t.state → Acts a b t.acts
    → IfErr r (λ stop. ActsUntil stop b c (f mid).acts) → IfErr r (λ stop. ActsUntil stop a c (and_then t f).acts)
then_until (Ok x) a b c t f mid is first second = tt
then_until (Err stop) a b c t f mid is first second = subst (λ n. ActsUntil stop a c (t.acts ++ (f n).acts)) is (until_on stop a b c t.acts (f mid).acts first second)

-- the first part broke off
pub first_until : (stop : NodeStop) (a b : Option Held) (t : Turn) (f : ControlState → Turn) → ActsUntil stop a b t.acts → ActsUntil stop a b (and_then t f).acts
first_until stop a b t f until = until_longer stop a b t.acts (f t.state).acts until
