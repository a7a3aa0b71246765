-- Events behind others, and a node that has ended.
use Rattle.std.proofs.Common.{◌≡◌, ◌≤◌, ◌<◌, ◌+◌, ℕ, Bool, true, false, List, [], ◌∷◌, ◌++◌, length, refl, sym, ap, ◌∙◌, append-nil, arith, if◌then◌else◌}
use Rattle.fc_hub.specs.declared.event.HubEvent.{HubEvent}
use Rattle.fc_hub.specs.declared.event.Act.{Act}
use Rattle.fc_control.specs.ControlNode.{NodeState, has_ended, move, node_after, node_step, on_event}
use Rattle.fc_control.proofs.Runs.{after_both, plain, plain_both}

-- of two fronts of one list the shorter one is a front of the other
pub front_of : {A : Type 0} (xs ys r s : List A) → xs ++ r ≡ ys ++ s → length xs ≤ length ys → (more : List A) × (ys ≡ xs ++ more)
front_of [] ys r s is le = (ys, refl)
front_of (x ∷ xs) [] r s is le = absurd (omega (arith, le))
front_of (x ∷ xs) (y ∷ ys) r s is le =
    let parts : x ∷ (xs ++ r) ≡ y ∷ (ys ++ s) = is in
    let head : x ≡ y = cc parts in
    let tail : xs ++ r ≡ ys ++ s = cc parts in
    let (more, split) = front_of xs ys r s tail (omega (arith, le)) in
    (more, ap (λ z. z ∷ ys) (sym head) ∙ ap (λ l. x ∷ l) split)

ended_step : (n : NodeState) (e : HubEvent) → has_ended n.control ≡ true → node_step n e ≡ move n []
ended_step n e ended = ap (λ b. if b then move n [] else on_event e n) ended

-- a node that has ended stays as it is
pub ended_after : (n : NodeState) (events : List HubEvent) → has_ended n.control ≡ true → node_after n events ≡ n
ended_after n [] ended = refl
ended_after n (e ∷ es) ended = ap (λ m. node_after m.state es) (ended_step n e ended) ∙ ended_after n es ended

-- and does nothing
pub ended_acts : (n : NodeState) (events : List HubEvent) → has_ended n.control ≡ true → plain n events ≡ []
ended_acts n [] ended = refl
ended_acts n (e ∷ es) ended = ap (λ m. m.acts ++ plain m.state es) (ended_step n e ended) ∙ ended_acts n es ended

-- of all events those up to its end make it and its acts
pub all_after : (n : NodeState) (events rest : List HubEvent) → has_ended (node_after n events).control ≡ true → node_after n (events ++ rest) ≡ node_after n events
all_after n events rest ended = after_both n events rest ∙ ended_after (node_after n events) rest ended

pub all_acts : (n : NodeState) (events rest : List HubEvent) → has_ended (node_after n events).control ≡ true → plain n (events ++ rest) ≡ plain n events
all_acts n events rest ended =
    plain_both n events rest ∙ ap (λ l. plain n events ++ l) (ended_acts (node_after n events) rest ended) ∙ append-nil (plain n events)
