-- The steps of a script as they are made, one after the other.
use Rattle.std.proofs.Common.{◌≡◌, ◌<◌, ◌≤◌, ◌∙◌, ◌+◌, ℕ, List, ◌∷◌, length, get_or, drop, sym, ap, subst, Option, None, Some, Result, Ok, Err}
use Rattle.std.specs.List.{AllByRecursion}
use Rattle.std.proofs.lemmas.List.{drop_all, drop_more}
use Rattle.fc_scripts.specs.Kept.{CanBeSaid}
use Rattle.fc_steps.specs.declared.step.Step.{Step}
use Rattle.fc_world.specs.Played.{Played, world_of}
use Rattle.fc_world.specs.Stages.{HasRound}
use Rattle.fc_world.specs.Worlds.{WorldState, first_world}
use Rattle.fc_world.specs.WorldSteps.{happens}
use Rattle.fc_playing.specs.Playing.{IsMade, played, played_by, step_fault}
use Rattle.fc_playing.specs.declared.playing.StepFault.{StepFault}
use Rattle.fc_playing.proofs.Steps.{has_round, run_last}

-- what a world comes to by these steps
abbrev comes : Played → List (ℕ × Step) → Result WorldState StepFault
comes p steps = played p.setting.transactions (world_of p) steps

-- the step whose turn it is, and those behind it
split : (steps : List (ℕ × Step)) (i : ℕ) (x : ℕ × Step) → i < length steps → x ≡ get_or steps i x → drop i steps ≡ x ∷ drop (i + 1) steps
split steps i x lt at = drop_more steps i x lt ∙ ap (λ y. y ∷ drop (i + 1) steps) (sym at)

-- a text can say it, and them
pub said_next : (steps : List (ℕ × Step)) (i : ℕ) (x : ℕ × Step) → i < length steps → x ≡ get_or steps i x → AllByRecursion CanBeSaid (drop i steps)
    → CanBeSaid x × AllByRecursion CanBeSaid (drop (i + 1) steps)
said_next steps i x lt at said = subst (AllByRecursion CanBeSaid) (split steps i x lt at) said

-- so it has a round where it begins a life
pub round_next : (steps : List (ℕ × Step)) (i : ℕ) (x : ℕ × Step) → i < length steps → x ≡ get_or steps i x → AllByRecursion CanBeSaid (drop i steps) → HasRound x.1
round_next steps i x lt at said = has_round x.1 (said_next steps i x lt at said).0

-- it was made: the world comes to the same by those behind it
pub goes_on : (fault : Option StepFault) (old new : Played) (steps : List (ℕ × Step)) (i : ℕ) (x : ℕ × Step) (whole : Result WorldState StepFault) → i < length steps → x ≡ get_or steps i x
    → fault ≡ None → IsMade fault old x.0 x.1 new → comes old (drop i steps) ≡ whole → comes new (drop (i + 1) steps) ≡ whole
goes_on None old new steps i x whole lt at is (can, made) come =
    let ts = old.setting.transactions in
    let rest = drop (i + 1) steps in
    let one : comes old (x ∷ rest) ≡ played ts (happens ts (world_of old) x) rest = ap (λ f. played_by f x.0 (played ts (happens ts (world_of old) x) rest)) can in
    subst (λ (p : Played). comes p rest ≡ whole) (sym made)
    (ap (λ w. played ts w rest) (run_last old.done ts (first_world old.setting) x) ∙ sym one ∙ sym (ap (comes old) (split steps i x lt at)) ∙ come)
goes_on (Some f) old new steps i x whole lt at is made come = cc is

-- it can't be made: so all come to that
pub stops_at : (fault : Option StepFault) (f : StepFault) (old new : Played) (steps : List (ℕ × Step)) (i : ℕ) (x : ℕ × Step) (whole : Result WorldState StepFault) → i < length steps → x ≡ get_or steps i x
    → fault ≡ Some f → IsMade fault old x.0 x.1 new → comes old (drop i steps) ≡ whole → whole ≡ Err f
stops_at fault f old new steps i x whole lt at is made come =
    let (place, wrong, same) = subst (λ g. IsMade g old x.0 x.1 new) is made in
    let ts = old.setting.transactions in
    let rest = drop (i + 1) steps in
    sym come ∙ ap (comes old) (split steps i x lt at) ∙ ap (λ g. played_by g x.0 (played ts (happens ts (world_of old) x) rest)) wrong
    ∙ ap (λ (n : ℕ). Err (step_fault n f.fault)) (sym place)

-- all were made
pub all_made : (now : Played) (steps : List (ℕ × Step)) (i : ℕ) (whole : Result WorldState StepFault) → length steps ≤ i → comes now (drop i steps) ≡ whole → whole ≡ Ok (world_of now)
all_made now steps i whole ends come = sym come ∙ ap (comes now) (drop_all i steps ends)
