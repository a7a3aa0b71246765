-- What steps come to, told step by step and as a whole.
use Rattle.std.proofs.Common.{◌≡◌, ◌∙◌, ◌++◌, ℕ, List, [], ◌∷◌, Option, None, Some, Result, Ok, Err, refl, sym, ap}
use Rattle.fc_documents.specs.declared.transaction.PlanTxn.{PlanTxn}
use Rattle.fc_steps.specs.Steps.{CanStep}
use Rattle.fc_steps.specs.declared.step.Step.{Step}
use Rattle.fc_steps.specs.declared.step.Step.TheVariants as step
use Rattle.fc_world.specs.Stages.{HasRound}
use Rattle.fc_world.specs.Worlds.{WorldState}
use Rattle.fc_world.specs.WorldSteps.{fault_of, happens, run}
use Rattle.fc_world.specs.declared.faults.WorldFault.{WorldFault}
use Rattle.fc_playing.specs.Playing.{AreMade, CanAll, IsFirstFault, played, played_by, step_fault}
use Rattle.fc_playing.specs.declared.playing.StepFault.{StepFault}

-- a step that a text can say has a round where it begins a life
pub has_round : (s : Step) → CanStep s → HasRound s
has_round (step.Open f c) can = tt
has_round (step.Deliver i) can = tt
has_round (step.Moment f t) can = tt
has_round (step.Start c r) can = can.1
has_round (step.Stop c) can = tt
has_round (step.Begin c n) can = tt
has_round (step.Plain c n) can = tt
has_round (step.GiveUp c x) can = tt
has_round (step.Resend c f) can = tt
has_round (step.Forget c) can = tt
has_round (step.Restart f) can = tt

-- one more step behind others
pub run_last : (xs : List (ℕ × Step)) (ts : List PlanTxn) (w : WorldState) (x : ℕ × Step) → run ts w (xs ++ x ∷ []) ≡ happens ts (run ts w xs) x
run_last [] ts w x = refl
run_last (y ∷ ys) ts w x = run_last ys ts (happens ts w y) x

-- ---- all are made
made_by : (f : Option WorldFault) (ts : List PlanTxn) (w new : WorldState) (x : ℕ × Step) (xs : List (ℕ × Step)) (rest : Result WorldState StepFault) → fault_of ts w x.1 ≡ f → played_by f x.0 rest ≡ Ok new
    → (rest ≡ Ok new → AreMade ts (happens ts w x) xs new) → AreMade ts w (x ∷ xs) new
made_by None ts w new x xs rest at is more = let (all, end) = more is in ((at, all), end)
made_by (Some f) ts w new x xs rest at is more = cc

pub are_made : (steps : List (ℕ × Step)) (ts : List PlanTxn) (w new : WorldState) → played ts w steps ≡ Ok new → AreMade ts w steps new
are_made [] ts w new is = (tt, let same : w ≡ new = cc is in sym same)
are_made (x ∷ xs) ts w new is = made_by (fault_of ts w x.1) ts w new x xs (played ts (happens ts w x) xs) refl is (are_made xs ts (happens ts w x) new)

pub come_to : (steps : List (ℕ × Step)) (ts : List PlanTxn) (w new : WorldState) → AreMade ts w steps new → played ts w steps ≡ Ok new
come_to [] ts w new (all, end) = ap Ok (sym end)
come_to (x ∷ xs) ts w new ((at, all), end) = ap (λ f. played_by f x.0 (played ts (happens ts w x) xs)) at ∙ come_to xs ts (happens ts w x) new (all, end)

-- ---- one can't be made
first_by : (f : Option WorldFault) (ts : List PlanTxn) (w : WorldState) (x : ℕ × Step) (xs : List (ℕ × Step)) (fault : StepFault) (rest : Result WorldState StepFault) → fault_of ts w x.1 ≡ f
    → played_by f x.0 rest ≡ Err fault → (rest ≡ Err fault → IsFirstFault ts (happens ts w x) xs fault) → IsFirstFault ts w (x ∷ xs) fault
first_by None ts w x xs fault rest at is more =
    let first = more is in
    record { before = x ∷ first.before; step = first.step; after = first.after; split = ap (λ l. x ∷ l) first.split; made = (at, first.made); wrong = first.wrong }
first_by (Some f) ts w x xs fault rest at is more =
    let same : step_fault x.0 f ≡ fault = cc is in
    record {
      before = [];
      step = x.1;
      after = xs;
      split = ap (λ (n : ℕ). (n, x.1) ∷ xs) (ap (λ (e : StepFault). e.place) same);
      made = tt;
      wrong = at ∙ ap (λ (e : StepFault). Some e.fault) same;
    }

pub first_fault : (steps : List (ℕ × Step)) (ts : List PlanTxn) (w : WorldState) (fault : StepFault) → played ts w steps ≡ Err fault → IsFirstFault ts w steps fault
first_fault [] ts w fault is = cc
first_fault (x ∷ xs) ts w fault is = first_by (fault_of ts w x.1) ts w x xs fault (played ts (happens ts w x) xs) refl is (first_fault xs ts (happens ts w x) fault)

falls_at : (before : List (ℕ × Step)) (ts : List PlanTxn) (w : WorldState) (s : Step) (after : List (ℕ × Step)) (fault : StepFault) → CanAll ts w before → fault_of ts (run ts w before) s ≡ Some fault.fault
    → played ts w (before ++ (fault.place, s) ∷ after) ≡ Err fault
falls_at [] ts w s after fault can wrong = ap (λ f. played_by f fault.place (played ts (happens ts w (fault.place, s)) after)) wrong
falls_at (x ∷ xs) ts w s after fault (at, can) wrong =
    ap (λ f. played_by f x.0 (played ts (happens ts w x) (xs ++ (fault.place, s) ∷ after))) at ∙ falls_at xs ts (happens ts w x) s after fault can wrong

pub falls : (steps : List (ℕ × Step)) (ts : List PlanTxn) (w : WorldState) (fault : StepFault) → IsFirstFault ts w steps fault → played ts w steps ≡ Err fault
falls steps ts w fault first = ap (played ts w) first.split ∙ falls_at first.before ts w first.step first.after fault first.made first.wrong
