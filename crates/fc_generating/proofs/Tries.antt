-- What steps come to, up to the first that can't be made.
use Rattle.std.proofs.Common.{◌≡◌, ◌∙◌, ◌++◌, ◌+◌, ℕ, suc, List, [], ◌∷◌, drop, length, length-append, None, Some, refl, sym, ap, subst}
use Rattle.std.proofs.Math.Seq.{drop-append_seam}
use Rattle.fc_documents.specs.declared.transaction.PlanTxn.{PlanTxn}
use Rattle.std.specs.List.{fold}
use Rattle.fc_scripts.specs.Scripts.{Scripted}
use Rattle.fc_steps.specs.Steps.{CanStep}
use Rattle.fc_steps.specs.declared.step.Step.{Step}
use Rattle.fc_steps.specs.declared.step.Step.TheVariants as step
use Rattle.fc_world.specs.Played.{AreMade, Played, begins_with, setting_of, world_of}
use Rattle.fc_world.specs.Stages.{HasRound}
use Rattle.fc_world.specs.Trails.{TrailSoFar, gone_on, no_trail, past, trail_of}
use Rattle.fc_world.specs.Worlds.{WorldState, first_world}
use Rattle.fc_world.specs.WorldSteps.{fault_of, happens, run}
use Rattle.fc_world.specs.declared.faults.WorldFault.{WorldFault}
use Rattle.fc_world.specs.declared.sent.Parcel.{Parcel}
use Rattle.fc_world.proofs.Growing.{GrowsFrom, sends_behind}
use Rattle.fc_world.proofs.Running.{run_more}
use Rattle.fc_generating.specs.Trying.{Follows, last_world, tried, tried_by}

-- a step that a text can say has a round where it begins a life
pub has_round : (s : Step) → CanStep s → HasRound s
has_round (step.Open f c) can = tt
has_round (step.Deliver i) can = tt
has_round (step.Moment f t) can = tt
has_round (step.Start c r) can = can.1
has_round (step.Stop c) can = tt
has_round (step.Begin c n) can = tt
has_round (step.Plain c n) can = tt
has_round (step.GiveUp c x) can = tt
has_round (step.Resend c f) can = tt
has_round (step.Forget c) can = tt
has_round (step.Restart f) can = tt

-- a step was made
pub made : (p q : Played) (place : ℕ) (s : Step) (rest : List (ℕ × Step)) → fault_of p.setting.transactions (world_of p) s ≡ None → q ≡ record { setting = p.setting; done = p.done ++ (place, s) ∷ [] }
    → tried p.setting.transactions (world_of p) ((place, s) ∷ rest) ≡ tried p.setting.transactions (world_of q) rest
made p q place s rest can is =
    ap (λ f. tried_by f (tried p.setting.transactions (happens p.setting.transactions (world_of p) (place, s)) rest) (world_of p)) can
    ∙ sym (ap (λ w. tried p.setting.transactions w rest) (ap world_of is ∙ run_more p.setting.transactions (first_world p.setting) p.done (place, s)))

-- or it can't be
pub unmade : (p q : Played) (place : ℕ) (s : Step) (rest : List (ℕ × Step)) (f : WorldFault) → fault_of p.setting.transactions (world_of p) s ≡ Some f → q ≡ p
    → tried p.setting.transactions (world_of p) ((place, s) ∷ rest) ≡ world_of q
unmade p q place s rest f why is =
    ap (λ f. tried_by f (tried p.setting.transactions (happens p.setting.transactions (world_of p) (place, s)) rest) (world_of p)) why ∙ sym (ap world_of is)

-- the last world
pub comes_to : (script : Scripted) (p q : Played) (steps : List (ℕ × Step)) → p ≡ begins_with (setting_of script) → steps ≡ script.steps
    → world_of q ≡ tried p.setting.transactions (world_of p) steps → world_of q ≡ last_world script
comes_to script p q steps begins same is =
    is ∙ ap (λ (r : Played). tried r.setting.transactions (world_of r) steps) begins ∙ ap (tried script.transactions (first_world (setting_of script))) same

-- ---- steps that can all be made, and those up to one that can't be
pub all_made : (ts : List PlanTxn) (w : WorldState) (steps : List (ℕ × Step)) → AreMade ts w steps → tried ts w steps ≡ run ts w steps
all_made ts w [] can = refl
all_made ts w (x ∷ xs) can = ap (λ f. tried_by f (tried ts (happens ts w x) xs) w) can.0 ∙ all_made ts (happens ts w x) xs can.2

pub made_up_to : (ts : List PlanTxn) (w : WorldState) (front rest : List (ℕ × Step)) (x : ℕ × Step) (f : WorldFault) → AreMade ts w front → fault_of ts (run ts w front) x.1 ≡ Some f
    → tried ts w (front ++ x ∷ rest) ≡ run ts w front
made_up_to ts w [] rest x f can why = ap (λ g. tried_by g (tried ts (happens ts w x) rest) w) why
made_up_to ts w (y ∷ ys) rest x f can why =
    ap (λ g. tried_by g (tried ts (happens ts w y) (ys ++ x ∷ rest)) w) can.0 ∙ made_up_to ts (happens ts w y) ys rest x f can.2 why

-- ---- the trail of messages behind others
folded : {A B : Type 0} (f : B → A → B) (b : B) (xs ys : List A) → fold f b (xs ++ ys) ≡ fold f (fold f b xs) ys
folded f b [] ys = refl
folded f b (x ∷ xs) ys = folded f (f b x) xs ys

pub trail_behind : (ps qs : List Parcel) → trail_of (ps ++ qs) ≡ fold past (trail_of ps) qs
trail_behind ps qs = folded past 0 ps qs

-- ---- a trail that is taken along
-- no message was sent yet
pub follows_first : (script : Scripted) (p : Played) (t : TrailSoFar) → p ≡ begins_with (setting_of script) → t ≡ no_trail → Follows t (world_of p)
follows_first script p t begins none = record {
  count = ap (λ (s : TrailSoFar). s.count) none ∙ sym (ap (λ (q : Played). length (world_of q).sent) begins);
  number = ap (λ (s : TrailSoFar). s.number) none ∙ sym (ap (λ (q : Played). trail_of (world_of q).sent) begins);
}

-- more was sent
module _ (old new : TrailSoFar) (v w : WorldState) (follows : Follows old v) (on : new ≡ gone_on w.sent old) where
  behind : (more : List Parcel) → w.sent ≡ v.sent ++ more → drop old.count w.sent ≡ more
  behind more grown = ap (λ k. drop k w.sent) follows.count ∙ ap (drop (length v.sent)) grown ∙ drop-append_seam v.sent more

  further : GrowsFrom v.sent w.sent → Follows new w
  further (more, grown) = record {
    count =
        ap (λ (s : TrailSoFar). s.count) on ∙ ap (λ l. old.count + length l) (behind more grown) ∙ ap (λ k. k + length more) follows.count
        ∙ sym (ap length grown ∙ length-append v.sent more);
    number =
        ap (λ (s : TrailSoFar). s.number) on ∙ ap (fold past old.number) (behind more grown) ∙ ap (λ h. fold past h more) follows.number
        ∙ sym (ap trail_of grown ∙ trail_behind v.sent more);
  }

-- a step was made
pub follows_on : (p q : Played) (place : ℕ) (s : Step) (old new : TrailSoFar) → q ≡ record { setting = p.setting; done = p.done ++ (place, s) ∷ [] } → Follows old (world_of p) → new ≡ gone_on (world_of q).sent old → Follows new (world_of q)
follows_on p q place s old new is follows on =
    let steps : world_of q ≡ happens p.setting.transactions (world_of p) (place, s) = ap world_of is ∙ run_more p.setting.transactions (first_world p.setting) p.done (place, s) in
    further old new (world_of p) (world_of q) follows on (subst (λ (w : WorldState). GrowsFrom (world_of p).sent w.sent) (sym steps) (sends_behind p.setting.transactions (world_of p) (place, s)))
