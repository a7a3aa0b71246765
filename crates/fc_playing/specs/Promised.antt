-- The promise of a network element, of a script that is played. This profile's own.
use Rattle.std.specs.Prelude.{◌≡◌, ◌++◌, ℕ, List}
use Rattle.fc_rounds.specs.Lines.{HasOneWord, HasReported}
use Rattle.fc_rounds.specs.Promise.{HadOnePlan, HasAgreed, HasFolded, HasSettled, HasSettledOnce, HasTold, IsFenced, WasReady}
use Rattle.fc_scripts.specs.Scripts.{Scripted}
use Rattle.fc_steps.specs.declared.step.Step.{Step}
use Rattle.fc_world.specs.Played.{Played, setting_of}
use Rattle.fc_world.specs.Worlds.{first_world}
use Rattle.fc_playing.specs.Playing.{CanAll}

-- This holds at every moment of a script: of its world as it is once the first of its steps were made, however many, where each of them could be
-- made when its turn came.
abbrev pub AtEachStep : (Played → Type 0) → Scripted → Type 0
AtEachStep Holds s =
    (done after : List (ℕ × Step)) → s.steps ≡ done ++ after → CanAll s.transactions (first_world (setting_of s)) done → Holds (record { setting = setting_of s; done = done })

-- At every moment of a script the promise is kept: no two elements have settled one transaction differently, and none has settled one twice; before one
-- was completed every participant had prepared it, and all had opened it with the same participants; what is settled at each element is the fold of what
-- it has completed alone; a Config of a life that an element has replaced changes nothing there; what a control element counts as settled was
-- settled so at every participant; the records of each element tell what was settled there, and so does the report,
-- in which no line says otherwise of a transaction than another.
pub record KeepsPromise (s : Scripted) : Type 0 where
  pub agree : AtEachStep HasAgreed s
  pub once : AtEachStep HasSettledOnce s
  pub ready : AtEachStep WasReady s
  pub one_plan : AtEachStep HadOnePlan s
  pub folded : AtEachStep HasFolded s
  pub fenced : AtEachStep IsFenced s
  pub settled : AtEachStep HasSettled s
  pub told : AtEachStep HasTold s
  pub reported : AtEachStep HasReported s
  pub one_word : AtEachStep HasOneWord s
