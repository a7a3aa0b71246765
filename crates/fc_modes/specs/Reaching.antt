-- What is so once operations were applied, before what was done is kept or undone.
use Rattle.std.specs.Prelude.{◌≡◌, ℕ, ◌<◌, Bool, true, false, List, length, take, slice_index, Option, Some, None}
use Rattle.fc_modes.specs.declared.mode.Mode.{Mode}
use Rattle.fc_modes.specs.declared.failure.Failure.{Failure}
use Rattle.fc_modes.specs.Modes.{folded, codes_of, first_refused, outcome}

-- the operations were applied up to this one, which is the first that is refused
pub record Refused {S O : Type 0} (effect : S → O → S × ℕ) (s : S) (ops : List O) (failure : Failure) (now : S) : Type 0 where
  pub place : first_refused effect s ops ≡ Some failure.at
  pub within : failure.at < length ops
  pub code : slice_index (codes_of effect s ops) failure.at ≡ failure.code
  pub state : now ≡ folded effect s (take failure.at ops)

-- all operations were applied, and none is refused
pub record Done {S O : Type 0} (effect : S → O → S × ℕ) (s : S) (ops : List O) (now : S) : Type 0 where
  pub place : first_refused effect s ops ≡ None
  pub state : now ≡ folded effect s ops

abbrev pub Reached : {S O : Type 0} → (S → O → S × ℕ) → S → List O → Option Failure → S → Type 0
Reached effect s ops None now = Done effect s ops now
Reached effect s ops (Some failure) now = Refused effect s ops failure now

-- what was done is the outcome, where it stays; else the outcome is the state before
abbrev pub LeavesState : {S O : Type 0} → (S → O → S × ℕ) → Mode → S → List O → Bool → S → Type 0
LeavesState effect mode s ops true now = now ≡ (outcome effect mode s ops).state
LeavesState effect mode s ops false now = (outcome effect mode s ops).state ≡ s
