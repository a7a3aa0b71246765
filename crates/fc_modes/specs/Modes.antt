-- What a list of operations gives in each execution mode: RFC 5810, section 4.3.1.1. The code of the operations that are
-- not done for the sake of another is this profile's own.
use Rattle.std.specs.Prelude.{ℕ, ◌+◌, ◌-◌, ◌==◌, not, List, [], ◌∷◌, ◌++◌, length, take, map, replicate, slice_index, Option, Some, None}
use Rattle.std.specs.List.{fold, position, items_where_true}
use Rattle.fc_modes.specs.declared.mode.Mode.{Mode}
use Rattle.fc_modes.specs.declared.mode.Mode.TheVariants.{AllOrNone, UntilFailure, Continue}

-- the state afterwards, the code of each operation, and the operations that were done and stay done
pub record Outcome (S O : Type 0) : Type 0 where
  pub state : S
  pub codes : List ℕ
  pub done : List O

-- of operations and their codes, those that are done: 00 is success
abbrev pub accepted : {O : Type 0} → List ℕ → List O → List O
accepted codes ops = items_where_true (map (λ code. code == 0) codes) ops

module _ {S O : Type 0} (effect : S → O → S × ℕ) where
  -- the state after the operations, each applied to the state that the one before it gave
  abbrev pub folded : S → List O → S
  folded s ops = fold (λ state op. (effect state op).0) s ops

  -- the codes that they give there
  abbrev pub codes_of : S → List O → List ℕ
  codes_of s [] = []
  codes_of s (op ∷ ops) = (effect s op).1 ∷ codes_of (effect s op).0 ops

  -- the place of the first one that is refused
  abbrev pub first_refused : S → List O → Option ℕ
  first_refused s ops = position (λ code. not (code == 0)) (codes_of s ops)

  -- one code before a place, its own code at the place, and FF after it
  abbrev pub around : ℕ → ℕ → S → List O → List ℕ
  around before at s ops = replicate at before ++ slice_index (codes_of s ops) at ∷ replicate (length ops - (at + 1)) 255

  -- no operation is refused, or the first that is refused stands at a place
  abbrev pub outcome_by : Option ℕ → Mode → S → List O → Outcome S O
  outcome_by None mode s ops = record { state = folded s ops; codes = replicate (length ops) 0; done = ops }
  outcome_by (Some at) AllOrNone s ops = record { state = s; codes = around 255 at s ops; done = [] }
  outcome_by (Some at) UntilFailure s ops = record { state = folded s (take at ops); codes = around 0 at s ops; done = take at ops }
  outcome_by (Some at) Continue s ops = record { state = folded s ops; codes = codes_of s ops; done = accepted (codes_of s ops) ops }

  abbrev pub outcome : Mode → S → List O → Outcome S O
  outcome mode s ops = outcome_by (first_refused s ops) mode s ops
