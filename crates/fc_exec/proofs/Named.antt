-- The outcome of operations on a store that has a name, and what it leaves at the marks.
use Rattle.std.proofs.Common.{◌≡◌, ℕ, ◌+◌, ◌-◌, ◌==◌, not, List, [], ◌∷◌, ◌++◌, length, replicate, slice_index, take, refl, ap, ◌∙◌, Option, Some, None, Result, Ok, Err, IfOk, OnOk, OnErr}
use Rattle.std.specs.List.{position}
use Rattle.fc_modes.specs.Modes.{around, codes_of, first_refused, folded, outcome, outcome_by}
use Rattle.fc_modes.specs.declared.mode.Mode.{Mode}
use Rattle.fc_modes.specs.declared.mode.Mode.TheVariants.{AllOrNone, UntilFailure, Continue}
use Rattle.fc_base.specs.declared.faults.Memory.{Memory}
use Rattle.fc_store.specs.Stores.{Stored}
use Rattle.fc_exec.specs.Operations.{applied, at_marks}
use Rattle.fc_exec.specs.Running.{Named, applied_to}
use Rattle.fc_exec.specs.declared.operations.Operation.{Operation}
use Rattle.fc_exec.proofs.Applying.{at_marks_stay}

-- ---- with a name
folded_to : (n : ℕ) (s : Stored) (ops : List Operation) → folded applied_to (n, s) ops ≡ (n, folded applied s ops)
folded_to n s [] = refl
folded_to n s (op ∷ ops) = folded_to n (applied s op).0 ops

codes_to : (n : ℕ) (s : Stored) (ops : List Operation) → codes_of applied_to (n, s) ops ≡ codes_of applied s ops
codes_to n s [] = refl
codes_to n s (op ∷ ops) = ap (λ cs. (applied s op).1 ∷ cs) (codes_to n (applied s op).0 ops)

first_to : (n : ℕ) (s : Stored) (ops : List Operation) → first_refused applied_to (n, s) ops ≡ first_refused applied s ops
first_to n s ops = ap (position (λ code. not (code == 0))) (codes_to n s ops)

around_to : (n before at : ℕ) (s : Stored) (ops : List Operation) → around applied_to before at (n, s) ops ≡ around applied before at s ops
around_to n before at s ops = ap (λ cs. replicate at before ++ slice_index cs at ∷ replicate (length ops - (at + 1)) 255) (codes_to n s ops)

state_by : (n : ℕ) (mode : Mode) (s : Stored) (ops : List Operation) (o : Option ℕ) → (outcome_by applied_to o mode (n, s) ops).state ≡ (n, (outcome_by applied o mode s ops).state)
state_by n mode s ops None = folded_to n s ops
state_by n AllOrNone s ops (Some at) = refl
state_by n UntilFailure s ops (Some at) = folded_to n s (take at ops)
state_by n Continue s ops (Some at) = folded_to n s ops

codes_by : (n : ℕ) (mode : Mode) (s : Stored) (ops : List Operation) (o : Option ℕ) → (outcome_by applied_to o mode (n, s) ops).codes ≡ (outcome_by applied o mode s ops).codes
codes_by n mode s ops None = refl
codes_by n AllOrNone s ops (Some at) = around_to n 255 at s ops
codes_by n UntilFailure s ops (Some at) = around_to n 0 at s ops
codes_by n Continue s ops (Some at) = codes_to n s ops

pub named_state : (n : ℕ) (mode : Mode) (s : Stored) (ops : List Operation) → (outcome applied_to mode (n, s) ops).state ≡ (n, (outcome applied mode s ops).state)
named_state n mode s ops = ap (λ o. (outcome_by applied_to o mode (n, s) ops).state) (first_to n s ops) ∙ state_by n mode s ops (first_refused applied s ops)

pub named_codes : (n : ℕ) (mode : Mode) (s : Stored) (ops : List Operation) → (outcome applied_to mode (n, s) ops).codes ≡ (outcome applied mode s ops).codes
named_codes n mode s ops = ap (λ o. (outcome_by applied_to o mode (n, s) ops).codes) (first_to n s ops) ∙ codes_by n mode s ops (first_refused applied s ops)

-- ---- what a run answers
pub reference_kept : (result : Result (List ℕ) Memory) (n : ℕ) (mode : Mode) (s : Stored) (ops : List Operation) (now : Named) → OnOk result (now ≡ (outcome applied_to mode (n, s) ops).state)
    → OnErr result (◌≡◌ {A = Named} now (n, s)) → now.0 ≡ n
reference_kept (Ok codes) n mode s ops now ok err = ap (λ (x : Named). x.0) (ok ∙ named_state n mode s ops)
reference_kept (Err memory) n mode s ops now ok err = ap (λ (x : Named). x.0) err

pub codes_kept : (result : Result (List ℕ) Memory) (n : ℕ) (mode : Mode) (s : Stored) (ops : List Operation) → IfOk result (λ codes. codes ≡ (outcome applied_to mode (n, s) ops).codes)
    → IfOk result (λ codes. codes ≡ (outcome applied mode s ops).codes)
codes_kept (Ok codes) n mode s ops e = e ∙ named_codes n mode s ops
codes_kept (Err memory) n mode s ops e = tt

pub state_kept : (result : Result (List ℕ) Memory) (n : ℕ) (mode : Mode) (s : Stored) (ops : List Operation) (now : Named) → OnOk result (now ≡ (outcome applied_to mode (n, s) ops).state)
    → OnOk result (now.1 ≡ (outcome applied mode s ops).state)
state_kept (Ok codes) n mode s ops now e = ap (λ (x : Named). x.1) (e ∙ named_state n mode s ops)
state_kept (Err memory) n mode s ops now e = tt

pub err_kept : (result : Result (List ℕ) Memory) (n : ℕ) (s : Stored) (now : Named) → OnErr result (◌≡◌ {A = Named} now (n, s)) → OnErr result (now.1 ≡ s)
err_kept (Ok codes) n s now e = tt
err_kept (Err memory) n s now e = ap (λ (x : Named). x.1) e

-- ---- what stands at the marks
pub folded_stay : (s : Stored) (ops : List Operation) → at_marks (folded applied s ops) ≡ at_marks s
folded_stay s [] = refl
folded_stay s (op ∷ ops) = folded_stay (applied s op).0 ops ∙ at_marks_stay s op

stay_by : (mode : Mode) (s : Stored) (ops : List Operation) (o : Option ℕ) → at_marks (outcome_by applied o mode s ops).state ≡ at_marks s
stay_by mode s ops None = folded_stay s ops
stay_by AllOrNone s ops (Some at) = refl
stay_by UntilFailure s ops (Some at) = folded_stay s (take at ops)
stay_by Continue s ops (Some at) = folded_stay s ops

-- no mode changes what was held at the marks
pub outcome_stays : (mode : Mode) (s : Stored) (ops : List Operation) → at_marks (outcome applied mode s ops).state ≡ at_marks s
outcome_stays mode s ops = stay_by mode s ops (first_refused applied s ops)

pub marks_kept : (result : Result (List ℕ) Memory) (mode : Mode) (s new : Stored) (ops : List Operation) → OnOk result (new ≡ (outcome applied mode s ops).state) → OnErr result (new ≡ s) → at_marks new ≡ at_marks s
marks_kept (Ok codes) mode s new ops ok err = ap at_marks ok ∙ outcome_stays mode s ops
marks_kept (Err memory) mode s new ops ok err = ap at_marks err
