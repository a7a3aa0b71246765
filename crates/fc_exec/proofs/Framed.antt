-- The outcome of operations within a scope, on a store that has a name, and what it leaves at the marks.
use Rattle.std.proofs.Common.{◌≡◌, ℕ, ◌+◌, ◌-◌, ◌==◌, not, Bool, true, false, List, [], ◌∷◌, ◌++◌, length, replicate, slice_index, take, refl, ap, ◌∙◌, Option, Some, None, Result, Ok, Err, IfOk, OnOk, OnErr}
use Rattle.std.specs.List.{position}
use Rattle.fc_base.specs.declared.faults.Memory.{Memory}
use Rattle.fc_modes.specs.Modes.{around, codes_of, first_refused, folded, outcome, outcome_by}
use Rattle.fc_modes.specs.declared.mode.Mode.{Mode}
use Rattle.fc_modes.specs.declared.mode.Mode.TheVariants.{AllOrNone, UntilFailure, Continue}
use Rattle.fc_store.specs.Stores.{Stored}
use Rattle.fc_exec.specs.Bounding.{Bounded, Frame, within_by, within_to}
use Rattle.fc_exec.specs.Operations.{applied, at_marks, is_inside, place_of, within}
use Rattle.fc_exec.specs.declared.operations.Operation.{Operation}
use Rattle.fc_exec.proofs.Applying.{at_marks_stay}

-- ---- with a scope and a name
folded_to : (f : Frame) (s : Stored) (ops : List Operation) → folded within_to (f, s) ops ≡ (f, folded (within f.0) s ops)
folded_to f s [] = refl
folded_to f s (op ∷ ops) = folded_to f (within f.0 s op).0 ops

codes_to : (f : Frame) (s : Stored) (ops : List Operation) → codes_of within_to (f, s) ops ≡ codes_of (within f.0) s ops
codes_to f s [] = refl
codes_to f s (op ∷ ops) = ap (λ cs. (within f.0 s op).1 ∷ cs) (codes_to f (within f.0 s op).0 ops)

first_to : (f : Frame) (s : Stored) (ops : List Operation) → first_refused within_to (f, s) ops ≡ first_refused (within f.0) s ops
first_to f s ops = ap (position (λ code. not (code == 0))) (codes_to f s ops)

around_to : (f : Frame) (before at : ℕ) (s : Stored) (ops : List Operation) → around within_to before at (f, s) ops ≡ around (within f.0) before at s ops
around_to f before at s ops = ap (λ cs. replicate at before ++ slice_index cs at ∷ replicate (length ops - (at + 1)) 255) (codes_to f s ops)

state_by : (f : Frame) (mode : Mode) (s : Stored) (ops : List Operation) (o : Option ℕ) → (outcome_by within_to o mode (f, s) ops).state ≡ (f, (outcome_by (within f.0) o mode s ops).state)
state_by f mode s ops None = folded_to f s ops
state_by f AllOrNone s ops (Some at) = refl
state_by f UntilFailure s ops (Some at) = folded_to f s (take at ops)
state_by f Continue s ops (Some at) = folded_to f s ops

codes_by : (f : Frame) (mode : Mode) (s : Stored) (ops : List Operation) (o : Option ℕ) → (outcome_by within_to o mode (f, s) ops).codes ≡ (outcome_by (within f.0) o mode s ops).codes
codes_by f mode s ops None = refl
codes_by f AllOrNone s ops (Some at) = around_to f 255 at s ops
codes_by f UntilFailure s ops (Some at) = around_to f 0 at s ops
codes_by f Continue s ops (Some at) = codes_to f s ops

pub framed_state : (f : Frame) (mode : Mode) (s : Stored) (ops : List Operation) → (outcome within_to mode (f, s) ops).state ≡ (f, (outcome (within f.0) mode s ops).state)
framed_state f mode s ops = ap (λ o. (outcome_by within_to o mode (f, s) ops).state) (first_to f s ops) ∙ state_by f mode s ops (first_refused (within f.0) s ops)

pub framed_codes : (f : Frame) (mode : Mode) (s : Stored) (ops : List Operation) → (outcome within_to mode (f, s) ops).codes ≡ (outcome (within f.0) mode s ops).codes
framed_codes f mode s ops = ap (λ o. (outcome_by within_to o mode (f, s) ops).codes) (first_to f s ops) ∙ codes_by f mode s ops (first_refused (within f.0) s ops)

-- ---- what a run answers
pub running_kept : (result : Result (List ℕ) Memory) (f : Frame) (mode : Mode) (s : Stored) (ops : List Operation) (now : Bounded) → OnOk result (now ≡ (outcome within_to mode (f, s) ops).state)
    → OnErr result (◌≡◌ {A = Bounded} now (f, s)) → now.0.1.0 ≡ f.1.0
running_kept (Ok codes) f mode s ops now ok err = ap (λ (x : Bounded). x.0.1.0) (ok ∙ framed_state f mode s ops)
running_kept (Err memory) f mode s ops now ok err = ap (λ (x : Bounded). x.0.1.0) err

pub reference_kept : (result : Result (List ℕ) Memory) (f : Frame) (mode : Mode) (s : Stored) (ops : List Operation) (now : Bounded) → OnOk result (now ≡ (outcome within_to mode (f, s) ops).state)
    → OnErr result (◌≡◌ {A = Bounded} now (f, s)) → now.0.1.1 ≡ f.1.1
reference_kept (Ok codes) f mode s ops now ok err = ap (λ (x : Bounded). x.0.1.1) (ok ∙ framed_state f mode s ops)
reference_kept (Err memory) f mode s ops now ok err = ap (λ (x : Bounded). x.0.1.1) err

pub codes_kept : (result : Result (List ℕ) Memory) (f : Frame) (mode : Mode) (s : Stored) (ops : List Operation) → IfOk result (λ codes. codes ≡ (outcome within_to mode (f, s) ops).codes)
    → IfOk result (λ codes. codes ≡ (outcome (within f.0) mode s ops).codes)
codes_kept (Ok codes) f mode s ops e = e ∙ framed_codes f mode s ops
codes_kept (Err memory) f mode s ops e = tt

pub state_kept : (result : Result (List ℕ) Memory) (f : Frame) (mode : Mode) (s : Stored) (ops : List Operation) (now : Bounded) → OnOk result (now ≡ (outcome within_to mode (f, s) ops).state)
    → OnOk result (now.1 ≡ (outcome (within f.0) mode s ops).state)
state_kept (Ok codes) f mode s ops now e = ap (λ (x : Bounded). x.1) (e ∙ framed_state f mode s ops)
state_kept (Err memory) f mode s ops now e = tt

pub err_kept : (result : Result (List ℕ) Memory) (f : Frame) (s : Stored) (now : Bounded) → OnErr result (◌≡◌ {A = Bounded} now (f, s)) → OnErr result (now.1 ≡ s)
err_kept (Ok codes) f s now e = tt
err_kept (Err memory) f s now e = ap (λ (x : Bounded). x.1) e

-- ---- what stands at the marks
stays_if : (inside : Bool) (s : Stored) (op : Operation) → at_marks (within_by inside s (applied s op)).0 ≡ at_marks s
stays_if true s op = at_marks_stay s op
stays_if false s op = refl

folded_stay : (scope : List (ℕ × ℕ)) (s : Stored) (ops : List Operation) → at_marks (folded (within scope) s ops) ≡ at_marks s
folded_stay scope s [] = refl
folded_stay scope s (op ∷ ops) = folded_stay scope (within scope s op).0 ops ∙ stays_if (is_inside scope (place_of op)) s op

stay_by : (scope : List (ℕ × ℕ)) (mode : Mode) (s : Stored) (ops : List Operation) (o : Option ℕ) → at_marks (outcome_by (within scope) o mode s ops).state ≡ at_marks s
stay_by scope mode s ops None = folded_stay scope s ops
stay_by scope AllOrNone s ops (Some at) = refl
stay_by scope UntilFailure s ops (Some at) = folded_stay scope s (take at ops)
stay_by scope Continue s ops (Some at) = folded_stay scope s ops

pub within_stays : (scope : List (ℕ × ℕ)) (mode : Mode) (s : Stored) (ops : List Operation) → at_marks (outcome (within scope) mode s ops).state ≡ at_marks s
within_stays scope mode s ops = stay_by scope mode s ops (first_refused (within scope) s ops)

pub marks_kept : (result : Result (List ℕ) Memory) (scope : List (ℕ × ℕ)) (mode : Mode) (s new : Stored) (ops : List Operation) → OnOk result (new ≡ (outcome (within scope) mode s ops).state)
    → OnErr result (new ≡ s) → at_marks new ≡ at_marks s
marks_kept (Ok codes) scope mode s new ops ok err = ap at_marks ok ∙ within_stays scope mode s ops
marks_kept (Err memory) scope mode s new ops ok err = ap at_marks err
