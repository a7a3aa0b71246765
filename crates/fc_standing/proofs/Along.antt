-- What goes along with operations: a change of the whole state before them gives the same codes, and the same change of the state after them.
use Rattle.std.proofs.Common.{◌≡◌, ℕ, ◌+◌, ◌-◌, ◌==◌, not, List, [], ◌∷◌, ◌++◌, length, replicate, slice_index, take, refl, ap, ◌∙◌, Option, Some, None}
use Rattle.std.specs.List.{AllByRecursion, position}
use Rattle.fc_modes.specs.Modes.{around, codes_of, first_refused, folded, outcome, outcome_by}
use Rattle.fc_modes.specs.declared.mode.Mode.{Mode}
use Rattle.fc_modes.specs.declared.mode.Mode.TheVariants.{AllOrNone, UntilFailure, Continue}
use Rattle.fc_store.proofs.Lists.{all_take}

abbrev pub Goes : {S O : Type 0} → (S → O → S × ℕ) → (S → S) → O → Type 0
Goes {S} {O} effect change op = (s : S) → effect (change s) op ≡ (change (effect s op).0, (effect s op).1)

module _ {S O : Type 0} (effect : S → O → S × ℕ) (change : S → S) where
  pub folded_goes : (ops : List O) → AllByRecursion (Goes effect change) ops → (s : S) → folded effect (change s) ops ≡ change (folded effect s ops)
  folded_goes [] a s = refl
  folded_goes (op ∷ ops) a s = ap (λ (x : S × ℕ). folded effect x.0 ops) (a.0 s) ∙ folded_goes ops a.1 (effect s op).0

  pub codes_go : (ops : List O) → AllByRecursion (Goes effect change) ops → (s : S) → codes_of effect (change s) ops ≡ codes_of effect s ops
  codes_go [] a s = refl
  codes_go (op ∷ ops) a s = ap (λ (x : S × ℕ). x.1 ∷ codes_of effect x.0 ops) (a.0 s) ∙ ap (λ cs. (effect s op).1 ∷ cs) (codes_go ops a.1 (effect s op).0)

  first_goes : (ops : List O) → AllByRecursion (Goes effect change) ops → (s : S) → first_refused effect (change s) ops ≡ first_refused effect s ops
  first_goes ops a s = ap (position (λ code. not (code == 0))) (codes_go ops a s)

  around_goes : (before at : ℕ) (ops : List O) → AllByRecursion (Goes effect change) ops → (s : S) → around effect before at (change s) ops ≡ around effect before at s ops
  around_goes before at ops a s = ap (λ cs. replicate at before ++ slice_index cs at ∷ replicate (length ops - (at + 1)) 255) (codes_go ops a s)

  state_by : (mode : Mode) (ops : List O) → AllByRecursion (Goes effect change) ops → (s : S) (o : Option ℕ) → (outcome_by effect o mode (change s) ops).state ≡ change (outcome_by effect o mode s ops).state
  state_by mode ops a s None = folded_goes ops a s
  state_by AllOrNone ops a s (Some at) = refl
  state_by UntilFailure ops a s (Some at) = folded_goes (take at ops) (all_take (Goes effect change) at ops a) s
  state_by Continue ops a s (Some at) = folded_goes ops a s

  codes_by : (mode : Mode) (ops : List O) → AllByRecursion (Goes effect change) ops → (s : S) (o : Option ℕ) → (outcome_by effect o mode (change s) ops).codes ≡ (outcome_by effect o mode s ops).codes
  codes_by mode ops a s None = refl
  codes_by AllOrNone ops a s (Some at) = around_goes 255 at ops a s
  codes_by UntilFailure ops a s (Some at) = around_goes 0 at ops a s
  codes_by Continue ops a s (Some at) = codes_go ops a s

  pub state_goes : (mode : Mode) (ops : List O) → AllByRecursion (Goes effect change) ops → (s : S) → (outcome effect mode (change s) ops).state ≡ change (outcome effect mode s ops).state
  state_goes mode ops a s = ap (λ o. (outcome_by effect o mode (change s) ops).state) (first_goes ops a s) ∙ state_by mode ops a s (first_refused effect s ops)

  pub outcome_codes : (mode : Mode) (ops : List O) → AllByRecursion (Goes effect change) ops → (s : S) → (outcome effect mode (change s) ops).codes ≡ (outcome effect mode s ops).codes
  outcome_codes mode ops a s = ap (λ o. (outcome_by effect o mode (change s) ops).codes) (first_goes ops a s) ∙ codes_by mode ops a s (first_refused effect s ops)
