-- What the outcome of a list of operations is, and what holds of each.
use Rattle.std.proofs.Common.{◌≡◌, ◌≢◌, ℕ, zero, suc, ◌+◌, ◌-◌, ◌<◌, ◌≤◌, true, false, eqb, List, [], ◌∷◌, ◌++◌, length, take, map, get_or, replicate, refl, ap, ◌∙◌, arith, Some, None, Option, length-append}
use Rattle.std.specs.List.{items_where_true}
use Rattle.std.proofs.lemmas.Bool.{ne_eqb, eqb-false}
use Rattle.std.proofs.lemmas.List.{length-replicate}
use Rattle.std.proofs.lemmas.List.Quantifiers.{position-Some}
use Rattle.fc_modes.specs.declared.mode.Mode.{Mode}
use Rattle.fc_modes.specs.declared.mode.Mode.TheVariants.{AllOrNone, UntilFailure, Continue}
use Rattle.fc_modes.specs.Modes.{folded, codes_of, first_refused, accepted, around, outcome, outcome_by}
use Rattle.fc_modes.proofs.Positions.{is_refused, zeros, bad}
use Rattle.fc_modes.proofs.Folds.{codes_long}

module _ {S O : Type 0} (effect : S → O → S × ℕ) where
  all_zero : (s : S) (ops : List O) → first_refused effect s ops ≡ None → codes_of effect s ops ≡ replicate (length ops) 0
  all_zero s ops none = zeros (codes_of effect s ops) none ∙ ap (λ (n : ℕ). replicate n 0) (codes_long effect s ops)

  own_by : (s : S) (ops : List O) (o : Option ℕ) → first_refused effect s ops ≡ o → codes_of effect s ops ≡ (outcome_by effect o Continue s ops).codes
  own_by s ops None e = all_zero s ops e
  own_by s ops (Some at) e = refl

  pub each_own : (s : S) (ops : List O) → codes_of effect s ops ≡ (outcome effect Continue s ops).codes
  each_own s ops = own_by s ops (first_refused effect s ops) refl

  -- what was refused changed nothing, so the others alone give the state
  folded_accepted : ((t : S) (x : O) → (effect t x).1 ≢ 0 → (effect t x).0 ≡ t) → (s : S) (ops : List O) → folded effect s ops ≡ folded effect s (accepted (codes_of effect s ops) ops)
  folded_accepted kept s [] = refl
  folded_accepted kept s (op ∷ ops) =
      let rest : folded effect (effect s op).0 ops ≡ folded effect (effect s op).0 (accepted (codes_of effect (effect s op).0 ops) ops) = folded_accepted kept (effect s op).0 ops in
      elim (eqb (effect s op).1 0) as (λ b. eqb (effect s op).1 0 ≡ b → folded effect (effect s op).0 ops ≡ folded effect s (items_where_true (b ∷ map (λ code. eqb code 0) (codes_of effect (effect s op).0 ops)) (op ∷ ops))) [
        | true ↦ λ e. rest
        | false ↦ λ e. rest ∙ ap (λ (t : S). folded effect t (accepted (codes_of effect (effect s op).0 ops) ops)) (kept s op (eqb-false (effect s op).1 0 e))
      ] refl

  kept_by : ((t : S) (x : O) → (effect t x).1 ≢ 0 → (effect t x).0 ≡ t) → (mode : Mode) (s : S) (ops : List O) (o : Option ℕ) → (outcome_by effect o mode s ops).state ≡ folded effect s (outcome_by effect o mode s ops).done
  kept_by kept mode s ops None = refl
  kept_by kept AllOrNone s ops (Some at) = refl
  kept_by kept UntilFailure s ops (Some at) = refl
  kept_by kept Continue s ops (Some at) = folded_accepted kept s ops

  pub kept_is_done : ((t : S) (x : O) → (effect t x).1 ≢ 0 → (effect t x).0 ≡ t) → (mode : Mode) (s : S) (ops : List O) → (outcome effect mode s ops).state ≡ folded effect s (outcome effect mode s ops).done
  kept_is_done kept mode s ops = kept_by kept mode s ops (first_refused effect s ops)

  -- among codes, those that are 00 pick the operations that are done
  picks_all : (ops : List O) → ops ≡ accepted (replicate (length ops) 0) ops
  picks_all [] = refl
  picks_all (op ∷ ops) = ap (λ (xs : List O). op ∷ xs) (picks_all ops)

  picks_none : (n : ℕ) (ops : List O) → [] ≡ accepted (replicate n 255) ops
  picks_none zero ops = refl
  picks_none (suc n) [] = refl
  picks_none (suc n) (op ∷ ops) = picks_none n ops

  picks_around_none : (n code m : ℕ) (ops : List O) → (code ≡ 0 → ⊥) → [] ≡ accepted (replicate n 255 ++ code ∷ replicate m 255) ops
  picks_around_none zero code m [] bad = refl
  picks_around_none zero code m (op ∷ ops) bad = rw (ne_eqb code 0 bad) (picks_none m ops)
  picks_around_none (suc n) code m [] bad = refl
  picks_around_none (suc n) code m (op ∷ ops) bad = picks_around_none n code m ops bad

  picks_before : (n code m : ℕ) (ops : List O) → (code ≡ 0 → ⊥) → n ≤ length ops → take n ops ≡ accepted (replicate n 0 ++ code ∷ replicate m 255) ops
  picks_before zero code m [] bad le = refl
  picks_before zero code m (op ∷ ops) bad le = rw (ne_eqb code 0 bad) (picks_none m ops)
  picks_before (suc n) code m [] bad le = absurd (omega arith)
  picks_before (suc n) code m (op ∷ ops) bad le = ap (λ (xs : List O). op ∷ xs) (picks_before n code m ops bad (omega arith))

  done_by : (mode : Mode) (s : S) (ops : List O) (o : Option ℕ) → first_refused effect s ops ≡ o → (outcome_by effect o mode s ops).done ≡ accepted (outcome_by effect o mode s ops).codes ops
  done_by mode s ops None e = picks_all ops
  done_by Continue s ops (Some at) e = refl
  done_by AllOrNone s ops (Some at) e =
      let found : (at < length (codes_of effect s ops)) × (is_refused (get_or (codes_of effect s ops) at 0) ≡ true) × ((k : ℕ) → k < at → is_refused (get_or (codes_of effect s ops) k 0) ≡ false) = position-Some is_refused (codes_of effect s ops) at 0 e in
      picks_around_none at (get_or (codes_of effect s ops) at 0) (length ops - (at + 1)) ops (bad (get_or (codes_of effect s ops) at 0) found.1)
  done_by UntilFailure s ops (Some at) e =
      let found : (at < length (codes_of effect s ops)) × (is_refused (get_or (codes_of effect s ops) at 0) ≡ true) × ((k : ℕ) → k < at → is_refused (get_or (codes_of effect s ops) k 0) ≡ false) = position-Some is_refused (codes_of effect s ops) at 0 e in
      picks_before at (get_or (codes_of effect s ops) at 0) (length ops - (at + 1)) ops (bad (get_or (codes_of effect s ops) at 0) found.1) (omega (arith, codes_long effect s ops))

  pub done_is_accepted : (mode : Mode) (s : S) (ops : List O) → (outcome effect mode s ops).done ≡ accepted (outcome effect mode s ops).codes ops
  done_is_accepted mode s ops = done_by mode s ops (first_refused effect s ops) refl

  around_long : (before at : ℕ) (s : S) (ops : List O) → at < length ops → length (around effect before at s ops) ≡ length ops
  around_long before at s ops lt = grind (arith, length-append, length-replicate)

  within : (s : S) (ops : List O) (at : ℕ) → first_refused effect s ops ≡ Some at → at < length ops
  within s ops at e = let found = position-Some is_refused (codes_of effect s ops) at 0 e in omega (arith, codes_long effect s ops, found.0)

  count_by : (mode : Mode) (s : S) (ops : List O) (o : Option ℕ) → first_refused effect s ops ≡ o → length (outcome_by effect o mode s ops).codes ≡ length ops
  count_by mode s ops None e = length-replicate (length ops) 0
  count_by Continue s ops (Some at) e = codes_long effect s ops
  count_by AllOrNone s ops (Some at) e = around_long 255 at s ops (within s ops at e)
  count_by UntilFailure s ops (Some at) e = around_long 0 at s ops (within s ops at e)

  pub one_code_each : (mode : Mode) (s : S) (ops : List O) → length (outcome effect mode s ops).codes ≡ length ops
  one_code_each mode s ops = count_by mode s ops (first_refused effect s ops) refl
