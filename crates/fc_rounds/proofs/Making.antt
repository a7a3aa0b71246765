-- Each step of a round can be made: the control element runs, and the message of each delivery is there.
use Rattle.std.proofs.Common.{◌≡◌, ◌≤◌, ℕ, zero, suc, ◌+◌, ◌==◌, ◌&&◌, ◌||◌, not, nat_lt, Bool, true, false, List, length, None, refl, ap, ◌∙◌, arith}
use Rattle.fc_documents.specs.declared.transaction.PlanTxn.{PlanTxn}
use Rattle.fc_steps.specs.declared.step.Step.TheVariants as step
use Rattle.fc_world.specs.Played.{AreMade}
use Rattle.fc_world.specs.Worlds.{WorldState}
use Rattle.fc_world.specs.WorldSteps.{delivers, fault_if, happens, run}
use Rattle.fc_world.specs.declared.faults.WorldFault.{WorldFault}
use Rattle.fc_world.specs.declared.faults.WorldFault.TheVariants as fault
use Rattle.fc_rounds.proofs.Forward.{none_numbered}
use Rattle.fc_rounds.specs.CleanRound.{deliveries}

-- ---- a begin
pub begin_made : (controller named running : Bool) → controller ≡ true → named ≡ true → running ≡ true
    → fault_if (not (controller && named)) fault.NoSuchName (fault_if (not running) fault.NotRunning None) ≡ None
begin_made false named running c n r = absurd cc
begin_made true false running c n r = absurd cc
begin_made true true false c n r = absurd cc
begin_made true true true c n r = refl

-- ---- deliveries
both_false : (a b : Bool) (f : WorldFault) → a ≡ false → b ≡ false → fault_if (a || b) f None ≡ None
both_false true b f e g = absurd cc
both_false false true f e g = absurd cc
both_false false false f e g = refl

above_zero : (i : ℕ) → 1 ≤ i → (i == 0) ≡ false
above_zero i some = grind (arith, some)

below_one : (m i : ℕ) → nat_lt m i ≡ true → m + 1 ≤ i
below_one m i e = grind (arith, e)

module _ (ts : List PlanTxn) (places : ℕ → ℕ) where
  -- where no message is left nothing changes
  still : (n i : ℕ) (w : WorldState) → length w.sent + 1 ≤ i → run ts w (deliveries places i n) ≡ w
  still zero i w low = refl
  still (suc n) i w low =
      let same : happens ts w (places i, step.Deliver i) ≡ w = ap (λ o. delivers (places i) o w) (none_numbered w.sent i low) in
      ap (λ u. run ts u (deliveries places (i + 1) n)) same ∙ still n (i + 1) w (omega (arith, low))

  -- so as many as are sent in the end can be delivered
  pub deliveries_made : (n i : ℕ) (w : WorldState) → 1 ≤ i → length (run ts w (deliveries places i n)).sent + 1 ≡ i + n → AreMade ts w (deliveries places i n)
  deliveries_made zero i w some long = tt
  deliveries_made (suc n) i w some long = (
    both_false (i == 0) (nat_lt (length w.sent) i) fault.NoSuchMessage (above_zero i some) (by (nat_lt (length w.sent) i) refl),
    tt,
    deliveries_made n (i + 1) (happens ts w (places i, step.Deliver i)) (omega (arith, some)) (omega (arith, long)),
  )
    where
      by : (b : Bool) → nat_lt (length w.sent) i ≡ b → b ≡ false
      by false e = refl
      by true e =
          let low : length w.sent + 1 ≤ i = below_one (length w.sent) i e in
          let same : length (run ts w (deliveries places i (suc n))).sent ≡ length w.sent = ap (λ (u : WorldState). length u.sent) (still (suc n) i w low) in
          absurd (omega (arith, low, same, long))
