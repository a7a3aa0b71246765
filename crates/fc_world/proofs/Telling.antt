-- Whether something is there, and why a step can't be made.
use Rattle.std.proofs.Common.{◌≡◌, ◌≤◌, ◌<◌, ℕ, min, nat_lt, nat_le, Bool, true, false, List, Option, Some, None, is_some, option_map, option_copied, Bor, refl, sym, ap, ◌∙◌, arith}
use Rattle.std.proofs.Math.Nat.{min-eq_left, min-eq_right}
use Rattle.fc_documents.specs.declared.transaction.PlanTxn.{PlanTxn}
use Rattle.fc_steps.specs.declared.step.Step.{Step}
use Rattle.fc_world.specs.Stages.{most}
use Rattle.fc_world.specs.Worlds.{WorldState}
use Rattle.fc_world.specs.WorldSteps.{fault_of}
use Rattle.fc_world.specs.declared.faults.WorldFault.{WorldFault}

pub is_copied : {A : Type 0} (o : Option (Bor A)) → is_some o ≡ is_some (option_copied o)
is_copied None = refl
is_copied (Some x) = refl

pub is_mapped : {A B : Type 0} (f : A → B) (o : Option A) → is_some o ≡ is_some (option_map f o)
is_mapped f None = refl
is_mapped f (Some x) = refl

-- where a count stops at the greatest number, whether it is below a number is still told
not_below : (n i : ℕ) → i ≤ n → nat_lt n i ≡ false
not_below n i h = grind arith

within : (n m : ℕ) → nat_le n m ≡ true → n ≤ m
within n m h = grind arith

beyond : (n m : ℕ) → nat_le n m ≡ false → m < n
beyond n m h = grind arith

capped_by : (n i : ℕ) (b : Bool) → nat_le n most ≡ b → i ≤ most → nat_lt (min n most) i ≡ nat_lt n i
capped_by n i true e h = ap (λ m. nat_lt m i) (min-eq_left (within n most e))
capped_by n i false e h =
    let more = beyond n most e in
    ap (λ m. nat_lt m i) (min-eq_right (omega (arith, more))) ∙ not_below most i h ∙ sym (not_below n i (omega (arith, more, h)))

pub capped : (n i c : ℕ) → c ≡ min n most → i ≤ most → nat_lt c i ≡ nat_lt n i
capped n i c e h = ap (λ m. nat_lt m i) e ∙ capped_by n i (nat_le n most) refl h

-- ---- by the step that it is
pub fault_so : (ts : List PlanTxn) (w : WorldState) (s t : Step) (o : Option WorldFault) → s ≡ t → o ≡ fault_of ts w t → o ≡ fault_of ts w s
fault_so ts w s t o is e = e ∙ ap (fault_of ts w) (sym is)
