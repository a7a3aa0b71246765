-- Which calls of a carrier in memory fail: those whose numbers, counted from 1, are listed. This profile's own.
use Rattle.std.specs.Prelude.{◌≡◌, ℕ, ◌+◌, ◌-◌, ◌^◌, ◌↔◌, min, List, Contains, Result, IsErrOf}
use Rattle.fc_base.specs.declared.faults.Trouble.{Trouble}
use Rattle.fc_base.specs.declared.faults.Trouble.TheVariants.{Failed}

-- the number of the next call; the counter stands still at its end
abbrev pub next_call : ℕ → ℕ
next_call calls = min (calls + 1) (2 ^ 64 - 1)

-- a call fails exactly where its number is listed
pub record FailsByList {T : Type 0} (failing : List ℕ) (before now : ℕ) (result : Result T Trouble) : Type 0 where
  pub counted : now ≡ next_call before
  pub listed : IsErrOf result Failed ↔ Contains failing (next_call before)
