-- What fails goes on failing.
use Rattle.std.proofs.Common.{◌≡◌, ℕ, ap, Result, Err}
use Rattle.fc_base.specs.Answers.{◌>>=◌}
use Rattle.fc_base.specs.declared.faults.OpFault.{OpFault}
use Rattle.fc_base.specs.declared.faults.OpFault.TheVariants as faults
use Rattle.fc_value.specs.Outcomes.{Fails}

pub failed_on : {A B : Type 0} (fault : OpFault) (r : Result A ℕ) (next : A → Result B ℕ) → Fails fault r → Fails fault (r >>= next)
failed_on (faults.Refused code) r next h = ap (λ q. q >>= next) h
failed_on faults.Memory r next h = tt

pub failed_as : {A B : Type 0} (fault : OpFault) (r : Result A ℕ) (q : Result B ℕ) → ((code : ℕ) → r ≡ Err code → q ≡ Err code) → Fails fault r → Fails fault q
failed_as (faults.Refused code) r q f h = f code h
failed_as faults.Memory r q f h = tt
