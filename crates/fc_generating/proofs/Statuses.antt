-- The status of a large run, and what its run keeps.
use Rattle.std.proofs.Common.{◌≡◌, ◌⊎◌, ℕ, List, Option, Result, Ok, Err, refl, inl, inr}
use Rattle.fc_base.specs.Causes.{Rose}
use Rattle.fc_endings.specs.Stops.{SinkCount}
use Rattle.fc_endings.specs.declared.stops.Stop.{Stop}
use Rattle.fc_endings.specs.declared.stops.Stop.TheVariants.{NoMemory, WriteFault}
use Rattle.fc_endings.proofs.Endings.{none_written}
use Rattle.fc_generating.specs.Runs.{GenEnds, GenRuns, gen_status, told}

gen_decides : (how : Result (Unit {0}) Stop) (k k' : ℕ) → SinkCount how k k' → (Rose k k' → ⊥) → (gen_status how ≡ 0) ⊎ (gen_status how ≡ 9)
gen_decides (Ok x) k k' sink wrote = inl refl
gen_decides (Err WriteFault) k k' sink wrote = absurd (wrote sink)
gen_decides (Err NoMemory) k k' sink wrote = inr refl

pub gen_runs : (how : Result (Unit {0}) Stop) (n status : ℕ) (old new : Option (List ℕ)) (k k' : ℕ) → status ≡ gen_status how → GenEnds n how old new → SinkCount how k k' → GenRuns n status old new (Rose k k')
gen_runs how n status old new k k' is ends sink = record { ends = (how, is, ends); complete = λ wrote. rw is (gen_decides how k k' sink wrote) }

-- no memory, and nothing was written
pub gen_none : (n : ℕ) (known : Option (List ℕ)) (k : ℕ) → GenRuns n 9 known known (Rose k k)
gen_none n known k = gen_runs (Err NoMemory) n 9 known known k k refl (none_written known (told n)) refl
