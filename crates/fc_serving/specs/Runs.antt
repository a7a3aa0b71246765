-- What a run of `element` keeps. This profile's own.
-- `source`, `sink` and `hub` stand for the count of failures of each, before and now.
use Rattle.std.specs.Prelude.{◌≡◌, ◌⊎◌, ℕ, List, Option, Result}
use Rattle.fc_base.specs.Causes.{Rose}
use Rattle.fc_hub.specs.Hubs.{Held}
use Rattle.fc_endings.specs.declared.stops.Stop.{Stop}
use Rattle.fc_serving.specs.ElementRun.{ElementEnds, element_status}
use Rattle.fc_serving.specs.declared.end.ElementEnd.{ElementEnd}

pub record ElementRuns (limit id ce turns status : ℕ) (before left : Option (List ℕ)) (done now : Option Held) (old new : Option (List ℕ)) (source sink hub : ℕ × ℕ) : Type 0 where
  -- what was read, what was done on the hub, what was written, and the status; the source and the hub failed before it exactly where their counts rose
  pub ends : (how : Result ElementEnd Stop) × (status ≡ element_status how) × ElementEnds limit id ce turns source hub how before left done now old new
  -- without a fault the input and the events decide, or it is out of memory
  pub complete : (Rose source.0 source.1 → ⊥) → (Rose sink.0 sink.1 → ⊥) → (Rose hub.0 hub.1 → ⊥) → (status ≡ 0) ⊎ ((status ≡ 10) ⊎ ((status ≡ 5) ⊎ ((status ≡ 12) ⊎ (status ≡ 9))))
