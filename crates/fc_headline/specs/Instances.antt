-- Grounds whose configurations are kept by instances. This profile's own.
use Rattle.std.specs.Prelude.{◌≡◌, ◌≢◌, ℕ, List}
use Rattle.fc_machine.specs.Ground.{Ground}
use Rattle.fc_machine.specs.Instances.{Held, by_instance}

-- what an instance refuses leaves what it holds
abbrev pub KeepsRefused : {X Op : Type 0} → (X → Op → X × ℕ) → Type 0
KeepsRefused {X} {Op} local = (v : X) (op : Op) → (local v op).1 ≢ 0 → (local v op).0 ≡ v

-- each operation changes what the instance that it lies at holds, and no other; what is refused there leaves it, and what lies at none is refused
pub record ByInstances {X Op Subs : Type 0} (g : Ground (List (Held X)) Op Subs) : Type 0 where
  pub local : X → Op → X × ℕ  -- what it does to what its instance holds, with its code
  pub nowhere : ℕ  -- the code of what lies at none
  pub no_instance : ℕ  -- the code at an instance that is not there
  pub effect : (c : List (Held X)) (op : Op) → g.effect c op ≡ by_instance g.place_of local nowhere no_instance c op
  pub refused : KeepsRefused local
  pub placeless : nowhere ≢ 0
