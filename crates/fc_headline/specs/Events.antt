-- What is registered for events at an element, over any ground: whatever the ground keeps of it holds in every state. This profile's own.
use Rattle.std.specs.Prelude.{◌≡◌, ℕ, Bool, true, List, []}
use Rattle.fc_modes.specs.Modes.{folded}
use Rattle.fc_modes.specs.declared.mode.Mode.{Mode}
use Rattle.fc_headline.specs.Restarts.{with_restarts}
use Rattle.fc_machine.specs.ElementMachine.{Input}
use Rattle.fc_machine.specs.ElementState.{new_element}
use Rattle.fc_machine.specs.Ground.{Ground}

-- the ground keeps this of a configuration and what is registered: where it holds, it holds again after any operations with the evaluation behind them, after properties are set with the evaluation behind that, and after the association of the element's controller has ended
pub record Preserves {Config Op Subs : Type 0} (g : Ground Config Op Subs) (P : Config → Subs → Type 0) : Type 0 where
  pub changed : (c : Config) (subs : Subs) (ops : List Op) → P c subs → P (folded g.effect c ops) (g.reports (folded g.effect c ops) subs).0
  pub set : (c : Config) (subs : Subs) (mode : Mode) (ops : List Op) → P c subs → P c (g.reports c (g.set_props c subs mode ops).0).0
  pub ceased : (c : Config) (subs : Subs) → P c subs → P c (g.ceases subs).0

-- an evaluation changes nothing and gives no notice
abbrev pub Quiet : {Config Op Subs : Type 0} → Ground Config Op Subs → Config → Subs → Type 0
Quiet g c subs = g.reports c subs ≡ (subs, [])

-- what is registered passes every test with the settled configuration that it passed at the opening and that the ground keeps
abbrev pub EventsPass : {Config Op Subs : Type 0} → Ground Config Op Subs → Type 0
EventsPass {Config} {Op} {Subs} g =
    (test : Config → Subs → Bool) → Preserves g (λ c subs. test c subs ≡ true)
    → (p : ℕ) (opening : Config) (subs : Subs) (ce : ℕ) (runs : List (List (Input Op))) → test opening subs ≡ true → let r = with_restarts g p runs (new_element opening subs ce) [] in test r.element.settled r.element.subs ≡ true

-- no event is left to tell, where none is at the opening and the ground leaves none
abbrev pub EventsQuiet : {Config Op Subs : Type 0} → Ground Config Op Subs → Type 0
EventsQuiet {Config} {Op} {Subs} g =
    Preserves g (Quiet g) → (p : ℕ) (opening : Config) (subs : Subs) (ce : ℕ) (runs : List (List (Input Op))) → Quiet g opening subs → let r = with_restarts g p runs (new_element opening subs ce) [] in Quiet g r.element.settled r.element.subs
