-- An element over its whole life, in which it stops and resumes. This profile's own.
use Rattle.std.specs.Prelude.{◌≡◌, ℕ, List, [], ◌∷◌}
use Rattle.fc_machine.specs.ElementMachine.{Input, Step, steps}
use Rattle.fc_machine.specs.ElementState.{Element, new_element, restarted}
use Rattle.fc_machine.specs.Ground.{Ground}
use Rattle.fc_machine.specs.Trace.{Fact}

-- the element p after these runs, with the facts of all of them, the newest first: a run is what comes to the element until it stops, and begins with what it kept of the run before, without associations and moments
abbrev pub with_restarts : {Config Op Subs : Type 0} → Ground Config Op Subs → ℕ → List (List (Input Op)) → Element Config Op Subs → List (Fact Op) → Step Config Op Subs
with_restarts g p [] el fs = record { element = el; outs = []; facts = fs }
with_restarts g p (inputs ∷ runs) el fs = let r = steps g p inputs (restarted el) fs in with_restarts g p runs r.element r.facts

-- one that never stops has one run: what comes to it, and nothing else
abbrev pub OneRun : {Config Op Subs : Type 0} → Ground Config Op Subs → Type 0
OneRun {Config} {Op} {Subs} g =
    (p : ℕ) (opening : Config) (subs : Subs) (ce : ℕ) (inputs : List (Input Op)) → let r = with_restarts g p (inputs ∷ []) (new_element opening subs ce) [] in let s = steps g p inputs (new_element opening subs ce) [] in (r.element ≡ s.element) × (r.facts ≡ s.facts)

-- an element that was this at first has become that in some runs
abbrev pub Lived : {Config Op Subs : Type 0} → Ground Config Op Subs → ℕ → Element Config Op Subs → Element Config Op Subs → Type 0
Lived {Config} {Op} {Subs} g p first el = (runs : List (List (Input Op))) × ((with_restarts g p runs first []).element ≡ el)
