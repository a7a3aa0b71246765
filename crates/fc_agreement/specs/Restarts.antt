-- One element over its whole life, in which it stops and resumes. This profile's own.
use Rattle.std.specs.Prelude.{◌≡◌, ℕ, List, [], ◌∷◌, None}
use Rattle.fc_protocol.specs.ElementMachine.{ElementState, new_element, Heard, resumed}
use Rattle.fc_protocol.specs.OneElement.{Arrival, hears_all}
use Rattle.fc_protocol.specs.Trace.{Fact}

-- the element p after these runs, with the facts of all of them, the newest first: a run is what arrives until the element stops, and begins with what it kept of the run before
abbrev pub with_restarts : ℕ → List (List Arrival) → ElementState → List Fact → Heard
with_restarts p [] el fs = record { element = el; says = None; facts = fs }
with_restarts p (arrivals ∷ runs) el fs = let r = hears_all p arrivals (resumed el) fs in with_restarts p runs r.element r.facts

-- one that never stops has one run: what arrives, and nothing else
abbrev pub OneRun : ℕ → ℕ → List Arrival → Type 0
OneRun p ce arrivals =
    let r = with_restarts p (arrivals ∷ []) (new_element ce) [] in
    let h = hears_all p arrivals (new_element ce) [] in
    (r.element ≡ h.element) × (r.facts ≡ h.facts)
