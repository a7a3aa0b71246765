-- What a transaction may change at each participant. This profile's own.
use Rattle.std.specs.Prelude.{ℕ, ◌==◌, if◌then◌else◌, List, [], ◌∷◌}
use Rattle.fc_protocol.specs.Scopes.{Scope}
use Rattle.fc_jobs.specs.declared.job.Scoped.{Scoped}

-- the scope at p; a participant that is not named may change everything
abbrev pub scope_of : ℕ → List Scoped → Scope
scope_of p [] = []
scope_of p (s ∷ ss) = if p == s.element then s.scope else scope_of p ss
