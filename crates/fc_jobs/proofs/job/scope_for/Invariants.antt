use Rattle.std.proofs.Common.{◌≡◌, drop}
use Rattle.fc_jobs.specs.Scopes.{scope_of}
use Rattle.fc_jobs.proofs.job.scope_for.Given as goal

abbrev pub invariant-loop-scoped : goal.invariant-loop-scoped
invariant-loop-scoped l = scope_of l.element (drop l.scoped-index l.scopes) ≡ scope_of l.element l.scopes
