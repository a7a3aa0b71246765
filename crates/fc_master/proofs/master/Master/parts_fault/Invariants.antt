use Rattle.std.proofs.Common.{◌≡◌, drop}
use Rattle.fc_protocol.specs.MasterMachine.{first_refusal}
use Rattle.fc_jobs.specs.Scopes.{scope_of}
use Rattle.fc_master.specs.Masters.{core_of}
use Rattle.fc_master.proofs.master.Master.parts_fault.Given as goal

abbrev pub invariant-loop-element : goal.invariant-loop-element
invariant-loop-element l = first_refusal (core_of l.self) (drop l.element-index l.job.participants) (λ p. scope_of p l.job.scopes) ≡ first_refusal (core_of l.self) l.job.participants (λ p. scope_of p l.job.scopes)
