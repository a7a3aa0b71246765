use Rattle.std.proofs.Common.{◌≡◌, drop}
use Rattle.fc_machine.specs.ElementState.{first_code}
use Rattle.fc_transactions.proofs.resting.first_code.Given as goal

abbrev pub invariant-loop-code : goal.invariant-loop-code
invariant-loop-code l = first_code (drop l.code-index l.codes) ≡ first_code l.codes
