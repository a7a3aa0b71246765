use Rattle.std.proofs.Common.{◌≡◌, drop}
use Rattle.fc_asks.specs.Codes.{first_bad}
use Rattle.fc_asks.proofs.codes.first_bad_code.Given as goal

abbrev pub invariant-loop-code : goal.invariant-loop-code
invariant-loop-code l = first_bad (drop l.code-index l.codes) ≡ first_bad l.codes
