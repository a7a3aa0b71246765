use Rattle.std.proofs.Common.{◌≡◌, ◌++◌, drop}
use Rattle.fc_reply.specs.Answered.{results}
use Rattle.fc_reply.proofs.answering.results.Given as goal

abbrev pub invariant-loop-code : goal.invariant-loop-code
invariant-loop-code l = results l.codes ≡ l.contents ++ results (drop l.code-index l.codes)
