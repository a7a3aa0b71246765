use Rattle.std.proofs.Common.{◌≡◌, ℕ, ◌&&◌, take, map}
use Rattle.fc_protocol.specs.Collections.{among}
use Rattle.fc_protocol.specs.Jobs.{answer_is}
use Rattle.fc_protocol.specs.declared.answers.Answer.{Answer}
use Rattle.fc_asks.specs.Tables.{found}
use Rattle.fc_jobs.proofs.progress.settled_by.Given as goal

abbrev pub invariant-loop-entry : goal.invariant-loop-entry
invariant-loop-entry l = (q : ℕ) → among q l.settled ≡ (among q (map (λ (e : ℕ × Answer). e.0) (take l.entry-index l.answers)) && answer_is l.decision (found q l.answers))
