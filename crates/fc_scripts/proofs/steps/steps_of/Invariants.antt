use Rattle.std.proofs.Common.{◌≡◌, ◌+◌, ◌++◌, length, Ok}
use Rattle.fc_base.specs.Answers.{◌>>=◌}
use Rattle.fc_scripts.specs.Steps.{steps_from}
use Rattle.fc_scripts.proofs.steps.steps_of.Given as goal

abbrev pub invariant-loop-text : goal.invariant-loop-text
invariant-loop-text l =
    ((steps_from l.place l.text-iterator.rest.items >>= λ xs. Ok (l.steps.items ++ xs)) ≡ steps_from 1 l.fn.said) × (l.place + length l.text-iterator.rest.items ≡ 1 + length l.fn.said)

abbrev pub decreases-loop-text : goal.decreases-loop-text
decreases-loop-text l = length l.text-iterator.rest.items
