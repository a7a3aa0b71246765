use Rattle.std.proofs.Common.{◌≡◌, take}
use Rattle.fc_ops.specs.Asking.{questions}
use Rattle.fc_ops.proofs.questions.questions_of.Given as goal

abbrev pub invariant-loop-select : goal.invariant-loop-select
invariant-loop-select l = l.questions.items ≡ questions (take l.select-index l.selects)
