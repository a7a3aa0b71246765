use Rattle.std.proofs.Common.{◌≡◌, drop}
use Rattle.fc_ops.specs.Filling.{ahead}
use Rattle.fc_reply.specs.Answered.{each_answered, results}
use Rattle.fc_reply.proofs.answering.answered_selects.Given as goal

abbrev pub invariant-loop-select : goal.invariant-loop-select
invariant-loop-select l = each_answered l.selects (results l.codes) ≡ ahead l.others (each_answered (drop l.select-index l.selects) l.left)
