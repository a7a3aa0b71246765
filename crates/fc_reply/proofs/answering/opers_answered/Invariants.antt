use Rattle.std.proofs.Common.{◌≡◌, drop}
use Rattle.fc_ops.specs.Filling.{ahead}
use Rattle.fc_reply.specs.Answered.{opers_answered}
use Rattle.fc_reply.proofs.answering.opers_answered.Given as goal

abbrev pub invariant-loop-oper : goal.invariant-loop-oper
invariant-loop-oper l = opers_answered l.oper-items l.fn.contents ≡ ahead l.others (opers_answered (drop l.oper-index l.oper-items) l.left)
