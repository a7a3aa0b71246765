use Rattle.std.proofs.Common.{sym, ◌∙◌, arith}
use Rattle.fc_master.proofs.Rested.{one_rests}
use Rattle.fc_master.proofs.resting.rest_of.Goals as goal

pub loop-at-preserved : goal.loop-at-preserved
loop-at-preserved c =
    one_rests c.args.epoch c.loop-at.passed c.bound_with-passed.result c.loop-at.at c.args.jobs.now c.index-jobs-at.result (omega arith) c.index-jobs-at.is c.bound_with-passed.ensures.more c.loop-at.invariant
    (sym c.is_done.ensures ∙ c.if-not-is_done.false) c.bound_with-passed.ensures.own
