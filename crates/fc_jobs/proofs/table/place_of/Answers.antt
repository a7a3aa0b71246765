use Rattle.std.proofs.Common.{arith, sym, ◌∙◌}
use Rattle.fc_jobs.proofs.Placing.{set_placed}
use Rattle.fc_jobs.proofs.table.place_of.Goals as goal

pub returns-then-eq-clause-some : goal.returns-then-eq-clause-some
returns-then-eq-clause-some g c = (omega arith, λ v. set_placed c.args.element v c.args.entries.now c.loop-at.at c.index-entries-at.result (omega arith) (sym c.eq.ensures ∙ c.if-eq.true) (c.loop-at.invariant v))
