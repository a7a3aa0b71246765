use Rattle.std.proofs.Common.{map, Some, subst, arith}
use Rattle.std.proofs.lemmas.List.{take_all}
use Rattle.fc_path.specs.Canon.{joined}
use Rattle.fc_path.specs.Results.{Held}
use Rattle.fc_path.proofs.Sizes.{select_part, held_over, held_fails, held_more, fit_not, fit_yes}
use Rattle.fc_path.proofs.results.fits_results.Goals as goal

pub returns-then-sum-size-gt-MESSAGE : goal.returns-then-sum-size-gt-MESSAGE
returns-then-sum-size-gt-MESSAGE c = record {
  exact = fit_not c.args.selects.now (held_over select_part 262117 c.args.selects.now c.loop-select.select-index c.select-item.result c.loop-select.sum c.in-Some.size (omega arith) c.select-item.is c.loop-select.invariant c.in-Some.ensures.size (omega arith));
}

pub returns-in-None : goal.returns-in-None
returns-in-None c = record {
  exact = fit_not c.args.selects.now (held_fails select_part 262117 c.args.selects.now c.loop-select.select-index c.select-item.result (omega arith) c.select-item.is c.in-None.ensures.size);
}

pub loop-select-preserved : goal.loop-select-preserved
loop-select-preserved c =
    held_more select_part 262117 c.args.selects.now c.loop-select.select-index c.select-item.result c.loop-select.sum c.in-Some.size (omega arith) c.select-item.is c.loop-select.invariant c.in-Some.ensures.size (omega arith)

pub returns : goal.returns
returns c = record {
  exact = fit_yes c.args.selects.now c.loop-select.sum (subst (λ l. Held 262117 (Some c.loop-select.sum) (joined (map select_part l))) (take_all c.loop-select.select-index c.args.selects.now (omega arith)) c.loop-select.invariant);
}
