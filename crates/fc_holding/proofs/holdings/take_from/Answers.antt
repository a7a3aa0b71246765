use Rattle.std.proofs.Common.{sym, ap, ◌∙◌}
use Rattle.fc_holding.specs.Holdings.{place}
use Rattle.fc_holding.proofs.Keeping.{missed, taken}
use Rattle.fc_holding.proofs.holdings.take_from.Goals as goal

pub returns-in-Some-clause-out : goal.returns-in-Some-clause-out
returns-in-Some-clause-out c =
    (taken c.args.txn c.args.holdings.now.items c.in-Some.at c.remove.result (ap (place c.args.txn) (sym c.as_slice.ensures.value) ∙ sym c.in-Some.ensures.exact) c.remove.ensures.value).out

pub returns-in-Some-clause-left : goal.returns-in-Some-clause-left
returns-in-Some-clause-left c =
    c.remove.ensures.items ∙ (taken c.args.txn c.args.holdings.now.items c.in-Some.at c.remove.result (ap (place c.args.txn) (sym c.as_slice.ensures.value) ∙ sym c.in-Some.ensures.exact) c.remove.ensures.value).left

pub returns-in-None-clause-out : goal.returns-in-None-clause-out
returns-in-None-clause-out c = (missed c.args.txn c.args.holdings.now.items (ap (place c.args.txn) (sym c.as_slice.ensures.value) ∙ sym c.in-None.ensures.exact)).0

pub returns-in-None-clause-left : goal.returns-in-None-clause-left
returns-in-None-clause-left c = (missed c.args.txn c.args.holdings.now.items (ap (place c.args.txn) (sym c.as_slice.ensures.value) ∙ sym c.in-None.ensures.exact)).1
