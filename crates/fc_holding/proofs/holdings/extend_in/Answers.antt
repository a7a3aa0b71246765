use Rattle.std.proofs.Common.{sym, ap, ◌∙◌}
use Rattle.fc_holding.specs.Holdings.{place}
use Rattle.fc_holding.proofs.Keeping.{no_rest, on_is, rest_at}
use Rattle.fc_holding.proofs.holdings.extend_in.Goals as goal

pub returns-in-Some-clause-ok : goal.returns-in-Some-clause-ok
returns-in-Some-clause-ok c =
    on_is c.extend_at.result c.extend_at.new.holdings.items _ _ c.extend_at.ensures.ok
    (rest_at c.args.txn c.args.rest c.args.holdings.now.items c.in-Some.place (ap (place c.args.txn) (sym c.as_slice.ensures.value) ∙ sym c.in-Some.ensures.exact))

pub returns-in-None-clause-ok : goal.returns-in-None-clause-ok
returns-in-None-clause-ok c = no_rest c.args.txn c.args.rest c.args.holdings.now.items (ap (place c.args.txn) (sym c.as_slice.ensures.value) ∙ sym c.in-None.ensures.exact)
