use Rattle.std.proofs.Common.{◌++◌, ◌∷◌, [], ◌∙◌, ap, rules}
use Rattle.fc_generated.specs.Transactions.{row_path}
use Rattle.fc_generated.proofs.Ranges.{no_more, one_more}
use Rattle.fc_generated.proofs.transactions.paths.Goals as goal

pub loop-row-preserved : goal.loop-row-preserved
loop-row-preserved c =
    one_more (row_path c.args.element) c.loop-row.row c.args.behind c.loop-row.paths c.push.new.self _
    (c.in_ok-push.ensures.ok ∙ ap (λ p. c.loop-row.paths ++ p ∷ []) c.in_ok-row_path.ensures) c.loop-row.invariant (search rules)

pub returns : goal.returns
returns c = no_more (row_path c.args.element) c.loop-row.row c.args.behind c.loop-row.paths _ c.loop-row.invariant (search rules)
