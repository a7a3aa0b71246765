use Rattle.std.proofs.Common.{arith}
use Rattle.std.proofs.lemmas.List.{drop_all}
use Rattle.fc_watch.proofs.Along.{told_along}
use Rattle.fc_watch.proofs.entries.without_rising.Goals as goal

pub returns : goal.returns
returns c =
    let l = c.loop-subscript in
    let none = drop_all l.subscript-index c.args.these.now (omega (arith, l.auto.subscript-index-end, c.loop-subscript-test.false)) in
    told_along l.hits c.args.these.now c.args.those.now l.rest.now l.subscript-index l.invariant none c.requires.these c.requires.those
