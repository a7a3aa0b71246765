use Rattle.std.proofs.Common.{◌≡◌, ◌++◌, ◌∷◌, is_some, rules}
use Rattle.fc_keys.specs.Trees.{pairs_of}
use Rattle.fc_keys.proofs.Spread.{moved}
use Rattle.fc_keys.proofs.table.+move_in.Goals as goal

pub returns-in-Branch-clause-pairs : goal.returns-in-Branch-clause-pairs
returns-in-Branch-clause-pairs t c =
    let whole : pairs_of c.args.tree ≡ pairs_of c.replace-left.result ++ (c.replace-key.result, c.deref.result.now.subscript) ∷ pairs_of c.replace-right.result = search rules in
    moved (pairs_of c.args.tree) (pairs_of c.replace-left.result) (pairs_of c.replace-right.result) c.args.table.now.0 c.move_in.new.table.0 c.enter.new.self.0 c.move_in-in-Branch.new.table.0
    c.replace-key.result c.deref.result.now.subscript (is_some c.enter.result) whole c.move_in.ensures.pairs c.enter.ensures.back c.enter.ensures.pairs c.move_in-in-Branch.ensures.pairs
