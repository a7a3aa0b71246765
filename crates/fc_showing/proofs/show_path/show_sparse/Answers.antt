use Rattle.fc_showing.proofs.ShowingPaths.{ilvs_go}
use Rattle.fc_showing.proofs.show_path.show_sparse.Goals as goal

pub returns-clause-shown : goal.returns-clause-shown
returns-clause-shown c =
    ilvs_go c.show_ilvs.result c.args.level c.in_ok-level.level _ c.args.into.now.items c.push_sparse_line.new.into.items c.show_ilvs.new.into.items c.in_ok-level.ensures c.in_ok-push_sparse_line.ensures.text c.show_ilvs.ensures.shown
