use Rattle.std.proofs.Common.{ap}
use Rattle.fc_path.specs.BodyHeads.{leaf_held}
use Rattle.fc_path.specs.Reading.{sparse_in}
use Rattle.fc_showing.proofs.ShowingPaths.{full_shown, nothing_shown, outcome_shown, sparse_goes}
use Rattle.fc_showing.proofs.show_path.show_leaf.Goals as goal

pub returns-in-Nothing-clause-shown : goal.returns-in-Nothing-clause-shown
returns-in-Nothing-clause-shown c = nothing_shown (leaf_held c.args.leaf) c.args.level c.args.into.now.items (ap leaf_held c.in-Nothing.is)

pub returns-in_ok-push_whole-in-Full-clause-shown : goal.returns-in_ok-push_whole-in-Full-clause-shown
returns-in_ok-push_whole-in-Full-clause-shown c =
    full_shown (leaf_held c.args.leaf) c.args.level c.args.into.now.items c.in-Full.value.now c.push_whole.new.into.items (ap leaf_held c.in-Full.is) c.in_ok-push_whole-in-Full.ensures.text

pub returns-in-Sparse-clause-shown : goal.returns-in-Sparse-clause-shown
returns-in-Sparse-clause-shown c =
    sparse_goes (leaf_held c.args.leaf) c.args.level c.args.into.now.items c.show_sparse.result (sparse_in c.in-Sparse.ilvs.items c.in-Sparse.ilvs.fault) c.show_sparse.new.into.items (ap leaf_held c.in-Sparse.is) c.show_sparse.ensures.shown

pub returns-in_ok-push_code-in-Outcome-clause-shown : goal.returns-in_ok-push_code-in-Outcome-clause-shown
returns-in_ok-push_code-in-Outcome-clause-shown c =
    outcome_shown (leaf_held c.args.leaf) c.args.level c.args.into.now.items c.in-Outcome.code c.push_code.new.into.items (ap leaf_held c.in-Outcome.is) c.in_ok-push_code-in-Outcome.ensures.text
