use Rattle.fc_rows.proofs.columns.+no_pairs.Given as goal

abbrev pub decreases-no_pairs : goal.decreases-no_pairs
decreases-no_pairs l = l.count
