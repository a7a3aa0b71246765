use Rattle.fc_rows.proofs.columns.+reserve_first.Given as goal

abbrev pub decreases-reserve_first : goal.decreases-reserve_first
decreases-reserve_first l = l.places
