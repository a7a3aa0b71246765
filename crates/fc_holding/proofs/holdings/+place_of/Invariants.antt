use Rattle.std.proofs.Common.{length}
use Rattle.fc_holding.proofs.holdings.+place_of.Given as goal

abbrev pub decreases-place_of : goal.decreases-place_of
decreases-place_of l = length l.holdings.now
