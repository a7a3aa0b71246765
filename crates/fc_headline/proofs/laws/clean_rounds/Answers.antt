use Rattle.fc_headline.proofs.CleanRounds.{clean_round}
use Rattle.fc_headline.proofs.laws.clean_rounds.Goals as goal

pub returns : goal.returns
returns c s opening subs n steps =
    clean_round c.G.Grounds.basis c.G.Grounds.lawful c.G.Grounds.masters opening c.G.Grounds.Good c.G.Grounds.fit c.G.Grounds.Drives c.G.Grounds.spell subs n steps
