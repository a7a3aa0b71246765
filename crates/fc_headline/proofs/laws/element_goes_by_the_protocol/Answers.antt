use Rattle.fc_headline.proofs.Arriving.{arrives}
use Rattle.fc_headline.proofs.Viewed.{told_whole}
use Rattle.fc_headline.proofs.laws.element_goes_by_the_protocol.Goals as goal

pub returns-clause-goes : goal.returns-clause-goes
returns-clause-goes c s p k source el m = arrives c.G.Grounds.basis p k source el m

pub returns-clause-shown : goal.returns-clause-shown
returns-clause-shown c s el m all = told_whole c.G.Grounds.basis el m all
