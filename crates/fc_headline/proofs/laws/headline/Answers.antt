use Rattle.std.proofs.Common.{take}
use Rattle.fc_headline.proofs.Lives.{world_lives}
use Rattle.fc_headline.proofs.Worlds.{headline}
use Rattle.fc_headline.proofs.laws.headline.Goals as goal

pub returns-clause-whole : goal.returns-clause-whole
returns-clause-whole c s opening subs n steps = headline c.G.Grounds.basis c.G.Grounds.lawful c.G.Grounds.masters opening c.G.Grounds.Good c.G.Grounds.fit subs n steps

pub returns-clause-lives : goal.returns-clause-lives
returns-clause-lives c s = world_lives c.G.Grounds.basis c.G.Grounds.masters

pub returns-clause-moments : goal.returns-clause-moments
returns-clause-moments c s opening subs n steps k = headline c.G.Grounds.basis c.G.Grounds.lawful c.G.Grounds.masters opening c.G.Grounds.Good c.G.Grounds.fit subs n (take k steps)
