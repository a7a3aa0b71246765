use Rattle.fc_headline.proofs.Alone.{element_keeps}
use Rattle.fc_headline.proofs.Folded.{element_folds}
use Rattle.fc_headline.proofs.Registered.{events_pass, events_quiet}
use Rattle.fc_headline.proofs.Sound.{rests_pass}
use Rattle.fc_headline.proofs.laws.element_folds.Goals as goal

pub returns-clause-folds : goal.returns-clause-folds
returns-clause-folds c s p opening subs ce runs = element_folds c.G.Grounds.basis c.G.Grounds.lawful p opening subs ce runs

pub returns-clause-keeps : goal.returns-clause-keeps
returns-clause-keeps c s p opening subs ce runs = element_keeps c.G.Grounds.basis c.G.Grounds.lawful p opening subs ce runs

pub returns-clause-rests : goal.returns-clause-rests
returns-clause-rests c s = rests_pass c.G.Grounds.basis

pub returns-clause-events : goal.returns-clause-events
returns-clause-events c s = events_pass c.G.Grounds.basis c.G.Grounds.lawful

pub returns-clause-quiet : goal.returns-clause-quiet
returns-clause-quiet c s = events_quiet c.G.Grounds.basis c.G.Grounds.lawful
