use Rattle.fc_path.proofs.GrammarProper.{proper_of}
use Rattle.fc_path.proofs.Placed.{never_memory}
use Rattle.fc_path.proofs.SelectLaws.{grammar, either}
use Rattle.fc_path.proofs.laws.reading_is_the_grammar.Goals as goal

pub returns-clause-same : goal.returns-clause-same
returns-clause-same c = grammar

pub returns-clause-either : goal.returns-clause-either
returns-clause-either c = either

pub returns-clause-placed : goal.returns-clause-placed
returns-clause-placed c = never_memory

pub returns-clause-proper : goal.returns-clause-proper
returns-clause-proper c = proper_of
