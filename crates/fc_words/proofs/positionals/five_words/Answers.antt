use Rattle.clap.specs.Words.{found_of}
use Rattle.fc_words.proofs.Straight.{names, there, read_back}
use Rattle.fc_words.proofs.positionals.five_words.Goals as goal

pub value-requires : goal.value-requires
value-requires c = there _ _ (names (found_of c.in-Ok.matches) c.args.words.now c.requires.five c.requires.plain c.in-Ok.ensures.rows).first

pub value-requires-in-Ok : goal.value-requires-in-Ok
value-requires-in-Ok c = there _ _ (names (found_of c.in-Ok.matches) c.args.words.now c.requires.five c.requires.plain c.in-Ok.ensures.rows).second

pub value-requires-in-Ok-2 : goal.value-requires-in-Ok-2
value-requires-in-Ok-2 c = there _ _ (names (found_of c.in-Ok.matches) c.args.words.now c.requires.five c.requires.plain c.in-Ok.ensures.rows).third

pub value-requires-in-Ok-3 : goal.value-requires-in-Ok-3
value-requires-in-Ok-3 c = there _ _ (names (found_of c.in-Ok.matches) c.args.words.now c.requires.five c.requires.plain c.in-Ok.ensures.rows).fourth

pub value-requires-in-Ok-4 : goal.value-requires-in-Ok-4
value-requires-in-Ok-4 c = there _ _ (names (found_of c.in-Ok.matches) c.args.words.now c.requires.five c.requires.plain c.in-Ok.ensures.rows).fifth

pub returns-in-Ok-clause-given : goal.returns-in-Ok-clause-given
returns-in-Ok-clause-given c =
    read_back (found_of c.in-Ok.matches) _ (names (found_of c.in-Ok.matches) c.args.words.now c.requires.five c.requires.plain c.in-Ok.ensures.rows) _ _ _ _ _ c.value.ensures c.value-in-Ok.ensures
    c.value-in-Ok-2.ensures c.value-in-Ok-3.ensures c.value-in-Ok-4.ensures
