use Rattle.std.proofs.Common.{map, string_bytes}
use Rattle.std.proofs.lemmas.List.{length-map, take_rest}
use Rattle.fc_words.proofs.Meanings.{control_words, no_control}
use Rattle.fc_words.proofs.control.control.Goals as goal

pub returns-then-words-lt5 : goal.returns-then-words-lt5
returns-then-words-lt5 c = no_control (map string_bytes c.args.words.now) (rw length-map c.if-words-lt5.true)

pub returns : goal.returns
returns c = control_words c.values.result c.args.words.now _ _ _ _ _ _ (take_rest c.args.words.now 5) c.in_ok-given.ensures.given c.values.ensures
