use Rattle.std.proofs.Common.{◌∙◌, sym, map, string_bytes}
use Rattle.std.proofs.lemmas.List.{length-map}
use Rattle.fc_words.proofs.Meanings.{no_element}
use Rattle.fc_words.proofs.element.element.Goals as goal

pub returns-then-words-ne5 : goal.returns-then-words-ne5
returns-then-words-ne5 c = no_element (map string_bytes c.args.words.now) (λ five. c.if-words-ne5.true (sym (length-map c.args.words.now string_bytes) ∙ five))
