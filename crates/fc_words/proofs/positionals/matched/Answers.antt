use Rattle.std.proofs.Common.{ap, ◌∙◌, List, map, string_bytes}
use Rattle.std.proofs.lemmas.List.{length-map}
use Rattle.std.proofs.lemmas.Result.{IfErr-weaker}
use Rattle.clap.specs.Words.{App, Text}
use Rattle.clap.specs.Takes.{takes}
use Rattle.fc_words.proofs.Straight.{words_taken}
use Rattle.fc_words.proofs.positionals.matched.Goals as goal

pub returns-clause-memory : goal.returns-clause-memory
returns-clause-memory c =
    let words : List Text = map string_bytes c.args.words.now in
    let parse = c.try_get_matches_from in
    IfErr-weaker parse.result _ _ (λ e h. h (ap (λ (a : App). takes a words) c.in_ok-command.ensures ∙ words_taken words (rw length-map c.requires.five) c.requires.plain)) parse.ensures.passes
