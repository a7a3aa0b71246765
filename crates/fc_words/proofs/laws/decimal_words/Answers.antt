use Rattle.fc_words.proofs.Decimals.{decimal_sound, decimal_complete}
use Rattle.fc_words.proofs.laws.decimal_words.Goals as goal

pub returns : goal.returns
returns c most n word small = (decimal_sound most n word, decimal_complete most n word small)
