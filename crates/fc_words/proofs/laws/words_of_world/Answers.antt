use Rattle.fc_words.proofs.Meanings as meanings
use Rattle.fc_words.proofs.laws.words_of_world.Goals as goal

pub returns : goal.returns
returns c = meanings.words_of_world
