use Rattle.job_words.proofs.FirstWords.{first-words-decide}
use Rattle.job_words.proofs.laws.first_words_decide.Goals as goal

pub returns : goal.returns
returns c = first-words-decide
