use Rattle.job_words.proofs.Steps.{short-word}
use Rattle.job_words.proofs.reading.read_word.Goals as goal

pub read_by_itself-requires : goal.read_by_itself-requires
read_by_itself-requires c = rw c.word_of.ensures (short-word c.args.word.now c.requires)
