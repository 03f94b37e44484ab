use Rattle.job_words.proofs.Fronts.{without-front}
use Rattle.job_words.proofs.word.operand.Goals as goal

pub returns : goal.returns
returns c = without-front c.args.word.now c.args.option.now c.strip_prefix.result c.strip_prefix.ensures.cases
