use Rattle.job_words.proofs.Places.{stem-at, stem-whole}
use Rattle.job_words.proofs.reading.stem.Goals as goal

pub returns-in-Some : goal.returns-in-Some
returns-in-Some c = stem-at c.args.name.now c.in-Some.place c.in-Some.ensures

pub returns-in-None : goal.returns-in-None
returns-in-None c = stem-whole c.args.name.now c.in-None.ensures
