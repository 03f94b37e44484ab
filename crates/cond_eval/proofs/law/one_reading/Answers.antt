use Rattle.cond_eval.proofs.Complete.{is_read, spells_one}
use Rattle.cond_eval.proofs.law.one_reading.Goals as goal

pub returns : goal.returns
returns c = record { read = is_read; one = spells_one }
