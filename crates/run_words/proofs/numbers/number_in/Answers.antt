use Rattle.std.proofs.Common.{sym, ◌∙◌}
use Rattle.run_words.proofs.WordNumbers.{no-number, number, no-number-within}
use Rattle.run_words.proofs.numbers.number_in.Goals as goal

pub returns-then-not-is_number-clause-number : goal.returns-then-not-is_number-clause-number
returns-then-not-is_number-clause-number c = no-number c.args.least c.args.most c.args.word.now (rw (← c.as_bytes.ensures.value) (sym c.is_number.ensures ∙ c.if-not-is_number.true))

pub returns-in-Ok-clause-number : goal.returns-in-Ok-clause-number
returns-in-Ok-clause-number c =
    c.within.ensures.number
    ∙ number c.args.least c.args.most c.args.word.now c.parse.result c.parse.ensures.value.0 (rw (← c.as_bytes.ensures.value) (sym c.is_number.ensures ∙ c.if-not-is_number.false)) c.in-Ok.number c.in-Ok.is

pub returns-in-Err-clause-number : goal.returns-in-Err-clause-number
returns-in-Err-clause-number c =
    no-number-within c.args.least c.args.most c.args.word.now c.parse.result c.parse.ensures.value.0 (rw (← c.as_bytes.ensures.value) (sym c.is_number.ensures ∙ c.if-not-is_number.false)) c.ranges.most.fits c.in-Err.field-0 c.in-Err.is
