use Rattle.std.proofs.Common.{None, ◌∙◌, ap, inr, [], ◌+◌, drop, arith}
use Rattle.std.proofs.lemmas.Result.{err_from_is_err_and}
use Rattle.job_words.specs.Words.{read_on, nothing}
use Rattle.job_words.specs.parts.Told.{at_any}
use Rattle.job_words.proofs.Steps.{at-place, at-end, error-at}
use Rattle.job_words.proofs.reading.read_all.Goals as goal

pub returns-in_err-waiting-clause-why : goal.returns-in_err-waiting-clause-why
returns-in_err-waiting-clause-why c =
    let p = err_from_is_err_and c.from_residual.result c.from_residual.ensures.1 in
    rw (p.1, p.2)
    (error-at
    (read_on None c.args.words.now nothing)
    (λ next. at_any next c.loop-word.waiting c.as_slice.result.now c.loop-word.given)
    (λ behind more. read_on behind (drop (c.loop-word.word-index + 1) c.args.words.now) more)
    c.in_err-waiting.field-0.0
    (c.loop-word.invariant.read ∙ at-place c.args.words.now c.loop-word.word-index c.as_slice.result.now c.word-item.result c.loop-word.waiting c.loop-word.given c.loop-word-test.true (c.as_slice.ensures ∙ c.word-item.is))
    c.in_err-waiting.ensures)

pub loop-word-preserved : goal.loop-word-preserved
loop-word-preserved c = record {
  read =
      c.loop-word.invariant.read
      ∙ at-place c.args.words.now c.loop-word.word-index c.as_slice.result.now c.word-item.result c.loop-word.waiting c.loop-word.given c.loop-word-test.true (c.as_slice.ensures ∙ c.word-item.is)
      ∙ c.in_ok-waiting.ensures.0 (λ behind more. read_on behind (drop (c.loop-word.word-index + 1) c.args.words.now) more);
  few = omega (arith, c.in_ok-waiting.ensures.1);
}

pub returns-in-None-clause-given : goal.returns-in-None-clause-given
unfolding read_on
returns-in-None-clause-given c =
    c.loop-word.invariant.read
    ∙ at-end c.args.words.now c.loop-word.word-index c.loop-word.waiting c.loop-word.given c.loop-word-test.false
    ∙ ap (λ waiting. read_on waiting [] c.loop-word.given) c.in-None.is

pub returns-in-Some-clause-why : goal.returns-in-Some-clause-why
unfolding read_on
returns-in-Some-clause-why c =
    inr (
    c.loop-word.invariant.read
    ∙ at-end c.args.words.now c.loop-word.word-index c.loop-word.waiting c.loop-word.given c.loop-word-test.false
    ∙ ap (λ waiting. read_on waiting [] c.loop-word.given) c.in-Some.is
    )
