use Rattle.std.proofs.Common.{◌≡◌, ◌≤◌, drop, None}
use Rattle.job_words.specs.Words.{read_on, nothing}
use Rattle.job_words.specs.parts.Told.{texts_given}
use Rattle.job_words.proofs.reading.read_all.Given as goal

abbrev pub invariant-loop-word : goal.invariant-loop-word
invariant-loop-word l = record {
  read : read_on None l.words nothing ≡ read_on l.waiting (drop l.word-index l.words) l.given;
  few : texts_given l.given ≤ l.word-index;
}
