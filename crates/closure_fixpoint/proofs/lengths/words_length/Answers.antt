use Rattle.std.proofs.Common.{◌<◌, ◌≤◌, ◌+◌, List, ℕ, length, refl, sym, ◌∙◌, ap, subst, arith}
use Rattle.std.specs.Prelude.{codes}
use Rattle.std.specs.List.{flat_map}
use Rattle.std.proofs.lemmas.List.{take_all}
use Rattle.base_types.specs.Limits.{word_limit}
use Rattle.job_frames.specs.Spelling.{field}
use Rattle.job_frames.proofs.SpellingLemmas.{field_length}
use Rattle.closure_fixpoint.proofs.LengthLaws.{flat-next, words-length}
use Rattle.closure_fixpoint.proofs.lengths.words_length.Goals as goal

pub loop-word-preserved : goal.loop-word-preserved
loop-word-preserved c =
    let below : c.loop-word.word-index < length c.args.words.now = omega arith in
    let more = flat-next (field (codes "ARGV")) c.args.words.now c.loop-word.word-index c.word-item.result below c.word-item.is in
    let one = field_length (codes "ARGV") c.word-item.result refl in
    let short : length c.word-item.result ≤ word_limit = subst (λ (w : List ℕ). length w ≤ word_limit) (sym c.word-item.is) (c.requires.fit c.loop-word.word-index c.word-item.result below) in
    record {
      sum = omega (arith, more, one, c.loop-word.invariant.sum, c.len.ensures);
      small = omega (arith, short, c.loop-word.invariant.small, c.len.ensures);
    }

pub returns-clause-value : goal.returns-clause-value
returns-clause-value c =
    c.loop-word.invariant.sum ∙ ap (λ (ws : List (List ℕ)). 12 + length (flat_map (field (codes "ARGV")) ws)) (take_all c.loop-word.word-index c.args.words.now c.loop-word-test.false)
    ∙ sym (words-length c.args.words.now)
