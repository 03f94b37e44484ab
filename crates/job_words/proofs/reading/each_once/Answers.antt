use Rattle.std.proofs.Common.{refl, ◌∙◌}
use Rattle.job_words.specs.Words.{each_once_behind}
use Rattle.job_words.proofs.EachOnce.{each_once-more}
use Rattle.job_words.proofs.reading.each_once.Goals as goal

pub loop-text-init : goal.loop-text-init
unfolding each_once_behind
loop-text-init c = record { texts = c.new-list.ensures; seen = λ text. rw (c.new-seen.ensures.empty, c.new-list.ensures) refl }

pub loop-text-preserved : goal.loop-text-preserved
loop-text-preserved c = record {
  texts =
      each_once-more c.args.texts.now c.loop-text.text-index c.as_slice.result.now c.text-item.result c.loop-text.list c.add_once.new.list
      c.loop-text-test.true (c.as_slice.ensures ∙ c.text-item.is) c.loop-text.invariant.texts c.in_ok-add_once.ensures.added;
  seen = c.in_ok-add_once.ensures.seen;
}
