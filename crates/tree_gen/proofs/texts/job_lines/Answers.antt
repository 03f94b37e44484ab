use Rattle.std.proofs.Common.{◌++◌, sym, ◌∙◌, ap, List, ℕ}
use Rattle.tree_gen.specs.Generated as made
use Rattle.tree_gen.proofs.Counted.{texts_more}
use Rattle.tree_gen.proofs.texts.job_lines.Goals as goal

pub loop-number-preserved : goal.loop-number-preserved
loop-number-preserved c =
    c.in_ok-add_job_line.ensures
    ∙ ap (λ (text : List ℕ). text ++ made.job_line c.loop-number.number) c.loop-number.invariant
    ∙ sym (texts_more made.job_line c.loop-number.number)
