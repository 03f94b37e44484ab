use Rattle.std.proofs.Common.{◌+◌, length, sym, ◌∙◌, ap}
use Rattle.std.specs.List.{flat_map}
use Rattle.std.proofs.lemmas.List.{take_all}
use Rattle.tree_model.specs.Entries.{Entries}
use Rattle.job_frames.specs.Spelling.{entry_bytes}
use Rattle.closure_fixpoint.proofs.LengthLaws.{image-length}
use Rattle.closure_fixpoint.proofs.lengths.entries_length.Goals as goal

pub returns-clause-value : goal.returns-clause-value
returns-clause-value c =
    c.loop-entry.invariant.sum ∙ ap (λ (es : Entries). 12 + length (flat_map entry_bytes es)) (take_all c.loop-entry.entry-index c.args.entries.now c.loop-entry-test.false)
    ∙ sym (image-length c.args.entries.now)
