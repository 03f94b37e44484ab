use Rattle.std.proofs.Common.{◌∙◌, ap, ◌++◌, length}
use Rattle.std.specs.Prelude.{codes}
use Rattle.std.specs.List.{flat_map}
use Rattle.std.proofs.lemmas.List.{take_all}
use Rattle.job_frames.specs.Spelling.{token, entry_bytes, image_bytes}
use Rattle.tree_model.specs.Entries.{Entries}
use Rattle.job_frames.proofs.writers.push_entries.Goals as goal

pub returns : goal.returns
unfolding image_bytes
returns c =
    c.loop-e.invariant
    ∙ ap (λ (es : Entries). c.args.out.now.items ++ (token (codes "NFIL") (length c.args.entries.now) ++ flat_map entry_bytes es)) (take_all c.loop-e.e-index c.args.entries.now c.loop-e-test.false)
