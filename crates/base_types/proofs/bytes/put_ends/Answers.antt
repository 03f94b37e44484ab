-- The first bytes and the last ones are all of the slice.
use Rattle.std.proofs.Common.{◌∙◌, length, arith, ◌-◌}
use Rattle.std.proofs.lemmas.Slice.{between_to_end}
use Rattle.base_types.proofs.Ends.{both_ends}
use Rattle.base_types.proofs.bytes.put_ends.Goals as goal

pub returns : goal.returns
returns c =
    let xs = c.args.slice.now in
    both_ends c.args.size _ xs _ _ _ c.requires.ends c.requires.all c.copy_from_slice.ensures.after
    (c.copy_from_slice-2.ensures.after ∙ between_to_end xs (length xs - c.args.size) (length xs) (omega arith))
