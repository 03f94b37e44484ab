use Rattle.std.proofs.Common.{length, arith, length-drop}
use Rattle.tree_model.proofs.Spellings.{below_put}
use Rattle.tree_model.proofs.spelling.put_below.Goals as goal

pub returns : goal.returns
returns c =
    let stem = c.args.stem.now in
    let name = c.args.name.now in
    below_put stem name _ _ _ _ c.copy_from_slice.ensures.after c.copy_from_slice-2.ensures.after
    (omega (arith, length-drop (length stem) c.args.bytes.now, c.requires))
