use Rattle.std.proofs.Common.{None, map}
use Rattle.std.specs.Option.{option_map, option_copied}
use Rattle.macro_expand.specs.Replacement.{pieces_of}
use Rattle.macro_expand.specs.parts.Pieces.{arguments_seen}
use Rattle.macro_expand.specs.Seen.{part_seen, parts_seen, piece_of}
use Rattle.macro_expand.proofs.PieceLemmas.{pieces-turn, pieces-done}
use Rattle.macro_expand.proofs.pieces.read_pieces.Goals as goal

pub loop-k-preserved : goal.loop-k-preserved
loop-k-preserved c =
    pieces-turn (arguments_seen c.args.arguments.now) c.args.parts.now c.split_at.result.1.now c.loop-k.k c.index-parts-k.result
    (option_map part_seen (option_copied c.loop-k.before)) (map piece_of c.loop-k.out.items) (map piece_of c.put_part.new.out.items)
    (pieces_of (arguments_seen c.args.arguments.now) None (parts_seen c.args.parts.now)) c.loop-k-test.true c.index-parts-k.is c.split_at.ensures.back
    c.in_ok-put_part.ensures c.loop-k.invariant

pub returns : goal.returns
returns c =
    pieces-done (arguments_seen c.args.arguments.now) c.args.parts.now c.loop-k.k (option_map part_seen (option_copied c.loop-k.before))
    (map piece_of c.loop-k.out.items) (pieces_of (arguments_seen c.args.arguments.now) None (parts_seen c.args.parts.now)) c.loop-k-test.false
    c.loop-k.invariant
