use Rattle.std.proofs.Common.{sym, ◌∙◌, true, false}
use Rattle.macro_defs.specs.parts.Stored.{names_held}
use Rattle.macro_defs.proofs.Bodies.{hashes_turn, hashes_end}
use Rattle.macro_defs.proofs.replacement.hashes_known.Goals as goal

pub returns-then-is_wrong_hash : goal.returns-then-is_wrong_hash
returns-then-is_wrong_hash c = sym (c.loop-i.invariant ∙ hashes_turn (names_held c.args.known.now) c.args.body.now c.loop-i.i c.index-body-i.result true c.loop-i-test.true c.index-body-i.is c.if-is_wrong_hash.ensures)

pub loop-i-preserved : goal.loop-i-preserved
loop-i-preserved c = c.loop-i.invariant ∙ hashes_turn (names_held c.args.known.now) c.args.body.now c.loop-i.i c.index-body-i.result false c.loop-i-test.true c.index-body-i.is c.if-is_wrong_hash.ensures

pub returns : goal.returns
returns c = sym (c.loop-i.invariant ∙ hashes_end (names_held c.args.known.now) c.args.body.now c.loop-i.i c.loop-i-test.false)
