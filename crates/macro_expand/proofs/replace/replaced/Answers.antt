use Rattle.std.proofs.Common.{None, map, refl}
use Rattle.std.proofs.lemmas.Result.{err_from_is_err_and}
use Rattle.macro_expand.specs.Sets.{names_in}
use Rattle.macro_expand.specs.Replacement.{pieces_of}
use Rattle.macro_expand.specs.parts.Pieces.{arguments_seen}
use Rattle.macro_expand.specs.Seen.{marked_of}
use Rattle.macro_expand.specs.parts.Parts.{parts_told}
use Rattle.macro_expand.proofs.PieceLemmas.{replacement-made, replacement-fails}
use Rattle.macro_expand.proofs.replace.replaced.Goals as goal

pub returns-in_err-made-clause-err : goal.returns-in_err-made-clause-err
returns-in_err-made-clause-err c =
    let p = err_from_is_err_and c.from_residual.result c.from_residual.ensures.1 in
    rw (p.1, p.2) (replacement-fails c.args.t.now.token (names_in c.args.hidden.now) (parts_told c.args.parts.now) (arguments_seen c.args.arguments.now)
    (pieces_of (arguments_seen c.args.arguments.now) None (parts_told c.args.parts.now)) refl _ c.in_err-made.ensures.err)

pub returns-clause-ok : goal.returns-clause-ok
returns-clause-ok c =
    replacement-made c.args.t.now.token (names_in c.args.hidden.now) (parts_told c.args.parts.now) (arguments_seen c.args.arguments.now)
    (pieces_of (arguments_seen c.args.arguments.now) None (parts_told c.args.parts.now)) refl (map marked_of c.in_ok-made.made.items)
    (map marked_of c.in_ok-out.out.items) c.in_ok-made.ensures.ok c.in_ok-out.ensures.placed
