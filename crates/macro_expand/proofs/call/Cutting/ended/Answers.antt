use Rattle.macro_expand.proofs.CallLaws.{cut_end}
use Rattle.std.proofs.Common.{sym, subst}
use Rattle.macro_expand.specs.parts.Stamps.{Stamped, EachStamped}
use Rattle.macro_expand.proofs.StampLaws.{each-push}
use Rattle.macro_expand.proofs.call.Cutting.ended.Goals as goal

pub returns-clause-pieces : goal.returns-clause-pieces
returns-clause-pieces c =
    cut_end c.args.self.pieces.items c.push.new.self.items c.args.self.piece c.args.self.cuts c.args.self.nesting c.in_ok-push.ensures.items

pub returns-clause-stamped : goal.returns-clause-stamped
returns-clause-stamped c sets next all =
    subst (EachStamped sets next) (sym c.in_ok-push.ensures.items) (each-push (Stamped sets next) c.args.self.pieces.items c.args.self.piece all.0 all.1)
