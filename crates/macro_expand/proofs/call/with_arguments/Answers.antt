use Rattle.std.proofs.Common.{Vec, Global, Option, subst}
use Rattle.std.specs.Prelude.{IfSome}
use Rattle.macro_expand.specs.declared.marked.Marked.{Marked as Kept}
use Rattle.macro_expand.specs.parts.Stamps.{EachStamped}
use Rattle.macro_expand.proofs.call.with_arguments.Goals as goal

pub returns-in-Some-clause-stamped : goal.returns-in-Some-clause-stamped
returns-in-Some-clause-stamped c sets next each =
    subst (λ (o : Option (Vec (Vec Kept Global) Global)). IfSome o (λ args. EachStamped sets next args.items)) c.in-Some.is (c.in_ok-written.ensures.stamped sets next each)
