use Rattle.std.proofs.Common.{sym, subst, ◌∙◌}
use Rattle.macro_expand.specs.Seen.{lists_of}
use Rattle.macro_expand.specs.parts.Parts.{parts_told}
use Rattle.macro_expand.specs.parts.Stamps.{EachStamped}
use Rattle.macro_expand.proofs.CallLaws.{all-given}
use Rattle.macro_expand.proofs.PieceLemmas.{keeps_none}
use Rattle.macro_expand.proofs.call.with_kept.Goals as goal

pub returns-then-not-take_written-clause-given : goal.returns-then-not-take_written-clause-given
returns-then-not-take_written-clause-given c = all-given c.args.alone.now c.args.call.written.items c.requires

pub returns-then-not-take_written-clause-kept : goal.returns-then-not-take_written-clause-kept
returns-then-not-take_written-clause-kept c =
    rw c.new-kept.ensures.items
    (keeps_none (parts_told c.args.parts.now) (lists_of c.args.call.written.items) (sym c.take_written.ensures ∙ c.if-not-take_written.true))

pub returns-clause-stamped : goal.returns-clause-stamped
returns-clause-stamped c sets next each = c.in_ok-given.ensures.stamped sets next (subst (EachStamped sets next) (sym c.as_slice.ensures.value) each)
