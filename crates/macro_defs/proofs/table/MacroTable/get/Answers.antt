use Rattle.std.proofs.Common.{sym, ap, ◌∙◌}
use Rattle.macro_defs.specs.Table.{lookup}
use Rattle.macro_defs.specs.parts.NameMarks.{has_mark}
use Rattle.macro_defs.proofs.MarkLemmas.{unmarked_absent}
use Rattle.macro_defs.proofs.table.MacroTable.get.Goals as goal

pub returns-then-not-is_marked : goal.returns-then-not-is_marked
returns-then-not-is_marked c =
    ap (λ t. lookup t c.args.name.now) (sym c.self.view_is)
    ∙ unmarked_absent c.self.inside.marks.items c.self.inside.entries.entries c.args.name.now c.self.invariant
    (ap (λ marks. has_mark marks c.args.name.now) (sym c.deref.ensures.value) ∙ sym c.is_marked.ensures ∙ c.if-not-is_marked.true)
