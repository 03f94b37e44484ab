use Rattle.std.proofs.Common.{None, ap, sym, ◌∙◌}
use Rattle.macro_defs.specs.Table.{names_ever_defined}
use Rattle.macro_defs.proofs.TableLemmas.{written_sets, written_names, absent_sets, sets_along}
use Rattle.macro_defs.proofs.MarkLemmas.{marked_along}
use Rattle.macro_defs.proofs.table.MacroTable.undef.Goals as goal
use Rattle.macro_defs.proofs.table.MacroTable.undef.Goals.{in-Some, in_default}

pub returns-clause-sets : goal.returns-clause-sets
returns-clause-sets c =
    elim c.match-get_mut.branch [
      | in-Some w ↦ sets_along c.self.inside.entries.entries _ c.args.self.now c.match-get_mut.self-inside.entries.entries c.args.name.now None c.self.view_is
          (ap (λ s. s.entries.entries) w.self-inside-is ∙ ap (λ d. (c.get_mut.follows.lender d).entries) w.clear.ensures ∙ (c.get_mut.follows.holds None).0) (written_sets c.self.inside.entries.entries c.args.name.now)
      | in_default w ↦ sets_along c.self.inside.entries.entries _ c.args.self.now c.match-get_mut.self-inside.entries.entries c.args.name.now None c.self.view_is
          (ap (λ s. s.entries.entries) w.self-inside-is ∙ ap (λ m. m.entries) c.get_mut.follows.holds-at-none)
          (absent_sets c.self.inside.entries.entries c.args.name.now (sym w.in_default.ensures.value))
    ]

pub returns-clause-names : goal.returns-clause-names
returns-clause-names c =
    elim c.match-get_mut.branch [
      | in-Some w ↦ ap names_ever_defined (ap (λ s. s.entries.entries) w.self-inside-is ∙ ap (λ d. (c.get_mut.follows.lender d).entries) w.clear.ensures ∙ (c.get_mut.follows.holds None).0)
          ∙ written_names c.self.inside.entries.entries c.args.name.now ∙ ap names_ever_defined c.self.view_is
      | in_default w ↦ ap names_ever_defined (ap (λ s. s.entries.entries) w.self-inside-is ∙ ap (λ m. m.entries) c.get_mut.follows.holds-at-none) ∙ ap names_ever_defined c.self.view_is
    ]

pub invariant_of-self : goal.invariant_of-self
invariant_of-self c =
    elim c.match-get_mut.branch [
      | in-Some w ↦ marked_along c.self.inside.marks.items c.match-get_mut.self-inside.marks.items (names_ever_defined c.self.inside.entries.entries) (names_ever_defined c.match-get_mut.self-inside.entries.entries)
          (ap (λ s. s.marks.items) w.self-inside-is)
          (ap names_ever_defined (ap (λ s. s.entries.entries) w.self-inside-is ∙ ap (λ d. (c.get_mut.follows.lender d).entries) w.clear.ensures ∙ (c.get_mut.follows.holds None).0) ∙ written_names c.self.inside.entries.entries c.args.name.now) c.self.invariant
      | in_default w ↦ marked_along c.self.inside.marks.items c.match-get_mut.self-inside.marks.items (names_ever_defined c.self.inside.entries.entries) (names_ever_defined c.match-get_mut.self-inside.entries.entries)
          (ap (λ s. s.marks.items) w.self-inside-is)
          (ap names_ever_defined (ap (λ s. s.entries.entries) w.self-inside-is ∙ ap (λ m. m.entries) c.get_mut.follows.holds-at-none)) c.self.invariant
    ]
