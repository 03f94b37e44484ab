use Rattle.std.proofs.Common.{sym, ap, ◌∙◌}
use Rattle.std.specs.Option.{option_flatten}
use Rattle.macro_defs.specs.Table.{lookup}
use Rattle.macro_defs.proofs.TableLemmas.{seen_lookup, lent}
use Rattle.macro_defs.proofs.table.MacroTable.get_hashed.Goals as goal

pub returns-in-Some : goal.returns-in-Some
returns-in-Some c =
    lent c.as_ref.result c.in-Some.definition.now (lookup c.args.self.now c.args.name.now) c.as_ref.ensures.value
    (ap (λ t. lookup t c.args.name.now) (sym c.self.view_is) ∙ seen_lookup c.self.inside.entries.entries c.args.name.now ∙ ap option_flatten (sym c.in-Some.ensures.value))

pub returns-in-None : goal.returns-in-None
returns-in-None c =
    ap (λ t. lookup t c.args.name.now) (sym c.self.view_is) ∙ seen_lookup c.self.inside.entries.entries c.args.name.now ∙ ap option_flatten (sym c.in-None.ensures.value)
