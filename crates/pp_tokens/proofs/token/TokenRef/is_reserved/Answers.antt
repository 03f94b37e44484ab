use Rattle.std.proofs.Common.{sym, ap, ◌∙◌, Bool, List, ℕ, ◌&&◌}
use Rattle.std.specs.Prelude.{nat_eq, codes}
use Rattle.std.specs.List.{starts_with}
use Rattle.pp_tokens.proofs.token.TokenRef.is_reserved.Goals as goal

-- a test of a text, where the kind is that of identifiers or not
abbrev test : List ℕ → Bool → Bool
test text b = b && starts_with nat_eq text (codes "__")

pub returns-then-names : goal.returns-then-names
returns-then-names c = c.starts_with.ensures.value ∙ ap (test c.args.self.now.text.now) (sym c.if-names.true ∙ c.names.ensures)

pub returns-else-names : goal.returns-else-names
returns-else-names c = c.if-names.false ∙ ap (test c.args.self.now.text.now) (sym c.if-names.false ∙ c.names.ensures)
