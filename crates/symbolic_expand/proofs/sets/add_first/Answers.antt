use Rattle.std.proofs.Common.{ap, sym, ◌∙◌, ◌≡◌, subst, None, ◌++◌, ◌∷◌, []}
use Rattle.std.specs.Map as map
use Rattle.symbolic_expand.specs.parts.Stored.{seen, with_more}
use Rattle.symbolic_expand.proofs.DefinedLaws.{seen_first, is_key}
use Rattle.symbolic_expand.proofs.sets.add_first.Goals as goal

pub returns-in-Ok-insert-clause-ok : goal.returns-in-Ok-insert-clause-ok
returns-in-Ok-insert-clause-ok c =
    ap seen c.in-Ok-insert.ensures.entries
    ∙ seen_first c.args.names.now.entries c.in_ok-key.key c.push.new.self c.args.definition
    (subst (λ n. map.lookup (is_key n) c.args.names.now.entries ≡ None) (sym c.in_ok-key.ensures) c.requires)
    (c.in-Ok.ensures.items ∙ ap (λ is. is ++ c.args.definition ∷ []) c.new-definitions.ensures.items)
    ∙ ap (λ n. with_more (seen c.args.names.now.entries) n c.args.definition) c.in_ok-key.ensures
