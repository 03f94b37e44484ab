use Rattle.std.proofs.Common.{◌≡◌, ◌-◌, List, take, drop, sym, ap, ◌∙◌}
use Rattle.std.specs.Arc.{arc_value}
use Rattle.pp_tokens.specs.Lines.{LexedFile, all_tokens}
use Rattle.pp_tokens.specs.declared.Token.{Token}
use Rattle.macro_defs.specs.declared.definition.Shape.TheVariants.{Function}
use Rattle.macro_defs.proofs.Places.{operators_unlined}
use Rattle.macro_defs.proofs.definition.Definition.sharing.Goals as goal

pub invariant_of-result : goal.invariant_of-result
invariant_of-result c =
    let tokens : List Token = take (c.args.end - c.args.from) (drop c.args.from (all_tokens (arc_value c.args.file.now))) in
    let same : take (c.args.end - c.args.from) (drop c.args.from (all_tokens (arc_value c.in_ok-try_clone.field-0))) ≡ tokens =
    ap (λ (f : LexedFile). take (c.args.end - c.args.from) (drop c.args.from (all_tokens f))) c.in_ok-try_clone.ensures in
    rw (c.in_ok-new.ensures.ok, same)
    (c.requires.named, (sym (operators_unlined (Function c.args.params c.args.variadic) tokens ∙ c.requires.plain.0), c.requires.plain))
