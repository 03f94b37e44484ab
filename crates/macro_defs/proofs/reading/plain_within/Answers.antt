use Rattle.std.proofs.Common.{◌≡◌, ◌-◌, ◌∷◌, List, take, drop, map, false, refl, sym, ap, subst, ◌∙◌}
use Rattle.std.specs.Arc.{arc_value}
use Rattle.std.specs.List.{list_any}
use Rattle.pp_tokens.specs.Lines.{LexedFile, all_tokens}
use Rattle.pp_tokens.specs.declared.Token.{Token}
use Rattle.pp_tokens.specs.Marks.{is_pasting}
use Rattle.pp_tokens.specs.Tokens.{token_seen, rest_of}
use Rattle.macro_defs.specs.MacroDefinition.{without_line}
use Rattle.macro_defs.proofs.Forms.{behind_told, pasting_unlined, plain_macro}
use Rattle.macro_defs.proofs.reading.plain_within.Goals as goal

pub shared-requires : goal.shared-requires
shared-requires c =
    let all = all_tokens (arc_value c.args.file.now) in
    let line : take (c.args.end - c.args.from) (drop c.args.from all) ≡ token_seen c.in-Some-next.name ∷ rest_of c.next.new.self =
    sym (c.tokens-behind.ensures ∙ ap (λ (f : LexedFile). take (c.args.end - c.args.from) (drop c.args.from (all_tokens f))) c.deref.ensures) ∙ c.in-Some-next.ensures.steps in
    let within : take (c.in-Some.stop - c.in-Some.start) (drop c.in-Some.start all) ≡ rest_of c.next.new.self =
    behind_told all c.args.from c.args.end c.in-Some.start c.in-Some.stop (token_seen c.in-Some-next.name) (rest_of c.next.new.self) c.in-Some.ensures.0 c.in-Some.ensures.1 line in
    (refl, subst (λ (ts : List Token). list_any is_pasting (map without_line ts) ≡ false) (sym within) (pasting_unlined (rest_of c.next.new.self) (c.if-not-is_plain.ensures cc).1))

pub returns : goal.returns
returns c =
    let all = all_tokens (arc_value c.args.file.now) in
    let line : take (c.args.end - c.args.from) (drop c.args.from all) ≡ token_seen c.in-Some-next.name ∷ rest_of c.next.new.self =
    sym (c.tokens-behind.ensures ∙ ap (λ (f : LexedFile). take (c.args.end - c.args.from) (drop c.args.from (all_tokens f))) c.deref.ensures) ∙ c.in-Some-next.ensures.steps in
    let within : take (c.in-Some.stop - c.in-Some.start) (drop c.in-Some.start all) ≡ rest_of c.next.new.self =
    behind_told all c.args.from c.args.end c.in-Some.start c.in-Some.stop (token_seen c.in-Some-next.name) (rest_of c.next.new.self) c.in-Some.ensures.0 c.in-Some.ensures.1 line in
    rw c.in_ok-copy_of.ensures (
    plain_macro (take (c.args.end - c.args.from) (drop c.args.from all)) (rest_of c.next.new.self) (take (c.in-Some.stop - c.in-Some.start) (drop c.in-Some.start all))
    (token_seen c.in-Some-next.name) c.in_ok-definition.definition line (sym c.if-not-names_macro.ensures)
    (c.if-not-is_plain.ensures cc).0 (c.if-not-is_plain.ensures cc).1 within c.in_ok-definition.ensures
    )
