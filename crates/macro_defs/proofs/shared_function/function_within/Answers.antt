use Rattle.std.proofs.Common.{◌≡◌, ◌≤◌, ◌-◌, ◌∷◌, length, take, drop, false, sym, ap, subst, ◌∙◌}
use Rattle.std.specs.Prelude.{IfSome}
use Rattle.std.specs.Arc.{arc_value}
use Rattle.std.specs.List.{list_any}
use Rattle.pp_tokens.specs.Lines.{LexedFile, all_tokens}
use Rattle.pp_tokens.specs.Tokens.{token_seen, rest_of}
use Rattle.macro_defs.specs.MacroDefinition.{is_operator}
use Rattle.macro_defs.specs.parts.Kept.{ReadsParameters}
use Rattle.macro_defs.specs.parts.Stored.{numbers_kept}
use Rattle.macro_defs.proofs.Forms.{behind_many, drop_behind, plain_function, function_macro}
use Rattle.macro_defs.proofs.shared_function.function_within.Goals as goal

-- the line: the name, and the tokens behind it
line_told : (c : goal.In_ok-named) → take (c.args.end - c.args.from) (drop c.args.from (all_tokens (arc_value c.args.file.now))) ≡ token_seen c.in-Some.name ∷ rest_of c.next.new.self
line_told c =
    sym (c.tokens-behind.ensures ∙ ap (λ (f : LexedFile). take (c.args.end - c.args.from) (drop c.args.from (all_tokens f))) c.deref.ensures) ∙ c.in-Some.ensures.steps

reads : (c : goal.In_ok-named) → ReadsParameters (rest_of c.next.new.self) (rest_of c.parameters_ahead.new.behind) c.in-Some-2.listed.params c.in-Some-2.listed.variadic (c.in-Some-2.listed.count - 1)
    × ((1 ≤ c.in-Some-2.listed.count) × (length c.in-Some-2.listed.params ≤ 8))
reads c =
    subst (λ o. IfSome o (λ l. ReadsParameters (rest_of c.next.new.self) (rest_of c.parameters_ahead.new.behind) l.params l.variadic (l.count - 1) × ((1 ≤ l.count) × (length l.params ≤ 8))))
    c.in-Some-2.is c.in_ok-listed.ensures

-- the tokens that are shared
shared : (c : goal.In_ok-named) → take (c.in-Some-numbers_behind.stop - c.in-Some-numbers_behind.start) (drop c.in-Some-numbers_behind.start (all_tokens (arc_value c.args.file.now))) ≡ rest_of c.parameters_ahead.new.behind
shared c =
    let count = c.in-Some-2.listed.count in
    behind_many (all_tokens (arc_value c.args.file.now)) c.args.from c.args.end c.in-Some-numbers_behind.start c.in-Some-numbers_behind.stop count c.in-Some-numbers_behind.ensures.0 c.in-Some-numbers_behind.ensures.1
    ∙ ap (drop count) (line_told c) ∙ drop_behind (token_seen c.in-Some.name) (rest_of c.next.new.self) count (reads c).1.0 ∙ sym (reads c).0.1

without : (c : goal.In_ok-named) → list_any is_operator (rest_of c.parameters_ahead.new.behind) ≡ false
without c = sym c.have_operator.ensures ∙ c.if-have_operator.false

pub sharing-requires-clause-plain : goal.sharing-requires-clause-plain
sharing-requires-clause-plain c =
    plain_function c.in-Some-2.listed.params c.in-Some-2.listed.variadic (rest_of c.parameters_ahead.new.behind)
    (take (c.in-Some-numbers_behind.stop - c.in-Some-numbers_behind.start) (drop c.in-Some-numbers_behind.start (all_tokens (arc_value c.args.file.now)))) (without c) (shared c)

pub sharing-requires-clause-named : goal.sharing-requires-clause-named
sharing-requires-clause-named c =
    c.in_ok-named.ensures ∙ ap (λ ps. numbers_kept ps (rest_of c.parameters_ahead.new.behind)) c.as_slice.ensures ∙ ap (numbers_kept c.in-Some-2.listed.params) (sym (shared c))

pub returns : goal.returns
returns c =
    let all = all_tokens (arc_value c.args.file.now) in
    let line : take (c.args.end - c.args.from) (drop c.args.from all) ≡ token_seen c.in-Some.name ∷ rest_of c.next.new.self =
    sym (c.tokens-behind.ensures ∙ ap (λ (f : LexedFile). take (c.args.end - c.args.from) (drop c.args.from (all_tokens f))) c.deref.ensures) ∙ c.in-Some.ensures.steps in
    let listed = c.in-Some-2.listed in
    let reads = subst (λ o. IfSome o (λ l. ReadsParameters (rest_of c.next.new.self) (rest_of c.parameters_ahead.new.behind) l.params l.variadic (l.count - 1) × ((1 ≤ l.count) × (length l.params ≤ 8))))
    c.in-Some-2.is c.in_ok-listed.ensures in
    let within : take (c.in-Some-numbers_behind.stop - c.in-Some-numbers_behind.start) (drop c.in-Some-numbers_behind.start all) ≡ rest_of c.parameters_ahead.new.behind =
    behind_many all c.args.from c.args.end c.in-Some-numbers_behind.start c.in-Some-numbers_behind.stop listed.count c.in-Some-numbers_behind.ensures.0 c.in-Some-numbers_behind.ensures.1
    ∙ ap (drop listed.count) line ∙ drop_behind (token_seen c.in-Some.name) (rest_of c.next.new.self) listed.count reads.1.0 ∙ sym reads.0.1 in
    rw c.in_ok-copy_of.ensures (
    function_macro (take (c.args.end - c.args.from) (drop c.args.from all)) (rest_of c.next.new.self) (rest_of c.parameters_ahead.new.behind)
    (take (c.in-Some-numbers_behind.stop - c.in-Some-numbers_behind.start) (drop c.in-Some-numbers_behind.start all))
    (token_seen c.in-Some.name) listed.params listed.variadic (listed.count - 1) c.in_ok-definition.definition line (sym c.if-not-names_macro.ensures)
    reads.0 (sym c.have_operator.ensures ∙ c.if-have_operator.false) within c.in_ok-definition.ensures
    )
