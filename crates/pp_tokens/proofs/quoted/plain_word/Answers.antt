use Rattle.std.proofs.Common.{◌≡◌, sym, ◌∙◌, ap, inl, inr, get_or, drop, ◌+◌, true, false, arith}
use Rattle.std.proofs.lemmas.Bool.{eqb-true}
use Rattle.pp_tokens.specs.Grammar.{is_identifier_start}
use Rattle.pp_tokens.specs.Lines.{first_part}
use Rattle.pp_tokens.proofs.Closing.{rest_is}
use Rattle.pp_tokens.proofs.Prefixes.{IsWord, word_placed, word_first}
use Rattle.pp_tokens.proofs.quoted.plain_word.Goals as goal
use Rattle.pp_tokens.proofs.quoted.plain_word.Goals.{After-split_at-2}

begins : (c : After-split_at-2) → is_identifier_start (get_or c.args.text.now c.args.at 0) ≡ true
begins c = sym c.is_identifier_start.ensures ∙ c.if-not-is_identifier_start.false

-- the identifier, and what is behind it
word : (c : After-split_at-2)
    → IsWord (get_or c.args.text.now c.args.at 0) (drop (c.args.at + 1) c.args.text.now) c.split_at-2.result.0.now c.split_at-2.result.1.now c.word_length-length.result
word c =
    word_placed c.args.text.now c.split_at.result.1.now c.split_at-2.result.0.now c.split_at-2.result.1.now c.args.at c.word_length-length.result
    (omega (arith, c.if-at-text.false)) (begins c) c.split_at.ensures.back c.word_length-length.ensures.run c.split_at-2.ensures.front c.split_at-2.ensures.back

pub returns-then-is_empty-clause-part : goal.returns-then-is_empty-clause-part
returns-then-is_empty-clause-part c = λ some.
    let s = (goal.at.returns-then-is_empty-clause-part c).After-split_at-2 in
    ap (first_part false) (rest_is c.args.text.now c.args.at (omega (arith, c.if-at-text.false))) ∙ word_first _ _ _ _ _ (begins s) (word s) (inl (eqb-true _ 0 (sym c.is_empty.ensures ∙ c.if-is_empty.true)))

pub returns-else-opens_literal-clause-part : goal.returns-else-opens_literal-clause-part
returns-else-opens_literal-clause-part c = λ some.
    let s = (goal.at.returns-else-opens_literal-clause-part c).After-split_at-2 in
    ap (first_part false) (rest_is c.args.text.now c.args.at (omega (arith, c.if-at-text.false))) ∙ word_first _ _ _ _ _ (begins s) (word s) (inr (sym c.opens_literal.ensures ∙ c.if-opens_literal.false))
