use Rattle.std.specs.Prelude.{ℕ, length}
use Rattle.std.proofs.Common.{sym, ◌∙◌, ap}
use Rattle.std.proofs.lemmas.Bool.{eqb-true}
use Rattle.pp_tokens.specs.Lines.{Part}
use Rattle.pp_tokens.specs.parts.Text.{whole_kind}
use Rattle.pp_tokens.proofs.WholeTokens.{kind_is, empty_kind, some_text}
use Rattle.pp_tokens.proofs.single.single_token.Goals as goal

pub returns-then-is_empty : goal.returns-then-is_empty
returns-then-is_empty c =
    sym (empty_kind c.args.text.now (eqb-true (length c.args.text.now) 0 (sym c.is_empty.ensures ∙ c.if-is_empty.true)))

pub next_part-part-requires-clause-known : goal.next_part-part-requires-clause-known
next_part-part-requires-clause-known c = c.new-unpaired.ensures c.args.text.now 0

pub returns : goal.returns
returns c =
    c.whole_kind.ensures
    ∙ ap (λ (f : Part × ℕ). whole_kind f (length c.args.text.now)) c.next_part-part.ensures.part
    ∙ sym (kind_is c.args.text.now (some_text c.args.text.now (sym c.is_empty.ensures ∙ c.if-is_empty.false)))
