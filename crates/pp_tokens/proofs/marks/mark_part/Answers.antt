use Rattle.std.proofs.Common.{sym, ◌∙◌, ap, get_or, ℕ}
use Rattle.pp_tokens.specs.declared.token.Kind.TheVariants.{Punct}
use Rattle.pp_tokens.specs.Lines.{Part, token}
use Rattle.pp_tokens.proofs.MarkLemmas.{Mark, other_first, punctuator_first}
use Rattle.pp_tokens.proofs.marks.mark_part.Goals as goal
use Rattle.pp_tokens.proofs.marks.mark_part.Goals.{Start}

mark : (c : Start) → Mark (get_or c.args.rest.now 0 0) (get_or c.args.rest.now 1 0)
mark c = record {
  white = c.requires.white;
  newline = c.requires.newline;
  word = c.requires.word;
  quote = c.requires.quote;
  number = c.requires.number;
  comment = c.requires.comment;
}

pub returns-then-is_single : goal.returns-then-is_single
returns-then-is_single c =
    ap {B = Part × ℕ} (λ (n : ℕ). (token Punct, n)) c.mark_length.ensures
    ∙ sym (punctuator_first c.args.rest.now c.requires.some (mark (goal.at.returns-then-is_single c).Start) (sym c.is_single.ensures ∙ c.if-is_single.true))

pub returns-else-is_single : goal.returns-else-is_single
returns-else-is_single c =
    sym (other_first c.args.rest.now c.requires.some (mark (goal.at.returns-else-is_single c).Start) (sym c.is_single.ensures ∙ c.if-is_single.false))
