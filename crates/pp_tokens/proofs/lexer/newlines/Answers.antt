use Rattle.std.proofs.Common.{sym, subst, refl, inl, inr}
use Rattle.pp_tokens.specs.parts.Gathered.{IsPart}
use Rattle.pp_tokens.specs.parts.Text.{part_told}
use Rattle.pp_tokens.specs.Lines.{white, token}
use Rattle.pp_tokens.proofs.OneLine.{short_newlines, newline_newlines}
use Rattle.pp_tokens.proofs.lexer.newlines.Goals as goal

pub returns-in-Newline : goal.returns-in-Newline
returns-in-Newline c = let part = c.args.part.now in sym (newline_newlines part (subst (λ w. IsPart (part_told w) part) c.in-Newline.is c.requires.part))

pub returns-in-White : goal.returns-in-White
returns-in-White c =
    let part = c.args.part.now in
    elim c.in-White.is [
      | inl is ↦ sym (short_newlines white part refl (subst (λ w. IsPart (part_told w) part) is c.requires.part))
      | inr (k, is) ↦ sym (short_newlines (token k) part refl (subst (λ w. IsPart (part_told w) part) is c.requires.part))
    ]
