use Rattle.std.proofs.Common.{sym, ◌∙◌, ap, ◌≡◌, ◌+◌, suc, get_or, drop, arith, ℕ}
use Rattle.pp_tokens.specs.declared.token.Kind.TheVariants.{Number}
use Rattle.pp_tokens.specs.Lines.{Part, token}
use Rattle.pp_tokens.specs.Grammar.{number_length}
use Rattle.pp_tokens.proofs.Numbers.{number_first}
use Rattle.pp_tokens.proofs.marks.number_part.Goals as goal

pub returns : goal.returns
returns c =
    let run = c.number_length.ensures.run ∙ ap (number_length (get_or c.args.rest.now 0 0)) c.split_at.ensures.back in
    let size : c.number_length.result + 1 ≡ suc (number_length (get_or c.args.rest.now 0 0) (drop 1 c.args.rest.now)) = omega (arith, run) in
    ap {B = Part × ℕ} (λ (n : ℕ). (token Number, n)) size ∙ sym (number_first c.args.rest.now c.requires.number)
