use Rattle.std.proofs.Common.{◌∙◌, ap, sym, List, [], ℕ, zero}
use Rattle.pp_tokens.specs.Phases.{Cell}
use Rattle.pp_tokens.specs.Lined.{lined}
use Rattle.pp_tokens.specs.Lines.{elements, file_of, lexed}
use Rattle.pp_tokens.specs.DirectiveLines.{kept_alone}
use Rattle.pp_tokens.specs.parts.Seen.{seen_file}
use Rattle.pp_tokens.proofs.lexer.lex_kept.Goals as goal

pub returns : goal.returns
unfolding lexed
returns c =
    let g = c.in_ok-gathering.gathering in
    c.finished.ensures
    ∙ ap (λ (text : List ℕ). seen_file text g.places.items g.ends.items g.unended) (sym c.deref.ensures.value)
    ∙ c.in_ok-gathering.ensures.file
    ∙ (λ i. kept_alone c.args.whole (file_of (elements zero [] (lined (c.deref-2.ensures.value i) 0 1 (c.deref.ensures.value i)))))
    ∙ ap (λ (cells : List Cell). kept_alone c.args.whole (file_of (elements zero [] cells))) c.in_ok-text.ensures.source
