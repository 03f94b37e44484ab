use Rattle.std.proofs.Common.{◌≡◌, ◌-◌, ◌∷◌, ◌++◌, [], List, ℕ, take, sym, ◌∙◌, ap}
use Rattle.pp_tokens.specs.Phases.{newline_ended}
use Rattle.pp_tokens.proofs.LastNewlines.{ended_with, unended_with, last_byte}
use Rattle.pp_tokens.proofs.source.end_last_line.Goals as goal

pub returns-then-index-eq10 : goal.returns-then-index-eq10
returns-then-index-eq10 c =
    let body = c.args.body.now.items in
    let whole : body ≡ take (c.len.result - 1) body ++ (10 ∷ []) =
    last_byte body c.len.result c.index.result.now (c.len.ensures ∙ c.args.body.now.ok.0) c.index.ensures c.requires ∙ ap (λ b. take (c.len.result - 1) body ++ (b ∷ [])) c.if-index-eq10.true in
    whole ∙ sym (ended_with (take (c.len.result - 1) body)) ∙ ap newline_ended (sym whole)

pub returns : goal.returns
returns c =
    let body = c.args.body.now.items in
    let whole : body ≡ take (c.len.result - 1) body ++ (c.index.result.now ∷ []) = last_byte body c.len.result c.index.result.now (c.len.ensures ∙ c.args.body.now.ok.0) c.index.ensures c.requires in
    c.in_ok-push.ensures.items ∙ ap (λ (l : List ℕ). l ++ (10 ∷ [])) whole ∙ sym (unended_with (take (c.len.result - 1) body) c.index.result.now c.if-index-eq10.false) ∙ ap newline_ended (sym whole)
