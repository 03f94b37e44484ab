use Rattle.std.proofs.Common.{◌≡◌, ◌≤◌, ◌++◌, ◌∷◌, [], List, ℕ, length, drop, subst, sym, ap, ◌∙◌, arith}
use Rattle.std.proofs.lemmas.List.{drop-append-le}
use Rattle.pp_tokens.specs.parts.Pieces.{FrontStays}
use Rattle.pp_tokens.proofs.Runs.{run_kept, run_behind}
use Rattle.pp_tokens.proofs.source.run_length.Goals as goal

pub returns-clause-run : goal.returns-clause-run
returns-clause-run c =
    let rest = c.args.rest.now in
    let run = c.short_run-run.result in
    let far = c.split_at.result.1.now in
    let within : run ≤ length rest = omega (arith, c.short_run-run.ensures.within, c.min-bound.ensures) in
    let left : far ++ (10 ∷ []) ≡ drop run (rest ++ (10 ∷ [])) =
    ap (λ (l : List ℕ). l ++ (10 ∷ [])) c.split_at.ensures.back ∙ sym (drop-append-le run rest (10 ∷ []) within) in
    run_behind c.args.trigraphs (rest ++ (10 ∷ [])) run c.long_run.result c.short_run-run.ensures.run
    (subst (λ (l : List ℕ). FrontStays c.args.trigraphs l c.long_run.result) left
    (run_kept c.args.trigraphs far (10 ∷ []) c.long_run.result c.long_run.ensures.within c.long_run.ensures.kept))
