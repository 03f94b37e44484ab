use Rattle.std.proofs.Common.{◌≤◌, ◌++◌, ◌∷◌, [], List, ℕ, length, subst, sym, arith}
use Rattle.std.proofs.lemmas.List.{drop-append-le}
use Rattle.pp_tokens.specs.parts.Pieces.{FrontStays}
use Rattle.pp_tokens.proofs.Runs.{run_none, run_behind}
use Rattle.pp_tokens.proofs.source.short_run.Goals as goal

pub loop-at-init : goal.loop-at-init
loop-at-init c = run_none c.args.trigraphs (c.args.rest.now ++ (10 ∷ []))

pub loop-at-preserved : goal.loop-at-preserved
loop-at-preserved c =
    let rest = c.args.rest.now in
    let at = c.loop-at.at in
    let within : at ≤ length rest = omega (arith, c.requires, c.loop-at-test.true) in
    run_behind c.args.trigraphs (rest ++ (10 ∷ [])) at 1 c.loop-at.invariant
    (subst (λ (l : List ℕ). FrontStays c.args.trigraphs l 1) (sym (drop-append-le at rest (10 ∷ []) within)) (c.stays.ensures c.if-not-stays.false))
