use Rattle.std.proofs.Common.{◌≡◌, ℕ, cond, eqb, take, subst, sym, ◌∙◌}
use Rattle.std.specs.List.{prefix_len}
use Rattle.std.specs.Int.Count.{count_trailing_zeros}
use Rattle.std.proofs.lemmas.Bool.{ne_eqb, cond-false}
use Rattle.std.proofs.lemmas.List.{length-take-le}
use Rattle.pp_tokens.proofs.RunLanes.{near}
use Rattle.pp_tokens.proofs.run.near_length.Goals as goal

pub returns-then-others-eq0 : goal.returns-then-others-eq0
returns-then-others-eq0 g c =
    let first = take 16 c.args.bytes.now in
    let Near : ℕ → Type 0 = λ m. cond (eqb m 0) 16 (count_trailing_zeros 64 m) ≡ prefix_len g.C.Class.holds first in
    subst Near c.if-others-eq0.true (subst Near (sym c.others-others.ensures) (near g.C.Class.holds first (length-take-le 16 c.args.bytes.now c.requires)))

pub returns : goal.returns
returns g c =
    let first = take 16 c.args.bytes.now in
    let Near : ℕ → Type 0 = λ m. cond (eqb m 0) 16 (count_trailing_zeros 64 m) ≡ prefix_len g.C.Class.holds first in
    sym (cond-false _ _ _ (ne_eqb _ 0 c.if-others-eq0.false))
    ∙ subst Near (sym c.others-others.ensures) (near g.C.Class.holds first (length-take-le 16 c.args.bytes.now c.requires))
