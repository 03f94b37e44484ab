use Rattle.std.proofs.Common.{◌≤◌, ℕ, List, length, take, take_while, drop, subst, ap, ◌∙◌, arith}
use Rattle.std.specs.List.{prefix_len}
use Rattle.std.proofs.lemmas.List.{drop-drop}
use Rattle.pp_tokens.proofs.RunLanes.{goes_far}
use Rattle.pp_tokens.proofs.run.run_length.Goals as goal

pub loop-length-preserved : goal.loop-length-preserved
loop-length-preserved g c =
    let p = g.C.Class.holds in
    let bytes = c.args.bytes.now in
    let at = c.loop-length.length in
    let many : 16 ≤ prefix_len p (take 16 (drop at bytes)) =
    subst (λ (n : ℕ). 16 ≤ n) (c.near_length-near.ensures ∙ ap (λ (rest : List ℕ). prefix_len p (take 16 rest)) c.split_at.ensures.back) c.if-near-lt-LANES.false in
    let far = goes_far p 16 (drop at bytes) many in
    let onward = ap (λ (rest : List ℕ). length (take_while p rest)) (drop-drop 16 at bytes) in
    record {
      within = omega (arith, c.loop-length-test.true);
      run = omega (arith, c.loop-length.invariant.run, far, onward);
    }
