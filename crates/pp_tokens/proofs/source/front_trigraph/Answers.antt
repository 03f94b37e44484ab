use Rattle.std.proofs.Common.{◌≡◌, ◌≢◌, ℕ, ◌<◌, ◌≤◌, ◌∷◌, ◌==◌, ◌&&◌, [], List, length, get_or, refl, ◌∙◌, arith, true, false, eq-eqb, None}
use Rattle.std.proofs.lemmas.Bool.{ne_eqb, and_right}
use Rattle.pp_tokens.specs.Phases.{trigraph}
use Rattle.pp_tokens.specs.parts.Pieces.{front_trigraph}
use Rattle.pp_tokens.proofs.source.front_trigraph.Goals as goal
use Rattle.pp_tokens.proofs.source.front_trigraph.Goals.{then-rest-lt3-via-then-rest-lt3, then-rest-lt3-via-else-rest-lt3+then-rest-ne63, then-rest-lt3-via-else-rest-lt3+else-rest-ne63+then-rest-ne63-2}

too_short : (rest : List ℕ) → length rest < 3 → None ≡ front_trigraph rest
unfolding front_trigraph
too_short [] h = refl
too_short (a ∷ []) h = refl
too_short (a ∷ b ∷ []) h = refl
too_short (a ∷ b ∷ d ∷ bs) h = absurd (omega arith)

other_first : (rest : List ℕ) → get_or rest 0 0 ≢ 63 → None ≡ front_trigraph rest
unfolding front_trigraph
other_first [] h = refl
other_first (a ∷ []) h = refl
other_first (a ∷ b ∷ []) h = refl
other_first (a ∷ b ∷ d ∷ bs) h = let e : (a == 63) ≡ false = ne_eqb a 63 h in rw e refl

other_second : (rest : List ℕ) → get_or rest 1 0 ≢ 63 → None ≡ front_trigraph rest
unfolding front_trigraph
other_second [] h = refl
other_second (a ∷ []) h = refl
other_second (a ∷ b ∷ []) h = refl
other_second (a ∷ b ∷ d ∷ bs) h = let e : ((a == 63) && (b == 63)) ≡ false = and_right (a == 63) (b == 63) (ne_eqb b 63 h) in rw e refl

by_third : (rest : List ℕ) → 3 ≤ length rest → get_or rest 0 0 ≡ 63 → get_or rest 1 0 ≡ 63 → trigraph (get_or rest 2 0) ≡ front_trigraph rest
unfolding front_trigraph
by_third [] long first second = absurd (omega arith)
by_third (a ∷ []) long first second = absurd (omega arith)
by_third (a ∷ b ∷ []) long first second = absurd (omega arith)
by_third (a ∷ b ∷ d ∷ bs) long first second =
    let e : (a == 63) ≡ true = eq-eqb a 63 first in
    let f : (b == 63) ≡ true = eq-eqb b 63 second in
    rw (e, f) refl

pub returns-then-rest-lt3-clause-value : goal.returns-then-rest-lt3-clause-value
returns-then-rest-lt3-clause-value c =
    elim c.then-rest-lt3.branch [
      | then-rest-lt3-via-then-rest-lt3 w ↦ too_short c.args.rest.now w.if-rest-lt3.true
      | then-rest-lt3-via-else-rest-lt3+then-rest-ne63 w ↦ other_first c.args.rest.now w.if-rest-ne63.true
      | then-rest-lt3-via-else-rest-lt3+else-rest-ne63+then-rest-ne63-2 w ↦ other_second c.args.rest.now w.if-rest-ne63-2.true
    ]

pub returns-clause-value : goal.returns-clause-value
returns-clause-value c = c.trigraph.ensures ∙ by_third c.args.rest.now c.if-rest-lt3.false c.if-rest-ne63.false c.if-rest-ne63-2.false
