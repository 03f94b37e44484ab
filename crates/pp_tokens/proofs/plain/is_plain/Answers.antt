use Rattle.std.proofs.Common.{sym, ◌∙◌, ap, arith, ◌≡◌, ◌<◌, ◌&&◌, length, length-drop, drop, false, refl, zero, suc, ℕ, ◌==◌}
use Rattle.std.proofs.lemmas.Bool.{eqb-true}
use Rattle.pp_tokens.specs.Plain.{is_plain_body}
use Rattle.pp_tokens.proofs.PlainTests.{empty_body, unended_body, first_line}
use Rattle.pp_tokens.proofs.plain.is_plain.Goals as goal

some_left : (n : ℕ) → (n == 0) ≡ false → 0 < n
some_left zero h = absurd (cc)
some_left (suc n) h = omega arith

pub loop-rest-init : goal.loop-rest-init
loop-rest-init c = refl

pub returns-then-length-rest : goal.returns-then-length-rest
returns-then-length-rest c =
    let rest = c.loop-rest.rest.now in
    let some : 0 < length rest = some_left (length rest) (sym (c.loop-rest-test.ensures)) in
    sym (c.loop-rest.invariant ∙ unended_body rest some (sym c.line_length-length.ensures.run ∙ c.if-length-rest.true))

pub returns-then-not-is_plain_line : goal.returns-then-not-is_plain_line
returns-then-not-is_plain_line c =
    let rest = c.loop-rest.rest.now in
    let behind = c.split_at.result.1.now in
    let below : c.line_length-length.result < length rest = omega (arith, c.line_length-length.ensures.within, c.if-length-rest.false) in
    let cut = first_line rest c.split_at.result.0.now behind (drop 1 behind) c.line_length-length.result c.line_length-length.ensures.run below c.split_at.ensures.front c.split_at.ensures.back refl in
    sym (c.loop-rest.invariant ∙ cut ∙ ap (λ t. t && is_plain_body (drop 1 behind)) (sym c.is_plain_line.ensures ∙ c.if-not-is_plain_line.true))

pub loop-rest-smaller : goal.loop-rest-smaller
loop-rest-smaller c =
    let rest = c.loop-rest.rest.now in
    let behind = c.split_at.result.1.now in
    let below : c.line_length-length.result < length rest = omega (arith, c.line_length-length.ensures.within, c.if-length-rest.false) in
    omega (arith, below, ap length c.split_at.ensures.back, length-drop c.line_length-length.result rest, ap length c.split_at-in-loop-rest.ensures.back, length-drop 1 behind)

pub loop-rest-preserved : goal.loop-rest-preserved
loop-rest-preserved c =
    let rest = c.loop-rest.rest.now in
    let behind = c.split_at.result.1.now in
    let below : c.line_length-length.result < length rest = omega (arith, c.line_length-length.ensures.within, c.if-length-rest.false) in
    let cut = first_line rest c.split_at.result.0.now behind c.split_at-in-loop-rest.result.1.now c.line_length-length.result c.line_length-length.ensures.run below c.split_at.ensures.front c.split_at.ensures.back c.split_at-in-loop-rest.ensures.back in
    c.loop-rest.invariant ∙ cut ∙ ap (λ t. t && is_plain_body c.split_at-in-loop-rest.result.1.now) (sym c.is_plain_line.ensures ∙ c.if-not-is_plain_line.false)

pub returns : goal.returns
returns c =
    let rest = c.loop-rest.rest.now in
    sym (c.loop-rest.invariant ∙ empty_body rest (eqb-true (length rest) 0 (sym c.is_empty.ensures ∙ c.loop-rest-test.false)))
