use Rattle.std.proofs.Common.{sym, ◌∙◌, ap, ◌≡◌, ◌+◌, get_or, drop, arith, ℕ, List}
use Rattle.pp_tokens.proofs.ByteRuns.{before, found_here, found_later, found_none}
use Rattle.pp_tokens.proofs.comment.comment_length.Goals as goal
use Rattle.pp_tokens.proofs.comment.comment_length.Goals.{After-byte_at}

-- the star is the next one
star_is : (c : After-byte_at) → c.bytes_before-star.result ≡ before 42 (drop c.loop-at.at c.args.inside.now)
star_is c = c.bytes_before-star.ensures.run ∙ ap (before 42) c.split_at.ensures.back

-- the byte behind it
behind_is : (c : After-byte_at) → c.byte_at.result ≡ get_or (drop c.loop-at.at c.args.inside.now) (c.bytes_before-star.result + 1) 0
behind_is c = c.byte_at.ensures ∙ ap (λ (l : List ℕ). get_or l (c.bytes_before-star.result + 1) 0) c.split_at.ensures.back

pub returns-then-byte_at-eq47-clause-length : goal.returns-then-byte_at-eq47-clause-length
returns-then-byte_at-eq47-clause-length c =
    let s = (goal.at.returns-then-byte_at-eq47-clause-length c).After-byte_at in
    found_here c.args.inside.now c.loop-at.at c.bytes_before-star.result c.loop-at.invariant.found (star_is s) (sym (behind_is s) ∙ c.if-byte_at-eq47.true)

pub loop-at-preserved : goal.loop-at-preserved
loop-at-preserved c =
    let s = (goal.at.loop-at-preserved c).After-byte_at in
    record {
      within = omega (arith, c.bytes_before-star.ensures.within, c.split_at.ensures.back_len);
      found = found_later c.args.inside.now c.loop-at.at c.bytes_before-star.result c.loop-at.invariant.found (star_is s)
          (λ slash. c.if-byte_at-eq47.false (behind_is s ∙ slash));
    }

pub returns-clause-length : goal.returns-clause-length
returns-clause-length c = found_none c.args.inside.now c.loop-at.at c.loop-at-test.false c.loop-at.invariant.found
