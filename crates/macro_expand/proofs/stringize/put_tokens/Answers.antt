use Rattle.std.proofs.Common.{◌++◌, ◌+◌, ◌∙◌, ap, refl, drop, map, true, false, ◌&&◌, not}
use Rattle.macro_expand.specs.Replacement.{spellings, spelling_of}
use Rattle.macro_expand.specs.Seen.{marked_of}
use Rattle.macro_expand.proofs.StringLemmas.{grows, nothing_left, space_before, spellings-here, spellings-done, two_more}
use Rattle.macro_expand.proofs.stringize.put_tokens.Goals as goal

pub loop-t-preserved : goal.loop-t-preserved
loop-t-preserved c =
    grows c.loop-t.text.items c.put_token.new.text.items (space_before (c.t-item.result.token.space && not c.loop-t.first) ++ spelling_of c.t-item.result.token)
    (spellings c.loop-t.first (map marked_of (drop c.loop-t.t-index c.args.tokens.now)))
    (spellings false (map marked_of (drop (c.loop-t.t-index + 1) c.args.tokens.now))) (c.args.text.now.items ++ spellings true (map marked_of c.args.tokens.now))
    (two_more c.loop-t.text.items c.put_space.new.text.items c.put_token.new.text.items (space_before (c.t-item.result.token.space && not c.loop-t.first))
    (spelling_of c.t-item.result.token) (space_before (c.t-item.result.token.space && not c.loop-t.first) ++ spelling_of c.t-item.result.token)
    (c.in_ok-put_space.ensures ∙ ap (λ b. c.loop-t.text.items ++ space_before b) c.is_spaced.ensures) c.in_ok-put_token.ensures refl)
    (spellings-here c.args.tokens.now c.loop-t.t-index c.t-item.result c.loop-t.first c.loop-t-test.true c.t-item.is) c.loop-t.invariant

pub returns : goal.returns
returns c =
    nothing_left c.loop-t.text.items (spellings c.loop-t.first (map marked_of (drop c.loop-t.t-index c.args.tokens.now)))
    (c.args.text.now.items ++ spellings true (map marked_of c.args.tokens.now))
    (spellings-done c.args.tokens.now c.loop-t.t-index c.loop-t.first c.loop-t-test.false) c.loop-t.invariant
