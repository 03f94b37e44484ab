-- One token more.
use Rattle.std.proofs.Common.{◌≡◌, ◌≤◌, ◌++◌, List, ℕ, length, map, drop, sym, ap, ◌∙◌, arith}
use Rattle.pp_tokens.specs.Tokens.{rest_of, token_seen}
use Rattle.cpp_output.specs.Layout.{put}
use Rattle.cpp_output.specs.Laid.{Laid, after_event, after_events}
use Rattle.cpp_output.specs.Excerpts.{with_excerpt}
use Rattle.cpp_output.proofs.Lines.{left_turn, left_longer, left_done}
use Rattle.cpp_output.proofs.Taken.{begun_by, none_left}
use Rattle.cpp_output.proofs.layout.Layout.stretch.Goals as goal

pub loop-token-preserved : goal.loop-token-preserved
loop-token-preserved c =
    let taken = c.in_ok-take.ensures.ok in
    left_turn c.loop-token.excerpt.rest c.take.new.excerpt.rest (token_seen c.in-Some.token) (with_excerpt c.loop-token.self c.loop-token.excerpt)
    (with_excerpt c.take.new.self c.take.new.excerpt) (after_events c.args.self.now (map put (rest_of c.args.tokens))) taken.1 taken.0 c.loop-token.invariant

pub returns-in_err-take-clause-full : goal.returns-in_err-take-clause-full
returns-in_err-take-clause-full c =
    let all = after_events c.args.self.now (map put (rest_of c.args.tokens)) in
    let before = with_excerpt c.loop-token.self c.loop-token.excerpt in
    let t = token_seen c.in-Some.token in
    let rest = c.loop-token.excerpt.rest in
    let longer : length (after_event before (put t)).text ≤ length all.text = left_longer rest (drop 1 rest) t before all (begun_by rest t (sym c.in-Some.ensures)) c.loop-token.invariant in
    grind arith

pub returns-in_err-append-clause-full : goal.returns-in_err-append-clause-full
returns-in_err-append-clause-full c =
    let all = after_events c.args.self.now (map put (rest_of c.args.tokens)) in
    let e = c.loop-token.excerpt in
    let last = left_done e.rest (with_excerpt c.loop-token.self e) all (none_left e.rest c.in_default.ensures) c.loop-token.invariant in
    let whole : length (c.self.inside.text ++ c.bytes.result.now) ≡ length all.text =
    ap (λ (l : List ℕ). length (c.self.inside.text ++ l)) c.bytes.ensures ∙ ap (λ (s : Laid). length (s.text ++ e.taken)) c.self.view_is ∙ ap (λ (s : Laid). length s.text) last in
    grind arith

pub returns-clause-ok : goal.returns-clause-ok
returns-clause-ok c =
    let all = after_events c.args.self.now (map put (rest_of c.args.tokens)) in
    let e = c.loop-token.excerpt in
    let text = c.loop-token.self.text ++ e.taken in
    let written : c.append.new.self ≡ text =
    c.in_ok-append.ensures.ok ∙ ap (λ (l : List ℕ). c.self.inside.text ++ l) c.bytes.ensures ∙ ap (λ (s : Laid). s.text ++ e.taken) c.self.view_is in
    let view = λ (l : List ℕ) (s : Laid). let laid : Laid = record { text = l; at = s.at; last = s.last } in laid in (
      ap (λ (l : List ℕ). let laid : Laid = record { text = l; at = c.self.inside.at; last = c.self.inside.last } in laid) written
          ∙ ap (view text) c.self.view_is
          ∙ left_done e.rest (with_excerpt c.loop-token.self e) all (none_left e.rest c.in_default.ensures) c.loop-token.invariant,
      c.in_ok-append.ensures.within,
    )
