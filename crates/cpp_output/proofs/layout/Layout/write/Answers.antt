use Rattle.std.proofs.Common.{◌≤◌, ◌++◌, length, arith}
use Rattle.pp_tokens.specs.Tokens.{token_seen}
use Rattle.cpp_output.specs.Layout.{put}
use Rattle.cpp_output.specs.Laid.{after_event}
use Rattle.cpp_output.specs.Excerpts.{before_token, with_excerpt}
use Rattle.cpp_output.proofs.Taken.{begins, longer}
use Rattle.cpp_output.proofs.layout.Layout.write.Goals as goal

pub returns-in_err-append_before-clause-full : goal.returns-in_err-append_before-clause-full
returns-in_err-append_before-clause-full c =
    let s = c.args.self.now in
    let e = c.args.excerpt.now in
    let t = token_seen c.args.token.now in
    let whole : length (s.text ++ (c.bytes.result.now ++ before_token s t)) ≤ length (after_event (with_excerpt s e) (put t)).text = rw c.bytes.ensures (longer s e t) in
    grind arith

pub returns-clause-ok : goal.returns-clause-ok
returns-clause-ok c =
    begins c.args.self.now c.append_before.new.self c.args.excerpt.now c.begin.new.self (token_seen c.args.token.now) c.requires.first c.begin.ensures.alone
    (rw (← c.bytes.ensures) c.in_ok-append_before.ensures.ok)
