-- One token more.
use Rattle.std.proofs.Common.{◌≤◌, length, map, refl, arith}
use Rattle.pp_tokens.specs.Tokens.{token_seen}
use Rattle.cpp_output.specs.Layout.{put}
use Rattle.cpp_output.specs.Laid.{after_event, after_events}
use Rattle.cpp_output.proofs.Lines.{run_turn, run_longer, run_done}
use Rattle.cpp_output.proofs.layout.Layout.run.Goals as goal

pub loop-token-init : goal.loop-token-init
loop-token-init c = record { same = refl; within = rw (← c.self.view_is) c.self.invariant }

pub returns-in_err-put-clause-full : goal.returns-in_err-put-clause-full
returns-in_err-put-clause-full c =
    let longer : length (after_event c.loop-token.self (put (token_seen c.as_ref.result))).text ≤ length (after_events c.args.self.now (map put c.args.tokens.now)).text =
    run_longer
    c.args.tokens.now
    c.loop-token.token-index
    c.token-item.result
    (token_seen c.as_ref.result)
    c.loop-token.self
    (after_events c.args.self.now (map put c.args.tokens.now))
    (omega arith)
    c.token-item.is
    c.as_ref.ensures
    c.loop-token.invariant.same in
    grind arith

pub loop-token-preserved : goal.loop-token-preserved
loop-token-preserved c = record {
  same =
      run_turn
      c.args.tokens.now
      c.loop-token.token-index
      c.token-item.result
      (token_seen c.as_ref.result)
      c.loop-token.self
      c.put.new.self
      (after_events c.args.self.now (map put c.args.tokens.now))
      (omega arith)
      c.token-item.is
      c.as_ref.ensures
      c.in_ok-put.ensures.ok.0
      c.loop-token.invariant.same;
  within = c.in_ok-put.ensures.ok.1;
}

pub returns-clause-ok : goal.returns-clause-ok
returns-clause-ok c = (
  run_done
      c.args.tokens.now
      c.loop-token.token-index
      c.loop-token.self
      (after_events c.args.self.now (map put c.args.tokens.now))
      c.loop-token-test.false
      c.loop-token.invariant.same,
  c.loop-token.invariant.within,
)
