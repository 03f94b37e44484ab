use Rattle.std.proofs.Common.{◌≡◌, ◌+◌, ◌-◌, ◌∙◌, ap, arith, take, drop, min}
use Rattle.io_edges.specs.Talk.{sending, on_current}
use Rattle.job_ends.proofs.Changes.{sent-none, sent-more, piece-more, piece-part}
use Rattle.job_ends.proofs.talking.send_all.Goals as goal

pub loop-at-init : goal.loop-at-init
loop-at-init g c = record { within = omega arith; state = c.requires; talk = sent-none (g.W.Wire.talk c.args.wire.now); answered = λ a. a; later = omega arith }

pub returns-in-Err-clause-err : goal.returns-in-Err-clause-err
returns-in-Err-clause-err g c =
    let talk = g.W.Wire.talk c.args.wire.now in
    let n = c.in-Err.ensures.err.0 in
    let piece = take (c.loop-at.at + c.min.result - c.loop-at.at) (drop c.loop-at.at c.args.request.now) in (
      c.loop-at.at + min n (c.loop-at.at + c.min.result - c.loop-at.at),
      c.in-Err.ensures.err.1 ∙ ap (on_current (sending (take n piece))) c.loop-at.invariant.talk
          ∙ sent-more (take c.loop-at.at c.args.request.now) (take n piece) talk
          ∙ ap (λ s. on_current (sending s) talk) (piece-part c.args.request.now c.loop-at.at (c.loop-at.at + c.min.result - c.loop-at.at) n),
    )

pub loop-at-preserved : goal.loop-at-preserved
loop-at-preserved g c =
    let talk = g.W.Wire.talk c.args.wire.now in
    let k = c.loop-at.at + c.min.result - c.loop-at.at in
    let same : c.loop-at.at + k ≡ c.loop-at.at + c.min.result = omega arith in
    let piece = take k (drop c.loop-at.at c.args.request.now) in
    record {
      within = omega arith;
      state = c.in_default.ensures.still ∙ c.loop-at.invariant.state;
      talk = c.in_default.ensures.ok ∙ ap (on_current (sending piece)) c.loop-at.invariant.talk
          ∙ sent-more (take c.loop-at.at c.args.request.now) piece talk
          ∙ ap (λ s. on_current (sending s) talk) (piece-more c.args.request.now c.loop-at.at k ∙ ap (λ n. take n c.args.request.now) same);
      answered = λ a. c.in_default.ensures.answered;
      later = omega arith;
    }
