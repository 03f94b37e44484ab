use Rattle.std.proofs.Common.{◌∙◌, ap, take, ◌∷◌, []}
use Rattle.io_edges.specs.Talk.{on_current, taking, finishing, sending, dialled}
use Rattle.job_ends.specs.Exchange.{ended_if, partly}
use Rattle.job_ends.proofs.Changes.{replied-talk, began-talk, began}
use Rattle.job_ends.proofs.talking.exchange.Goals as goal

pub returns-in-Ok-clause-ok : goal.returns-in-Ok-clause-ok
returns-in-Ok-clause-ok g c =
    let s = c.args.request.now in
    let r = c.in-Ok.reply in
    c.close.ensures.same ∙ c.in-Ok.ensures.ok
    ∙ ap (on_current (λ e. ended_if r.ended (taking r.bytes (finishing (sending s e))))) c.in_ok-dial.ensures.ok
    ∙ replied-talk c.args.host.now s r.bytes r.ended (g.W.Wire.talk c.args.wire.now)

pub returns-in-Err-clause-err : goal.returns-in-Err-clause-err
returns-in-Err-clause-err g c =
    let s = c.args.request.now in
    let host = c.args.host.now in
    let n = c.in-Err.ensures.err.0 in
    let r = c.in-Err.ensures.err.1.0 in
    let b = c.in-Err.ensures.err.1.1.0 in (
      partly (take n s) r b (dialled host) ∷ [],
      c.close.ensures.same ∙ c.in-Err.ensures.err.1.1.1 ∙ ap (on_current (partly (take n s) r b)) c.in_ok-dial.ensures.ok
          ∙ began-talk host s r n b (g.W.Wire.talk c.args.wire.now),
      began host s r n b,
    )
