use Rattle.std.proofs.Common.{◌∙◌, ap, [], length, true, false}
use Rattle.io_edges.specs.Talk.{taking, finishing, on_current}
use Rattle.job_ends.specs.Exchange.{ended_if}
use Rattle.job_ends.proofs.Changes.{sent-partly, sent-whole, taken-partly, whole-talk}
use Rattle.job_ends.proofs.talking.dialled_exchange.Goals as goal

pub returns-in-Err-clause-err : goal.returns-in-Err-clause-err
returns-in-Err-clause-err g c = (c.in-Err.ensures.err.0, ([], (false, c.in-Err.ensures.err.1 ∙ sent-partly _ (g.W.Wire.talk c.args.wire.now))))

pub returns-in-Err-finish-clause-err : goal.returns-in-Err-finish-clause-err
returns-in-Err-finish-clause-err g c =
    (length c.args.request.now, ([], (false, c.in-Err-finish.ensures.err ∙ c.in_default.ensures.ok ∙ sent-whole c.args.request.now (g.W.Wire.talk c.args.wire.now))))

pub returns-in-Ok-clause-ok : goal.returns-in-Ok-clause-ok
returns-in-Ok-clause-ok g c =
    c.in-Ok.ensures.ok
    ∙ ap (on_current (λ e. ended_if c.in-Ok.reply.ended (taking c.in-Ok.reply.bytes e))) (c.in_default-finish.ensures.ok ∙ ap (on_current finishing) c.in_default.ensures.ok)
    ∙ whole-talk c.args.request.now c.in-Ok.reply.bytes c.in-Ok.reply.ended (g.W.Wire.talk c.args.wire.now)

pub returns-in-Err-take_all-clause-err : goal.returns-in-Err-take_all-clause-err
returns-in-Err-take_all-clause-err g c =
    let r = c.in-Err-take_all.ensures.err.0 in (
      length c.args.request.now,
      (
        r,
        (
          true,
          c.in-Err-take_all.ensures.err.1 ∙ ap (on_current (taking r)) (c.in_default-finish.ensures.ok ∙ ap (on_current finishing) c.in_default.ensures.ok)
              ∙ taken-partly c.args.request.now r (g.W.Wire.talk c.args.wire.now),
        ),
      ),
    )
