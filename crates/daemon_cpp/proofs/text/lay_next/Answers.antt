use Rattle.std.proofs.Common.{◌∙◌}
use Rattle.macro_expand.specs.Stream.{lent_tokens}
use Rattle.daemon_cpp.proofs.Texts.{lays-turn}
use Rattle.daemon_cpp.proofs.text.lay_next.Goals as goal

pub returns-in-Ok-clause-ok : goal.returns-in-Ok-clause-ok
returns-in-Ok-clause-ok c =
    rw (c.in-Ok.ensures.ok, c.in-Ok.ensures.same, c.in-Ok.ensures.left) (
      lays-turn c.args.layout.now c.args.stream.now c.lend_more.new.self c.args.work.now.left c.args.work.now.left (lent_tokens c.in-Some.lent)
          (c.in-Some.ensures.lends.given c.args.work.now.left),
      c.in-Some.ensures.same ∙ c.requires,
    )

pub returns-in-Err-clause-err : goal.returns-in-Err-clause-err
returns-in-Err-clause-err c =
    rw (
    lays-turn c.args.layout.now c.args.stream.now c.lend_more.new.self c.args.work.now.left c.args.work.now.left (lent_tokens c.in-Some.lent)
    (c.in-Some.ensures.lends.given c.args.work.now.left)
    ) c.in-Err.ensures.err
