use Rattle.std.proofs.Common.{◌∷◌, []}
use Rattle.daemon_cpp.proofs.Texts.{lays-turn, lays-end}
use Rattle.daemon_cpp.proofs.text.lay_expanded.Goals as goal

pub returns-in-Ok-clause-ok : goal.returns-in-Ok-clause-ok
returns-in-Ok-clause-ok c =
    rw (c.in-Ok.ensures.ok, c.in-Ok.ensures.same, c.in-Ok.ensures.left, c.as_ref.ensures) (
      lays-turn c.args.layout.now c.args.stream.now c.expand_next.new.self c.args.work.now.left c.expand_next.new.work.left (c.in-Ok-Some.token ∷ [])
          (rw c.in-Ok-Some.field-0-is at (c.in-Ok-Some.ensures.gives c.requires)),
      rw (c.requires, c.in-Ok-Some.field-0-is) at c.in-Ok-Some.ensures.stands,
    )

pub returns-in-Ok-Some-clause-err : goal.returns-in-Ok-Some-clause-err
returns-in-Ok-Some-clause-err c =
    rw (
      lays-turn c.args.layout.now c.args.stream.now c.expand_next.new.self c.args.work.now.left c.expand_next.new.work.left (c.in-Ok-Some.token ∷ [])
          (rw c.in-Ok-Some.field-0-is at (c.in-Ok-Some.ensures.gives c.requires)),
      ← c.as_ref.ensures,
    ) c.in-Err-lay_or_end.ensures.err

pub returns-in-Ok-None-clause-ok : goal.returns-in-Ok-None-clause-ok
returns-in-Ok-None-clause-ok c =
    lays-end c.args.layout.now c.args.stream.now c.expand_next.new.self c.args.work.now.left c.expand_next.new.work.left
    (rw c.in-Ok-None.field-0-is at (c.in-Ok-None.ensures.gives c.requires))
