use Rattle.macro_defs.specs.Table.{lookup}
use Rattle.daemon_cpp.specs.Prep.{is_defined}
use Rattle.daemon_cpp.proofs.Controlled.{reads-turn, reads-end}
use Rattle.daemon_cpp.proofs.controlling.read_replaced.Goals as goal

pub returns-in-Ok-clause-ok : goal.returns-in-Ok-clause-ok
returns-in-Ok-clause-ok c =
    rw (c.in-Ok.ensures, c.as_ref.ensures) (
      reads-turn (is_defined (lookup c.args.macros.now)) c.args.line.now c.args.stream.now c.expand_next.new.self c.args.work.now.left c.expand_next.new.work.left c.in-Ok-Some.token
          (rw c.in-Ok-Some.field-0-is at (c.in-Ok-Some.ensures.gives c.requires)),
      rw (c.requires, c.in-Ok-Some.field-0-is) at c.in-Ok-Some.ensures.stands,
    )

pub returns-in-Ok-None-clause-ok : goal.returns-in-Ok-None-clause-ok
returns-in-Ok-None-clause-ok c =
    reads-end (is_defined (lookup c.args.macros.now)) c.args.line.now c.args.stream.now c.expand_next.new.self c.args.work.now.left c.expand_next.new.work.left
    (rw c.in-Ok-None.field-0-is at (c.in-Ok-None.ensures.gives c.requires))
