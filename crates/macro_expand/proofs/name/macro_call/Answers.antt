use Rattle.macro_expand.proofs.name.macro_call.Goals as goal

pub returns-clause-stamped : goal.returns-clause-stamped
returns-clause-stamped c sets next each = c.in_ok-given.ensures.stamped sets next each
