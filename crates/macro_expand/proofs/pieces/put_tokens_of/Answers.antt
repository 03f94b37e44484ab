use Rattle.macro_expand.proofs.pieces.put_tokens_of.Goals as goal

pub returns-in-Argument-clause-alike : goal.returns-in-Argument-clause-alike
returns-in-Argument-clause-alike c t all each = c.put_copies.ensures.alike t all (c.argument_at.ensures.alike t each)
