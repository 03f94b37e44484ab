use Rattle.macro_expand.proofs.token_parts.put_token.Goals as goal

pub returns-in-Some-clause-alike : goal.returns-in-Some-clause-alike
returns-in-Some-clause-alike c t all each = c.put_copies.ensures.alike t all (c.argument_at.ensures.alike t each)
