use Rattle.closure_fixpoint.proofs.SetsLaws.{word_none, word_some}
use Rattle.closure_fixpoint.proofs.naming.add_word.Goals as goal

pub returns-in-Undef : goal.returns-in-Undef
returns-in-Undef c = word_none c.args.sets.now c.args.word.now c.in-Undef.field-0 c.in-Undef.is

pub returns-in-Ok : goal.returns-in-Ok
returns-in-Ok c =
    word_some c.args.sets.now c.add.new.self c.args.word.now c.in-Define.name c.as_slice.result.now c.in-Define.definition c.in-Ok.field-0 c.in-Define.is c.as_slice.ensures c.in-Ok.ensures.ok c.in-Ok.ensures.grows
