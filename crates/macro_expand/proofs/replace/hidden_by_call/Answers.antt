use Rattle.macro_expand.specs.Sets.{names_in}
use Rattle.macro_expand.proofs.PieceLemmas.{call-hides}
use Rattle.macro_expand.proofs.replace.hidden_by_call.Goals as goal

pub returns : goal.returns
returns c =
    call-hides c.with-2.result c.text-2.result.now c.args.t.now.token.text (names_in c.args.t.now.hidden) (names_in c.args.close.now.hidden)
    c.in_ok-common.common c.text-2.ensures c.in_ok-common.ensures c.with-2.ensures
