use Rattle.std.proofs.lemmas.Result.{err_from_is_err_and}
use Rattle.macro_expand.proofs.PasteLaws.{turn_pasted, turn_fails}
use Rattle.macro_expand.proofs.paste.Joining.paste_on.Goals as goal

pub returns-in_err-made-clause-err : goal.returns-in_err-made-clause-err
returns-in_err-made-clause-err c =
    let p = err_from_is_err_and c.from_residual.result c.from_residual.ensures.1 in
    rw (p.1, p.2)
    (λ ps. turn_fails c.args.self.now ps c.take-left.result c.args.right _ _ c.requires.joining c.take-left.ensures.value c.in_err-made.ensures.err)

pub returns-clause-ok : goal.returns-clause-ok
returns-clause-ok c =
    λ ps. turn_pasted c.args.self.now ps c.take-left.result c.args.right c.in_ok-made.made c.requires.joining c.take-left.ensures.value c.in_ok-made.ensures.ok
