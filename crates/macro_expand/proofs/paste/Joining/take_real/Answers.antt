use Rattle.macro_expand.proofs.LoopLaws.{on_ok-map}
use Rattle.macro_expand.proofs.PasteLaws.{turn_real}
use Rattle.macro_expand.proofs.paste.Joining.take_real.Goals as goal

pub returns-clause-ok : goal.returns-clause-ok
returns-clause-ok c =
    on_ok-map c.put_operand.result
    (λ made ps. turn_real c.args.self.now ps c.put_operand.new.out.items c.replace-left.result c.replace-left.new.dest c.args.m c.if-self.false
    c.replace-left.ensures.value c.replace-left.ensures.after made) c.put_operand.ensures.ok
