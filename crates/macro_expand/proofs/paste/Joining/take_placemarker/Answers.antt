use Rattle.macro_expand.proofs.LoopLaws.{on_ok-map}
use Rattle.macro_expand.proofs.PasteLaws.{turn_joined_placemarker, turn_placemarker}
use Rattle.macro_expand.proofs.paste.Joining.take_placemarker.Goals as goal

pub returns-then-self-clause-ok : goal.returns-then-self-clause-ok
returns-then-self-clause-ok c = λ ps. turn_joined_placemarker c.args.self.now ps c.if-self.true

pub returns-clause-ok : goal.returns-clause-ok
returns-clause-ok c =
    on_ok-map c.put_operand.result
    (λ made ps. turn_placemarker c.args.self.now ps c.put_operand.new.out.items c.take.result c.take.new.self c.if-self.false
    c.take.ensures.value c.take.ensures.after made) c.put_operand.ensures.ok
