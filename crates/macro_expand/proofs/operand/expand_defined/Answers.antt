use Rattle.macro_expand.proofs.LoopLaws.{on_ok-map, goes_on-defined}
use Rattle.macro_expand.proofs.operand.expand_defined.Goals as goal

pub returns-clause-ok : goal.returns-clause-ok
returns-clause-ok g c =
    on_ok-map c.put_operand_of_defined.result (goes_on-defined (g.A.Answers.answerer c.args.source.now) c.args.mode c.args.depth c.args.answers.now c.args.work.now.left c.args.t c.args.out.now.items c.put.new.out.items c.put_operand_of_defined.new.out.items c.args.pending.now c.put_operand_of_defined.new.pending c.requires.role c.in_ok-put.ensures.ok) c.put_operand_of_defined.ensures.ok
