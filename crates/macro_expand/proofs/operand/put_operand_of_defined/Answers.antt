use Rattle.std.proofs.Common.{arith, ◌∙◌, ap, sym, ◌++◌, append_assoc, List, take, drop}
use Rattle.macro_expand.specs.declared.marked.Marked.{Marked as Kept}
use Rattle.macro_expand.proofs.OperandLaws.{moved_more}
use Rattle.macro_expand.proofs.operand.put_operand_of_defined.Goals as goal

pub loop-token-preserved : goal.loop-token-preserved
loop-token-preserved c =
    let xs = c.args.pending.now in
    let moved = c.in_ok-put_first.ensures.ok in
    record {
      put = moved.0 ∙ ap (λ (l : List Kept). l ++ take 1 c.loop-token.pending) c.loop-token.invariant.put
          ∙ ap (λ (l : List Kept). (c.args.out.now.items ++ take c.loop-token._token xs) ++ take 1 l) c.loop-token.invariant.left
          ∙ append_assoc c.args.out.now.items (take c.loop-token._token xs) (take 1 (drop c.loop-token._token xs)) ∙ ap (λ (l : List Kept). c.args.out.now.items ++ l) (sym (moved_more xs c.loop-token._token).0);
      left = moved.1 ∙ ap (drop 1) c.loop-token.invariant.left ∙ sym (moved_more xs c.loop-token._token).1;
      shorter = omega arith;
    }
