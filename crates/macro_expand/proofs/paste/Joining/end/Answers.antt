use Rattle.std.proofs.Common.{map, refl}
use Rattle.macro_expand.specs.Seen.{marked_of, paste_operand}
use Rattle.macro_expand.proofs.PasteLaws.{keeps_last}
use Rattle.macro_expand.proofs.paste.Joining.end.Goals as goal

pub returns-clause-ok : goal.returns-clause-ok
returns-clause-ok c =
    keeps_last _ (map marked_of c.args.self.out.items) (map marked_of c.put_operand.new.out.items) (paste_operand c.args.self.left) c.args.self.joining
    c.in_ok-put_operand.ensures.ok refl
