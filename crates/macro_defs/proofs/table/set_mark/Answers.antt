use Rattle.std.proofs.Common.{false, get_or, ap, ◌∙◌, arith}
use Rattle.macro_defs.proofs.MarkLemmas.{set_keeps, grown_keeps}
use Rattle.macro_defs.proofs.table.set_mark.Goals as goal
use Rattle.macro_defs.proofs.table.set_mark.Goals.{then-len-lt-MARKS+in_ok-resize, else-len-lt-MARKS}

pub returns-clause-keeps : goal.returns-clause-keeps
returns-clause-keeps c place is =
    set_keeps c.if-len-lt-MARKS.marks.items c.mark_of.result place
    (elim c.if-len-lt-MARKS.branch [
      | then-len-lt-MARKS+in_ok-resize w ↦ ap (λ v. get_or v.items place false) w.marks-is
          ∙ grown_keeps c.args.marks.now.items w.resize.new.self.items c.args.marks.now.len 8192 c.args.marks.now.ok.0 (omega (arith, c.len.ensures, w.if-len-lt-MARKS.true)) w.resize.ensures.by_index.0 place is
      | else-len-lt-MARKS w ↦ ap (λ v. get_or v.items place false) w.marks-is ∙ is
    ])
