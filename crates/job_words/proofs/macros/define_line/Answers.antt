use Rattle.std.proofs.Common.{sym}
use Rattle.job_words.proofs.MacroLines.{line-equals, line-plain}
use Rattle.job_words.proofs.macros.define_line.Goals as goal
use Rattle.job_words.proofs.macros.define_line.Goals.{in-Some, in-None+in_ok-extend_from_slice-in-None}

pub returns-clause-line : goal.returns-clause-line
returns-clause-line c =
    elim c.match-first_equals.branch [
      | in-Some w ↦ rw (w.line-is, w.index_mut.ensures, c.in_ok-line.ensures) (sym (line-equals c.args.text.now w.in-Some.place w.in-Some.ensures))
      | in-None+in_ok-extend_from_slice-in-None w ↦
          rw (w.line-is, w.in_ok-extend_from_slice-in-None.ensures.items, c.in_ok-line.ensures) (sym (line-plain c.args.text.now w.in-None.ensures))
    ]
