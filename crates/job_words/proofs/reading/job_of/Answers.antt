use Rattle.std.proofs.Common.{◌++◌, ap, arith, length, length-append, refl}
use Rattle.job_words.specs.Words.{each_once}
use Rattle.job_words.proofs.EachOnce.{each_once-length}
use Rattle.job_words.proofs.Jobs.{job-of-parts}
use Rattle.job_words.proofs.reading.job_of.Goals as goal

pub new-requires : goal.new-requires
new-requires c =
    let given = c.args.given in
    omega (
      arith,
      ap length c.in_ok-quote.ensures,
      ap (λ texts. length (each_once texts)) c.as_slice-2.ensures,
      ap length c.in_ok-bracket.ensures,
      each_once-length given.quote,
      each_once-length (given.directories ++ (given.system ++ given.after)),
      length-append given.directories (given.system ++ given.after),
      length-append given.system given.after,
      c.requires.few,
    )

pub new-requires-2 : goal.new-requires-2
new-requires-2 c =
    job-of-parts c.args.cwd.now c.args.words c.in-Some.source c.args.given _ c.requires.read c.in-Some.is
    (rw (
      c.in_ok-setup.ensures,
      c.in_ok-cwd.ensures,
      c.in_ok-quote.ensures,
      c.as_slice-2.ensures,
      c.in_ok-bracket.ensures,
      c.in_ok-output.ensures,
      c.as_slice.ensures,
    ) refl)
