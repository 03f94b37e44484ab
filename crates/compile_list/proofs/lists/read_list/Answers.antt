use Rattle.std.proofs.Common.{◌≡◌, ◌+◌, suc, length, inl, inr, sym, ap, ◌∙◌, arith}
use Rattle.std.proofs.lemmas.Bool.{le-leb}
use Rattle.base_types.specs.Limits.{list_limit}
use Rattle.compile_list.specs.Listed.{jobs_from}
use Rattle.compile_list.proofs.JobLines.{line-read, line-refused, lines-ended, within}
use Rattle.compile_list.proofs.lists.read_list.Goals as goal

pub returns-in-Err-clause-why : goal.returns-in-Err-clause-why
returns-in-Err-clause-why c = elim c.in-Err.ensures.why [
  | inl memory ↦ inl memory
  | inr refused ↦ inr (within c.args.bytes.now (le-leb (length c.args.bytes.now) list_limit c.if-bytes-gt-LIST_LIMIT.false)
      ∙ (sym c.loop-line.invariant.whole
      ∙ (ap (jobs_from (c.loop-line.number + 1) c.loop-line.read.jobs) c.in-Some.ensures.steps
      ∙ line-refused (c.loop-line.number + 1) c.loop-line.read.jobs c.in-Some.line.now c.next.new.self c.in-Err.why refused)))
]

pub loop-line-preserved : goal.loop-line-preserved
loop-line-preserved c =
    let rest : length c.loop-line.line-iterator ≡ suc (length c.next.new.self) = ap length c.in-Some.ensures.steps in
    record {
      whole = sym (line-read (c.loop-line.number + 1) c.loop-line.read.jobs c.add_line.new.self.jobs c.in-Some.line.now c.next.new.self c.in_default.ensures.jobs)
          ∙ (ap (jobs_from (c.loop-line.number + 1) c.loop-line.read.jobs) (sym c.in-Some.ensures.steps) ∙ c.loop-line.invariant.whole);
      numbers = omega (arith, rest, c.loop-line.invariant.numbers);
      outputs = c.in_default.ensures.outputs;
      each = c.in_default.ensures.each;
      few = c.in_default.ensures.few;
    }

pub returns-clause-jobs : goal.returns-clause-jobs
returns-clause-jobs c =
    within c.args.bytes.now (le-leb (length c.args.bytes.now) list_limit c.if-bytes-gt-LIST_LIMIT.false)
    ∙ (sym c.loop-line.invariant.whole
    ∙ (ap (jobs_from (c.loop-line.number + 1) c.loop-line.read.jobs) c.in-None.ensures.steps.0 ∙ lines-ended (c.loop-line.number + 1) c.loop-line.read.jobs))
