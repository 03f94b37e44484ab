use Rattle.std.proofs.Common.{◌∙◌, ◌+◌, sym, ap, map, drop}
use Rattle.search_path.specs.declared.asking.Visit.{Visit}
use Rattle.std.specs.Prelude.{List}
use Rattle.closure_fixpoint.specs.parts.Worklist.{with_visit, with_visits}
use Rattle.closure_fixpoint.proofs.WorklistLaws.{one_left, one_more}
use Rattle.closure_fixpoint.proofs.worklist.add_visits.Goals as goal

pub loop-file-preserved : goal.loop-file-preserved
loop-file-preserved c = record {
  left = ap (λ (found : List Visit). with_visits found (map (λ file. file.0) (drop (c.loop-file.file-index + 1) c.args.files.now))) c.in_ok-add.ensures.ok
      ∙ sym (one_left c.args.files.now c.loop-file.file-index c.file-item.result c.loop-file.found c.loop-file-test.true c.file-item.is)
      ∙ c.loop-file.invariant.left;
  so_far = c.in_ok-add.ensures.ok
      ∙ ap (λ (found : List Visit). with_visit found c.file-item.result.0) c.loop-file.invariant.so_far
      ∙ one_more c.args.files.now c.loop-file.file-index c.file-item.result c.args.found.now c.loop-file-test.true c.file-item.is;
}
