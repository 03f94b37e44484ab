use Rattle.std.proofs.Common.{◌+◌, List, map, refl, sym, ap, ◌∙◌, subst}
use Rattle.macro_defs.specs.Defining.{Named}
use Rattle.search_path.specs.declared.asking.Visit.{Visit}
use Rattle.sheet_build.specs.Sheet.{SheetData, named_pair}
use Rattle.closure_fixpoint.specs.Naming.{Grew}
use Rattle.closure_fixpoint.proofs.NamesLaws.{follows_next, up_to_date}
use Rattle.closure_fixpoint.proofs.naming.catch_up.Goals as goal

pub loop-naming-preserved : goal.loop-naming-preserved
loop-naming-preserved c = record {
  follows =
      follows_next c.loop-naming.naming
      (record { begun = c.loop-naming.naming.begun; told = c.loop-naming.naming.told + 1; grown = c.add_all.new.self; kept = c.loop-naming.naming.kept; rest = c.loop-naming.naming.rest })
      c.args.job.now c.args.sheets.now c.index-sheets-naming.result c.loop-naming-test.true c.index-sheets-naming.is c.loop-naming.invariant.follows c.loop-naming.invariant.begun
      (subst (λ (t : Visit × SheetData). Grew c.loop-naming.naming.grown t.1.defs c.add_all.new.self) (sym c.index-sheets-naming.is)
      (subst (λ (l : List Named). Grew c.loop-naming.naming.grown l c.add_all.new.self) (ap (λ defs. map named_pair defs) c.as_slice.ensures ∙ c.in_ok-defs.ensures) c.in_ok-add_all.ensures)) refl c.loop-naming.invariant.begun refl refl;
  begun = c.loop-naming.invariant.begun;
}

pub returns : goal.returns
returns c = up_to_date c.loop-naming.naming c.args.job.now c.args.sheets.now c.loop-naming.invariant.follows c.loop-naming.invariant.begun c.loop-naming-test.false
