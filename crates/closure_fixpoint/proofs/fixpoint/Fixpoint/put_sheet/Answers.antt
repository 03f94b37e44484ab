use Rattle.std.proofs.Common.{subst}
use Rattle.sheet_build.specs.Sheet.{SheetData}
use Rattle.closure_fixpoint.specs.Told.{PutsSheet}
use Rattle.closure_fixpoint.proofs.fixpoint.Fixpoint.put_sheet.Goals as goal

pub returns : goal.returns
returns c = record {
  told = λ visit pending calm.
      subst (λ (sheet : SheetData). PutsSheet c.args.self.now visit sheet c.put_unweighed.new.self) c.unweighed.ensures
      (c.put_unweighed.ensures.told visit pending calm);
}
