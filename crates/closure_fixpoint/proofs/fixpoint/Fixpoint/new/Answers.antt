use Rattle.std.proofs.Common.{List, [], Option, None, false, sym, subst}
use Rattle.search_path.specs.Search.{Hit}
use Rattle.search_path.specs.declared.asking.Visit.{Visit}
use Rattle.search_path.specs.declared.asking.Ask.{Ask}
use Rattle.sheet_build.specs.Sheet.{SheetData}
use Rattle.closure_fixpoint.specs.Told.{NothingAsked, Progress, StandsBy}
use Rattle.closure_fixpoint.proofs.StandsLaws.{by_nothing}
use Rattle.closure_fixpoint.proofs.fixpoint.Fixpoint.new.Goals as goal

pub invariant_of-result : goal.invariant_of-result
invariant_of-result c =
    let at : List (Ask × Option Hit) → List (Visit × SheetData) → List Visit → Progress = λ searches sheets found. record {
      job = c.in_ok-copy.field-0;
      budget = c.args.budget;
      heard = record { searches = searches; sheets = sheets; large = None };
      found = found;
      pending = NothingAsked;
      ended = None;
      broken = false;
    } in
    subst (λ (l : List (Ask × Option Hit)). StandsBy c.new-4.result (at l c.new-2.result.items c.new-3.result)) (sym c.new.ensures)
    (subst (λ (l : List (Visit × SheetData)). StandsBy c.new-4.result (at [] l c.new-3.result)) (sym c.new-2.ensures.items)
    (subst (λ (l : List Visit). StandsBy c.new-4.result (at [] [] l)) (sym c.new-3.ensures)
    (by_nothing c.new-4.result c.in_ok-copy.field-0 c.args.budget (c.new-4.ensures c.in_ok-copy.field-0))))
