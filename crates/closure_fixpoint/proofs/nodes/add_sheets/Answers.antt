use Rattle.std.proofs.Common.{◌<◌, ◌++◌, List, length, ◌∙◌, ap, arith}
use Rattle.tree_model.specs.declared.walk.Located.{Located}
use Rattle.search_path.specs.Search.{Hit}
use Rattle.search_path.specs.declared.asking.Visit.{Visit}
use Rattle.sheet_build.specs.Sheet.{SheetData}
use Rattle.macro_defs.proofs.Fronts.{front_at}
use Rattle.closure_fixpoint.specs.Gathering as gathering
use Rattle.closure_fixpoint.specs.Gathering.{hits_walked, sheets_walked}
use Rattle.closure_fixpoint.specs.parts.Walked.{with_paths}
use Rattle.closure_fixpoint.proofs.WalkedLaws.{walks-on, in-two-parts}
use Rattle.closure_fixpoint.proofs.nodes.add_sheets.Goals as goal

pub loop-told-preserved : goal.loop-told-preserved
loop-told-preserved c =
    let below : c.loop-told.told-index < length c.args.sheets.now = omega arith in
    walks-on (λ (sheets : List (Visit × SheetData)). sheets_walked sheets) (hits_walked c.told-item.result.1.plain ++ gathering.walked_of c.told-item.result.1.probes)
    c.args.sheets.now c.loop-told.told-index c.loop-told.walked c.add_files.new.walked (with_paths c.args.walked.now (sheets_walked c.args.sheets.now))
    (ap (λ (sheets : List (Visit × SheetData)). sheets_walked sheets) (front_at c.args.sheets.now c.loop-told.told-index c.told-item.result below c.told-item.is))
    c.loop-told.invariant
    (in-two-parts c.loop-told.walked c.add_hits.new.walked c.add_files.new.walked (hits_walked c.told-item.result.1.plain) (gathering.walked_of c.told-item.result.1.probes)
    (c.in_ok-add_hits.ensures ∙ ap (λ (hits : List Hit). with_paths c.loop-told.walked (hits_walked hits)) c.plain.ensures)
    (c.in_ok-add_files.ensures ∙ ap (λ (files : List Located). with_paths c.add_hits.new.walked (gathering.walked_of files)) c.probes.ensures))
