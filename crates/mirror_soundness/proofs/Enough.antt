-- Preprocessing over the tree of a job's entries is preprocessing over the whole tree.
use Rattle.std.proofs.Common.{◌≡◌, List, Option, Some, None, refl, sym, ap, subst}
use Rattle.base_types.specs.Members.{Member}
use Rattle.base_types.specs.Limits.{include_depth_limit}
use Rattle.tree_model.specs.Paths.{Path}
use Rattle.tree_model.specs.Trees.{tree_of}
use Rattle.tree_model.specs.Frame.{HoldsOfLocated, LeadsOfLocated}
use Rattle.tree_model.specs.Laws.{ListsMakeTrees, EntriesAreNodes, NodesAreEntries, TestsDecide, ParentsMakeTrees}
use Rattle.tree_model.specs.declared.walk.Located.{Located}
use Rattle.search_path.specs.Search.{Hit}
use Rattle.search_path.specs.Asks.{source_ask}
use Rattle.search_path.specs.Laws.{SearchesLocate, IsFoundInPart, IsFoundInNoPart}
use Rattle.search_path.specs.declared.asking.Visit.{Visit}
use Rattle.macro_expand.specs.Laws.{ChoiceFactHolds}
use Rattle.job_words.specs.JobOf.{JobData}
use Rattle.daemon_cpp.specs.Prep.{World, PrepStep, Go, Stop, prepared, run_job, prep, world_of}
use Rattle.sheet_build.specs.Laws.{PlacesLocate}
use Rattle.sheet_build.specs.Sheet.{SheetData, sheet_of}
use Rattle.closure_fixpoint.specs.Closure.{IsKnownSearch}
use Rattle.closure_fixpoint.specs.Laws.{ClosuresExist}
use Rattle.closure_fixpoint.specs.declared.job_analysis.Refusal.TheVariants.{Long, Presumed}
use Rattle.mirror_soundness.specs.Mirror.{MirrorIsEnough, TouchesNodesAlone, NothingHoldsAnalysed}
use Rattle.mirror_soundness.proofs.MadeTree.{at_itself, makes_tree_of, part_of_whole}
use Rattle.mirror_soundness.proofs.Kept.{Keeps}
use Rattle.mirror_soundness.proofs.Targets.{answers_by}
use Rattle.closure_fixpoint.proofs.Searched.{IsHome}
use Rattle.mirror_soundness.proofs.Alike.{OutlineHolds, Agree, job_step, job_alike, source_enters}
use Rattle.mirror_soundness.proofs.Worlds.{agrees_with_itself, agrees_with_entries}

-- the searches that succeeded up to a step
abbrev touched_in : PrepStep → List Located
touched_in (Go state) = state.touched
touched_in (Stop diagnostic state) = state.touched

prepared_touched : (step : PrepStep) → (prepared step).touched ≡ touched_in step
prepared_touched (Go state) = refl
prepared_touched (Stop diagnostic state) = refl

module _ (fact : ChoiceFactHolds) (outlines : OutlineHolds) (m g : World) (sheet : Visit → SheetData) (job : JobData) (visits : List Visit) (Home : Path → Type 0) (a : Agree m g sheet job visits Home) where
  -- the searches of both are the same for the source, so the jobs are
  same_prep : prep m job ≡ prep g job
  unfolding prep
  same_prep = subst (λ (got : Option Hit). run_job m job got ≡ run_job g job (g.find (source_ask job.source))) (sym source_same) (go (g.find (source_ask job.source)) refl)
    where
      source_same : m.find (source_ask job.source) ≡ g.find (source_ask job.source)
      source_same = a.finds (source_ask job.source) (λ hit is. (source_enters fact outlines m g sheet job visits Home a hit is).known)

      go : (got : Option Hit) → g.find (source_ask job.source) ≡ got → run_job m job got ≡ run_job g job got
      go None is = refl
      go (Some hit) is = ap prepared (job_alike fact outlines m g sheet job visits Home a include_depth_limit hit is).0

  kept_touched : (visit : Visit) (step : PrepStep) → Keeps (answers_by g sheet) job visits visit step → (l : Located) → Member l (touched_in step) → IsKnownSearch (answers_by g sheet) job visits l
  kept_touched visit (Go state) keeps = keeps.touched
  kept_touched visit (Stop diagnostic state) keeps = keeps

  -- each search that succeeds is known
  known_touched : (l : Located) → Member l (prep g job).touched → IsKnownSearch (answers_by g sheet) job visits l
  unfolding prep
  known_touched l = go (g.find (source_ask job.source)) refl
    where
      go : (got : Option Hit) → g.find (source_ask job.source) ≡ got → Member l (run_job g job got).touched → IsKnownSearch (answers_by g sheet) job visits l
      go None is n = elim n [ ]
      go (Some hit) is n =
          kept_touched hit.0 (job_step job g include_depth_limit hit) (job_alike fact outlines m g sheet job visits Home a include_depth_limit hit is).1 l
          (subst (λ (ls : List Located). Member l ls) (prepared_touched (job_step job g include_depth_limit hit)) n)

pub is_enough : ClosuresExist → PlacesLocate → ChoiceFactHolds → OutlineHolds → ListsMakeTrees → EntriesAreNodes → NodesAreEntries → TestsDecide → ParentsMakeTrees → IsFoundInPart → IsFoundInNoPart
    → HoldsOfLocated → LeadsOfLocated → SearchesLocate → MirrorIsEnough
is_enough exist places fact outlines lists nodes nodes_back tests made in_part in_no_part holds leads locates tree job entries whole are analysed =
    let closure = exist tree job whole in
    same_prep fact outlines (world_of (tree_of entries) job.setup) (world_of tree job.setup) (sheet_of tree job.setup) job closure.0 (IsHome tree)
    (agrees_with_entries holds locates places leads tree whole job closure.0 closure.1 analysed lists nodes in_part in_no_part entries are
    (makes_tree_of tests tree job entries whole are made) (part_of_whole tests tree job entries whole are nodes_back))

pub touches_nodes : ClosuresExist → PlacesLocate → ChoiceFactHolds → OutlineHolds → HoldsOfLocated → LeadsOfLocated → SearchesLocate → TouchesNodesAlone
touches_nodes exist places fact outlines holds leads locates tree job whole analysed located m path walked below =
    let closure = exist tree job whole in
    record {
      visits = closure.0;
      closure = closure.1;
      located = located;
      known = known_touched fact outlines (world_of tree job.setup) (world_of tree job.setup) (sheet_of tree job.setup) job closure.0 (IsHome tree)
          (agrees_with_itself holds locates places leads tree whole job closure.0 closure.1 analysed) located m;
      met = path;
      walked = walked;
      above = at_itself path;
      below_root = below;
    }

pub is_analysed : NothingHoldsAnalysed
is_analysed tree job budget nothing = record {
  short = λ visits closure long. nothing Long (record { visits = visits; closure = closure; met = long });
  told = λ visits closure presumed. nothing Presumed (record { visits = visits; closure = closure; met = presumed });
}
