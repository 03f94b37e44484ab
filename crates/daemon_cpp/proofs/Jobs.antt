-- What is told of a job from its parts.
use Rattle.std.proofs.Common.{◌≡◌, ◌<◌, ◌≤◌, List, [], length, Option, None, Some, Result, Ok, Err, refl, sym, ◌∙◌, ap}
use Rattle.std.specs.Prelude.{IfOk, IfSome}
use Rattle.std.specs.Option.{ForSome}
use Rattle.base_types.specs.Limits.{include_depth_limit, text_limit}
use Rattle.cpp_output.specs.Laid.{begun}
use Rattle.tree_model.specs.Paths.{Text, spelled}
use Rattle.tree_model.specs.Shown.{presumed_name}
use Rattle.tree_model.specs.Trees.{FileTree}
use Rattle.search_path.specs.SetupOf.{SetupData, absolute}
use Rattle.search_path.specs.Asks.{source_ask}
use Rattle.search_path.specs.Search.{Hit}
use Rattle.search_path.specs.declared.asking.Ask.{Ask}
use Rattle.job_words.specs.JobOf.{JobData}
use Rattle.job_words.specs.declared.MacroWord.{MacroWord}
use Rattle.daemon_cpp.specs.declared.outcome.Outcome.TheVariants as outcome
use Rattle.daemon_cpp.specs.declared.cpp.Reader.{Reader}
use Rattle.daemon_cpp.specs.Diagnostics.{NoSource, TextLimit, diagnostic_text}
use Rattle.daemon_cpp.specs.Prep.{World, PrepStep, world_of, and_then, first_state, run_forced, enter_file, open_source, run_job, prep, outcome_over}
use Rattle.daemon_cpp.specs.parts.KnownTexts.{KnowsTexts}
use Rattle.daemon_cpp.specs.parts.Files.{IsShown, ComesTo, told_of, source_behind, source_told}
use Rattle.daemon_cpp.proofs.Limits.{within, past}

-- all files of a job, behind a step
abbrev whole : World → List Text → Hit → PrepStep → PrepStep
whole world names source step = and_then (λ state. open_source world source state) (and_then (λ state. run_forced world (enter_file world include_depth_limit) names state) step)

-- a source behind its first marker, and one whose first marker doesn't fit
pub begins-told : (world : World) (macros : List MacroWord) (source : Hit) (names : List Text) (reader : Reader) → length (begun (presumed_name source.0.place)).text ≤ text_limit →
    IsShown reader (first_state macros source) → KnowsTexts world reader.lexed → ComesTo world (source_behind world source names) reader (source_told world macros source names)
unfolding run_forced begun
begins-told world macros source names reader short shows knows = record {
  state = first_state macros source;
  shows = shows;
  knows = knows;
  same = sym (ap (λ (step : PrepStep). told_of (whole world names source step)) (within (first_state macros source) short));
}

pub source-full : (world : World) (macros : List MacroWord) (source : Hit) (names : List Text) → text_limit < length (begun (presumed_name source.0.place)).text →
    record { outcome = outcome.Diag (diagnostic_text (record { place = spelled source.0.place; at = 0; complaint = TextLimit })); opened = [] } ≡ source_told world macros source names
unfolding begun
source-full world macros source names full =
    sym (ap (λ (step : PrepStep). told_of (whole world names source step)) (past (first_state macros source) full))

-- a job whose source was searched
prep-is : (world : World) (job : JobData) (o : Option Hit) → o ≡ world.find (source_ask job.source) → (run_job world job o).outcome ≡ (prep world job).outcome
unfolding prep
prep-is world job o is = ap (λ (found : Option Hit). (run_job world job found).outcome) is

pub job-found : (told : FileTree) (job : JobData) (setup : SetupData) (ask : Ask) (source : Hit) → (world_of told setup).find ask ≡ Some source → setup ≡ job.setup → ask ≡ source_ask job.source →
    (source_told (world_of told job.setup) job.macros source job.forced).outcome ≡ outcome_over told job
job-found told job setup ask source found said asked =
    prep-is (world_of told job.setup) job (Some source)
    (sym found ∙ ap (λ (s : SetupData). (world_of told s).find ask) said ∙ ap (λ (a : Ask). (world_of told job.setup).find a) asked)

pub job-not_found : (told : FileTree) (job : JobData) (setup : SetupData) (ask : Ask) → (world_of told setup).find ask ≡ None → setup ≡ job.setup → ask ≡ source_ask job.source →
    outcome.Diag (diagnostic_text (record { place = absolute job.setup.cwd job.source; at = 0; complaint = NoSource })) ≡ outcome_over told job
job-not_found told job setup ask found said asked =
    prep-is (world_of told job.setup) job None
    (sym found ∙ ap (λ (s : SetupData). (world_of told s).find ask) said ∙ ap (λ (a : Ask). (world_of told job.setup).find a) asked)

-- a fact of the told tree, and one of it and an answer, in the other order
pub at_told : (o : Option FileTree) (P : FileTree → Type 0) → ForSome o P → IfSome o P
at_told None P all = tt
at_told (Some told) P all = all told refl

pub for_told : {A E : Type 0} (r : Result A E) (o : Option FileTree) (P : FileTree → A → Type 0) → ForSome o (λ told. IfOk r (λ x. P told x)) → IfOk r (λ x. IfSome o (λ told. P told x))
for_told (Err e) o P all = tt
for_told (Ok x) None P all = tt
for_told (Ok x) (Some told) P all = all told refl
