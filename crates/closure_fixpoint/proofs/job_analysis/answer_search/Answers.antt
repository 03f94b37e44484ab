use Rattle.std.proofs.Common.{◌≡◌, ◌∙◌, ap}
use Rattle.tree_model.specs.Trees.{FileTree}
use Rattle.search_path.specs.Search.{search}
use Rattle.search_path.specs.SetupOf.{SetupData}
use Rattle.closure_fixpoint.proofs.ToldTrees.{told-clause}
use Rattle.closure_fixpoint.proofs.DrivingLaws.{put_found}
use Rattle.closure_fixpoint.proofs.job_analysis.answer_search.Goals as goal

pub returns-in-Ok-clause-told : goal.returns-in-Ok-clause-told
returns-in-Ok-clause-told g c told is budget include pending of_tree calm =
    put_found told c.args.job.now budget c.args.analysis.now c.put_search.new.self c.args.ask.now c.in-Ok.got of_tree (c.put_search.ensures.told c.args.ask.now include pending calm)
    (told-clause (g.T.Tree.told c.args.tree.now) told (λ (tree : FileTree). c.in-Ok.got ≡ search tree c.setup.result.now c.args.ask.now) c.in-Ok.ensures.found is
    ∙ ap (λ (setup : SetupData). search told setup c.args.ask.now) c.setup.ensures)
