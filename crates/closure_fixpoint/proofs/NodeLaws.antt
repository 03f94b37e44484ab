-- The nodes of what an analysis found are the nodes of its job.
use Rattle.std.proofs.Common.{ℕ, List, Bool}
use Rattle.std.specs.Prelude.{◌↔◌}
use Rattle.base_types.specs.Members.{Member, Within}
use Rattle.directive_scan.specs.declared.HeaderName.{HeaderName}
use Rattle.symbolic_expand.specs.Laws.{MoreKeepHeaders}
use Rattle.tree_model.specs.Paths.{Path}
use Rattle.tree_model.specs.Trees.{FileTree}
use Rattle.tree_model.specs.declared.walk.Located.{Located}
use Rattle.search_path.specs.declared.asking.Visit.{Visit}
use Rattle.job_words.specs.JobOf.{JobData}
use Rattle.closure_fixpoint.specs.Closure.{AnalysisAnswers, answers_of, IsClosureOf, IsKnownSearch, AtFirst, Included, Probed, ByMacros}
use Rattle.closure_fixpoint.specs.Analysis.{IsNodeOf}
use Rattle.closure_fixpoint.specs.Progress.{Heard, HeardIsTrueOf, located_told, DoneMeans}
use Rattle.closure_fixpoint.specs.Told.{AreNodesOf}
use Rattle.closure_fixpoint.proofs.LeadsLaws.{less_itself, may_find_more}

-- what is known of some visits is known of more
pub known_more : MoreKeepHeaders HeaderName → (answers : AnalysisAnswers) (job : JobData) (less more : List Visit) → Within less more → (l : Located) → IsKnownSearch answers job less l → IsKnownSearch answers job more l
known_more keep answers job less more within _ (AtFirst hit m) = AtFirst hit m
known_more keep answers job less more within _ (Included visit hit inside m) = Included visit hit (within visit inside) m
known_more keep answers job less more within _ (Probed visit l inside m) = Probed visit l (within visit inside) m
known_more keep answers job less more within _ (ByMacros visit c hit inside f) =
    ByMacros visit c hit (within visit inside) (may_find_more answers answers (less_itself answers) job less more within keep visit c hit f)

-- where an analysis over a tree is done, the nodes of the located files that it was told are the nodes of the job
pub nodes_of_done : MoreKeepHeaders HeaderName → (tree : FileTree) (is_large : Visit → Bool) (job : JobData) (budget : ℕ) (heard : Heard) (visits : List Visit) (nodes : List Path)
    → HeardIsTrueOf (answers_of tree job) is_large heard → DoneMeans job budget heard visits → AreNodesOf (located_told heard) nodes
    → (path : Path) → Member path nodes ↔ IsNodeOf tree job path
nodes_of_done keep tree is_large job budget heard visits nodes true_of done are path = (to_node, from_node)
  where
    closure : IsClosureOf tree job visits
    closure = done.closure (answers_of tree job) is_large true_of

    to_node : Member path nodes → IsNodeOf tree job path
    to_node m =
        let only = are.only path m in
        record {
          visits = visits;
          closure = closure;
          located = only.0;
          known = (done.located (answers_of tree job) is_large true_of only.0).1 only.2;
          met = only.1;
          walked = only.3;
          above = only.4;
          below_root = only.5;
        }

    from_node : IsNodeOf tree job path → Member path nodes
    from_node n =
        let within : Within n.visits visits = n.closure.least visits closure.closed in
        are.whole n.located n.met path
        ((done.located (answers_of tree job) is_large true_of n.located).0 (known_more keep (answers_of tree job) job n.visits visits within n.located n.known))
        n.walked n.above n.below_root
