-- The entries of a job make a tree, which is a part of the whole tree.
use Rattle.std.proofs.Common.{◌≡◌, ◌⊎◌, ◌∷◌, [], Bool, true, nat_eq, Option, Some, IsSome, IsTrue, inl, inr, refl, sym, ap, subst, ◌∙◌}
use Rattle.std.proofs.lemmas.Bool.{and_from}
use lib.Pointwise.{pointwise}
use Rattle.base_types.specs.Members.{Member}
use Rattle.tree_model.specs.Paths.{Text, Path, spelled, is_canonical, IsAtOrAbove}
use Rattle.tree_model.specs.Entries.{Entries, has_parent, is_dir_at, entry_fits, is_link_text, makes_tree}
use Rattle.tree_model.specs.Trees.{FileTree, IsTree, Sub, tree_of, entry_at}
use Rattle.tree_model.specs.Laws.{NodesAreEntries, TestsDecide, ParentsMakeTrees}
use Rattle.tree_model.specs.declared.entry.Entry.{Entry}
use Rattle.tree_model.specs.declared.entry.Entry.TheVariants.{Dir, File, Link}
use Rattle.tree_model.proofs.MemberLemmas.{list_any-true}
use Rattle.tree_model.proofs.PathLemmas.{text_itself}
use Rattle.job_words.specs.declared.job.Job.{Job}
use Rattle.closure_fixpoint.specs.Analysis.{AreEntriesOf, IsNodeOf}
use Rattle.closure_fixpoint.proofs.GatherLaws.{all-test}
use Rattle.closure_fixpoint.proofs.AnalysisLaws.{up-above}

-- a path is at or above itself
pub at_itself : (path : Path) → IsAtOrAbove path path
at_itself [] = refl
at_itself (name ∷ path) = inl refl

-- the parent of a node that isn't below the root alone is a node
parent_is_node : (tree : FileTree) (job : Job) (name outer : Text) (up : Path) → IsNodeOf tree job (name ∷ outer ∷ up) → IsNodeOf tree job (outer ∷ up)
parent_is_node tree job name outer up node = record {
  visits = node.visits;
  closure = node.closure;
  located = node.located;
  known = node.known;
  met = node.met;
  walked = node.walked;
  above = up-above name (outer ∷ up) node.met node.above;
  below_root = λ e. cc;
}

true_is : (b : Bool) → IsTrue b → b ≡ true
true_is b t = t

module _ (tests : TestsDecide) (tree : FileTree) (job : Job) (entries : Entries) (whole : IsTree tree) (are : AreEntriesOf tree job entries) where
  there : (path : Path) (entry : Entry) → Member (path, entry) entries → IsSome (entry_at tree path)
  there path entry m = let P : Option Entry → Type 0 = IsSome in subst P (sym (are.same path entry m)) refl

  canonical_each : (e : Path × Entry) → Member e entries → is_canonical e.0 ≡ true
  canonical_each (path, entry) m = true_is (is_canonical path) ((tests path).1 (whole.canonical path (there path entry m)))

  fits_each : (path : Path) (entry : Entry) → Member (path, entry) entries → entry_fits entry ≡ true
  fits_each path Dir m = refl
  fits_each path (File body) m = refl
  fits_each path (Link text) m = true_is (is_link_text text) (whole.links path text (are.same path (Link text) m))

  -- what stands at the parent of a node is a directory, and an entry
  dir_entry : (name outer : Text) (up : Path) (entry : Entry) → Member (name ∷ outer ∷ up, entry) entries → Member (outer ∷ up, Dir) entries
  dir_entry name outer up entry m =
      let node : IsNodeOf tree job (outer ∷ up) = parent_is_node tree job name outer up (are.nodes (name ∷ outer ∷ up) entry m) in
      let found = are.whole (outer ∷ up) node in
      let is_dir_there : entry_at tree (outer ∷ up) ≡ Some Dir = whole.parent name (outer ∷ up) (there (name ∷ outer ∷ up) entry m) in
      let same : found.0 ≡ Dir = some_same (found.0) Dir (sym (are.same (outer ∷ up) found.0 found.1) ∙ is_dir_there) in
      subst (λ (e : Entry). Member (outer ∷ up, e) entries) same found.1
    where
      some_same : (a b : Entry) → Some a ≡ Some b → a ≡ b
      some_same a b e = cc

  parent_each : (path : Path) (entry : Entry) → Member (path, entry) entries → has_parent entries path ≡ true
  parent_each [] entry m = absurd ((are.nodes [] entry m).below_root refl)
  parent_each (name ∷ []) entry m = refl
  parent_each (name ∷ outer ∷ up) entry m =
      list_any-true (is_dir_at (spelled (outer ∷ up))) (outer ∷ up, Dir) entries (dir_entry name outer up entry m)
      (and_from (pointwise nat_eq (spelled (outer ∷ up)) (spelled (outer ∷ up))) true (text_itself (spelled (outer ∷ up))) refl)

  pub makes_tree_of : ParentsMakeTrees → IsTrue (makes_tree entries)
  makes_tree_of made =
      made entries are.increasing
      (all-test (λ (e : Path × Entry). has_parent entries e.0) entries (λ e m. parent_each e.0 e.1 m))
      (all-test (λ (e : Path × Entry). is_canonical e.0) entries canonical_each)
      (all-test (λ (e : Path × Entry). entry_fits e.1) entries (λ e m. fits_each e.0 e.1 m))

  pub part_of_whole : NodesAreEntries → Sub (tree_of entries) tree
  part_of_whole nodes path entry e = by_case (nodes entries path entry e)
    where
      by_case : ((path ≡ []) × (entry ≡ Dir)) ⊎ Member (path, entry) entries → entry_at tree path ≡ Some entry
      by_case (inl (at_root, is_dir_here)) = ap (entry_at tree) at_root ∙ whole.root ∙ ap Some (sym is_dir_here)
      by_case (inr m) = are.same path entry m
