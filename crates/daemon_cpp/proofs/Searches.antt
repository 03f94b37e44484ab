-- What was searched in the told tree.
use Rattle.std.proofs.Common.{◌≡◌, Option, None, Some, sym, ◌∙◌, ap}
use Rattle.std.specs.Prelude.{IfSome}
use Rattle.tree_model.specs.Trees.{FileTree}
use Rattle.search_path.specs.SetupOf.{SetupData}
use Rattle.search_path.specs.Search.{Hit, search}
use Rattle.search_path.specs.declared.asking.Ask.{Ask}
use Rattle.daemon_cpp.specs.Prep.{world_of}

pub searched : (o : Option FileTree) (told : FileTree) (setup : SetupData) (ask : Ask) (hit : Option Hit) → IfSome o (λ tree. hit ≡ search tree setup ask) → o ≡ Some told → (world_of told setup).find ask ≡ hit
searched None told setup ask hit found is = absurd (cc)
searched (Some tree) told setup ask hit found is =
    let one : tree ≡ told = cc in
    sym (found ∙ ap (λ (t : FileTree). search t setup ask) one)
