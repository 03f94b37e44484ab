-- The answers that a tree remembers of another tree within it.
use Rattle.std.specs.Prelude.{◌≡◌, ◌⊎◌, ℕ, nat_eq, cond, List, Option, None, Some, refl}
use Rattle.std.specs.Hash.FoldHasher as folding
use Rattle.std.specs.HashMap.{HashMap, get}
use Rattle.std.specs.Coded.{Coded, Coded-set, code_by, coded⊎, coded×, coded_list, coded_option, coded_ℕ}
use base.Stored.{coded_unit}
use lib.Pointwise.{pointwise}
use Rattle.std.proofs.Common.{inl, inr}
use Rattle.std.proofs.Props.{props}
use Rattle.tree_model.specs.Paths.{Text, Path, is_same_path}
use Rattle.tree_model.specs.Reached.{reached}
use Rattle.tree_model.specs.declared.reached.Reached.{Reached}
use Rattle.tree_model.specs.declared.reached.Reached.TheVariants as reach
use Rattle.tree_model.specs.declared.reached.Walks.{Walks}
use Rattle.tree_model.specs.Trees.{FileTree, node_at, IsNode, NodeFits}
use Rattle.tree_model.specs.declared.entry.Node.{Node}
use Rattle.tree_model.specs.declared.entry.Node.TheVariants.{Dir, File, Link}

-- the answer that is remembered at each path, where there is one
abbrev pub RememberedNodes : Type 0
RememberedNodes = Path → Option (Option Node)

abbrev pub known_in : {S : Type 0} → HashMap Path (Option Node) S → RememberedNodes
known_in answers = get is_same_path answers

-- every answer is one that a tree may show, and where a tree is told, the one that it shows at the path
pub record IsTrueOf (told : Option FileTree) (known : RememberedNodes) : Type 0 where
  pub form : (path : Path) (got : Option Node) → known path ≡ Some got → IsNode got
  pub same : (path : Path) (got : Option Node) → known path ≡ Some got → (tree : FileTree) → told ≡ Some tree → got ≡ node_at tree path

-- a number of 64 bits that is made of a text's bytes
unfoldable pub number_of : Text → ℕ
number_of text = folding.finish (folding.write folding.initial text)

-- what is kept, where it is of this text
abbrev pub kept_of : Text → Option (Text × Reached) → Option Reached
kept_of text None = None
kept_of text (Some (known, it)) = cond (pointwise nat_eq known text) (Some it) None

-- what is remembered of the walk of a text, where there is something
abbrev pub walks_known : Walks → Text → Option Reached
walks_known walks text = kept_of text (get nat_eq walks.known (number_of text))

-- where a tree is told, it is what the walk reaches
pub record AreTrueWalks (told : Option FileTree) (known : Text → Option Reached) : Type 0 where
  pub same : (text : Text) (it : Reached) → known text ≡ Some it → (tree : FileTree) → told ≡ Some tree → it ≡ reached tree text

-- a code of nodes, by which two of them can be told apart
abbrev node_to : Node → Unit {0} ⊎ (Unit {0} ⊎ List ℕ)
node_to Dir = inl tt
node_to File = inr (inl tt)
node_to (Link text) = inr (inr text)

abbrev node_from : Unit {0} ⊎ (Unit {0} ⊎ List ℕ) → Node
node_from (inl _) = Dir
node_from (inr (inl _)) = File
node_from (inr (inr text)) = Link text

node_back : (node : Node) → node_from (node_to node) ≡ node
node_back Dir = refl
node_back File = refl
node_back (Link text) = refl

node_code : Coded Node
node_code =
    code_by (Unit {0} ⊎ (Unit {0} ⊎ List ℕ)) (coded⊎ coded_unit (coded⊎ coded_unit (coded_list coded_ℕ))) node_to node_from node_back

fits-prop : (node : Node) → IsProp (NodeFits node)
fits-prop Dir = hlevel props
fits-prop File = hlevel props
fits-prop (Link text) = hlevel props

is_node-prop : (got : Option Node) → IsProp (IsNode got)
is_node-prop None = hlevel props
is_node-prop (Some node) = fits-prop node

pub IsTrueOf-prop : (told : Option FileTree) (known : RememberedNodes) → IsProp (IsTrueOf told known)
IsTrueOf-prop told known = hlevel (props, Coded-set (coded_option node_code), is_node-prop)

-- a code of what was reached
abbrev reached_to : Reached → Unit {0} ⊎ (Path × (List Path × ℕ))
reached_to reach.Nowhere = inl tt
reached_to (reach.Dir path nodes links) = inr (path, (nodes, links))

abbrev reached_from : Unit {0} ⊎ (Path × (List Path × ℕ)) → Reached
reached_from (inl _) = reach.Nowhere
reached_from (inr (path, (nodes, links))) = reach.Dir path nodes links

reached_back : (it : Reached) → reached_from (reached_to it) ≡ it
reached_back reach.Nowhere = refl
reached_back (reach.Dir path nodes links) = refl

reached_code : Coded Reached
reached_code =
    code_by (Unit {0} ⊎ (Path × (List Path × ℕ))) (coded⊎ coded_unit (coded× (coded_list (coded_list coded_ℕ)) (coded× (coded_list (coded_list (coded_list coded_ℕ))) coded_ℕ))) reached_to reached_from reached_back

pub AreTrueWalks-prop : (told : Option FileTree) (known : Text → Option Reached) → IsProp (AreTrueWalks told known)
AreTrueWalks-prop told known = hlevel (props, Coded-set reached_code)
