-- The bytes of files that an analysis read, after one more and one fewer.
use Rattle.std.proofs.Common.{◌≡◌, ◌≤◌, ◌<◌, ◌+◌, ◌⊎◌, ℕ, inl, inr, sym, ◌∙◌, ap, subst, cond, Bool, true, false, List, [], length, take, get_or, Option, None, Some, Ok, refl}
use Rattle.std.specs.Prelude.{unwrap_or}
use Rattle.std.specs.Option.{option_map, ForSome}
use Rattle.std.specs.HashMap.{HashMap, Updates, get}
use Rattle.base_types.specs.Limits.{body_limit}
use Rattle.base_types.specs.Members.{Member}
use Rattle.tree_model.specs.Paths.{Text, Path, is_same_path, is_same_path-Decides}
use Rattle.tree_model.specs.Bodies.{body_at_path}
use Rattle.tree_model.specs.Trees.{FileTree, entry_at, entry_body, node_at, node_of_entry}
use Rattle.tree_model.specs.declared.entry.Entry.{Entry}
use Rattle.tree_model.specs.declared.entry.Entry.TheVariants.{Dir, File, Link}
use Rattle.tree_model.specs.declared.entry.Node.TheVariants as node
use Rattle.tree_model.proofs.RememberedLemmas.{OneMore, one_more}
use Rattle.closure_fixpoint.specs.Gathering.{comes_before, are_rising}
use Rattle.closure_fixpoint.specs.parts.Bodies.{AreBodiesOf, TakesAt}
use Rattle.closure_fixpoint.proofs.Orders.{in_order}
use Rattle.closure_fixpoint.proofs.GatherLaws.{rising-at, so-far-within, at-hand}

-- ONE MORE

with_one_more : (told : Option FileTree) (before now : Path → Option Text) (path : Path) (body : Text) → OneMore before now path body → length body ≤ body_limit
    → ForSome told (λ tree. body ≡ body_at_path tree path) → AreBodiesOf told before → AreBodiesOf told now
with_one_more told before now path body more small right are = record {
  small = λ other answer found. is_small other answer (more other answer found);
  same = λ other answer found tree is. is_same other answer tree is (more other answer found);
}
  where
    is_small : (other : Path) (answer : Text) → (before other ≡ Some answer) ⊎ ((other ≡ path) × (answer ≡ body)) → length answer ≤ body_limit
    is_small other answer (inl old) = are.small other answer old
    is_small other answer (inr (at, new)) = subst (λ (b : Text). length b ≤ body_limit) (sym new) small

    is_same : (other : Path) (answer : Text) (tree : FileTree) → told ≡ Some tree → (before other ≡ Some answer) ⊎ ((other ≡ path) × (answer ≡ body)) → answer ≡ body_at_path tree other
    is_same other answer tree is (inl old) = are.same other answer old tree is
    is_same other answer tree is (inr (at, new)) = new ∙ right tree is ∙ ap (body_at_path tree) (sym at)

pub put_known : {S : Type 0} (told : Option FileTree) (before now : HashMap Path Text S) (path : Path) (body : Text) → Updates is_same_path before now path (Some body) → length body ≤ body_limit
    → ForSome told (λ tree. body ≡ body_at_path tree path) → AreBodiesOf told (get is_same_path before) → AreBodiesOf told (get is_same_path now)
put_known told before now path body put small right are =
    with_one_more told (get is_same_path before) (get is_same_path now) path body
    (one_more is_same_path is_same_path-Decides {W = Unit {0}} {E = Unit {0}} before now path path body body (Ok tt) refl refl put tt) small right are

-- ONE FEWER

-- what a map's removal leaves
pub removed : (path : Path) (before now : Path → Option Text) → ((other : Path) → now other ≡ cond (is_same_path path other) None (before other)) → TakesAt path before now
removed path before now gone other = by_test (is_same_path path other) refl (gone other)
  where
    by_test : (t : Bool) → is_same_path path other ≡ t → now other ≡ cond t None (before other) → (now other ≡ before other) ⊎ ((other ≡ path) × (now other ≡ None))
    by_test true is none = inr (sym ((is_same_path-Decides path other).0 is), none)
    by_test false is same = inl same

pub takes_none : (path : Path) (known : Path → Option Text) → TakesAt path known known
takes_none path known other = inl refl

-- what is known then was known before
pub still_bodies : (told : Option FileTree) (path : Path) (before now : Path → Option Text) → TakesAt path before now → AreBodiesOf told before → AreBodiesOf told now
still_bodies told path before now takes are = record {
  small = λ other body found. are.small other body (was other body (takes other) found);
  same = λ other body found. are.same other body (was other body (takes other) found);
}
  where
    was : (other : Path) (body : Text) → (now other ≡ before other) ⊎ ((other ≡ path) × (now other ≡ None)) → now other ≡ Some body → before other ≡ Some body
    was other body (inl same) found = sym same ∙ found
    was other body (inr (at, none)) found = let wrong : None ≡ Some body = sym none ∙ found in absurd (cc)

-- the same of a tree that is told so
pub bodies_told : (one other : Option FileTree) (known : Path → Option Text) → one ≡ other → AreBodiesOf other known → AreBodiesOf one known
bodies_told one other known same are = subst (λ (o : Option FileTree). AreBodiesOf o known) (sym same) are

-- PATHS IN ORDER

-- those behind the one at hand are left
pub left_next : (nodes : List Path) (i : ℕ) (q : Path) (first before now : Path → Option Text) → i < length nodes → q ≡ get_or nodes i q → TakesAt q before now
    → ((path : Path) → (before path ≡ first path) ⊎ Member path (take i nodes)) → (path : Path) → (now path ≡ first path) ⊎ Member path (take (i + 1) nodes)
left_next nodes i q first before now below is takes left path = by_both (takes path) (left path)
  where
    by_both : (now path ≡ before path) ⊎ ((path ≡ q) × (now path ≡ None)) → (before path ≡ first path) ⊎ Member path (take i nodes) → (now path ≡ first path) ⊎ Member path (take (i + 1) nodes)
    by_both taken (inr m) = inr (so-far-within nodes i path m)
    by_both (inl same) (inl old) = inl (same ∙ old)
    by_both (inr (at, none)) (inl old) = inr (subst (λ (p : Path). Member p (take (i + 1) nodes)) (sym at) (at-hand nodes i q below is))

-- and so is the one at hand
pub left_here : (nodes : List Path) (i : ℕ) (q : Path) (first now : Path → Option Text) → i < length nodes → q ≡ get_or nodes i q → are_rising nodes ≡ true
    → ((path : Path) → (now path ≡ first path) ⊎ Member path (take i nodes)) → first q ≡ now q
left_here nodes i q first now below is up left = by_left (left q)
  where
    by_left : (now q ≡ first q) ⊎ Member q (take i nodes) → first q ≡ now q
    by_left (inl same) = sym same
    by_left (inr m) =
        let here : comes_before q q ≡ true = rising-at nodes i q below is up q m in
        let wrong : true ≡ false = sym here ∙ in_order.one_way q q here in absurd (cc)

-- ENTRIES

-- known bytes are a file's entry
pub body_entry : (tree : FileTree) (path : Path) (body : Text) → node_at tree path ≡ Some node.File → body ≡ body_at_path tree path → Some (File body) ≡ entry_at tree path
body_entry tree path body = by_entry (entry_at tree path)
  where
    by_entry : (o : Option Entry) → option_map node_of_entry o ≡ Some node.File → body ≡ unwrap_or (entry_body o) [] → Some (File body) ≡ o
    by_entry None there same = absurd (cc)
    by_entry (Some Dir) there same = absurd (cc)
    by_entry (Some (File other)) there same = ap (λ (b : Text). Some (File b)) same
    by_entry (Some (Link text)) there same = absurd (cc)
