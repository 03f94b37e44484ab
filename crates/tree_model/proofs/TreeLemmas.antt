-- The tree of a list of entries: what is found in it by names and by bytes, and that it is a tree.
use Rattle.std.proofs.Common.{◌≡◌, [], ◌∷◌, refl, sym, ◌∙◌, ap, subst, cond, true, false, Bool, Option, Some, None, inl, inr, ◌⊎◌, IsSome, lit≤, length, ◌≤◌}
use Rattle.std.specs.Prelude.{nat_eq}
use Rattle.std.specs.List.{list_all}
use Rattle.std.specs.Ordering.{eq_by_cmp, is_eq}
use Rattle.std.specs.Cmp.{IsTotalOrder, both_ways, Equal-is}
use Rattle.std.specs.FinMap.{get, from_entries, get-empty, get-insert, get-from_entries, slice_cmp-IsAntisymmetric, nat_cmp-IsAntisymmetric}
use Rattle.std.specs.FinMap.Entries.{find}
use Rattle.std.proofs.lemmas.Bool.{and_parts, and_from, leb-true}
use Rattle.std.proofs.lemmas.Cmp.{nat_list_cmp_total, lists_total, tied_itself}
use lib.Pointwise.{pointwise}
use Rattle.base_types.specs.Members.{Member}
use Rattle.tree_model.specs.Paths.{Text, Path, spelled, is_canonical, IsCanonical}
use Rattle.tree_model.specs.Entries.{Entries, is_dir, has_parent, parents_stand, is_increasing, below, makes_tree, entry_fits, links_fit, body_fits, bodies_fit, IsLinkText, mirror_error}
use Rattle.base_types.specs.Limits.{body_limit}
use Rattle.tree_model.specs.Trees.{path_cmp, tree_of, entry_at, by_bytes, entry_body, BodiesAreSmall, IsTree}
use Rattle.tree_model.specs.declared.mem_tree.MirrorError.TheVariants as why
use Rattle.tree_model.specs.declared.entry.Entry.{Entry}
use Rattle.tree_model.specs.declared.entry.Entry.TheVariants.{Dir, File, Link}
use Rattle.tree_model.proofs.PathLemmas.{spelled-same, text_same, text_itself, canonical_from_test, test_from_canonical, parent-canonical}
use Rattle.tree_model.proofs.OrderLemmas.{is_dir_there, dir_there, parents_found, below_apart}

names_total : IsTotalOrder path_cmp
names_total = lists_total nat_list_cmp_total

path_same : (p q : Path) → is_eq (path_cmp p q) ≡ true → p ≡ q
path_same p q h = slice_cmp-IsAntisymmetric (slice_cmp-IsAntisymmetric nat_cmp-IsAntisymmetric) p q ((Equal-is (path_cmp p q)).0 h)

-- BY NAMES

picked : (b : Bool) (q : Path) (p : Path × Entry) (es : Entries) (entry : Entry) → (b ≡ true → q ≡ p.0) → (find path_cmp q es ≡ Some entry → Member (q, entry) es) → cond b (Some p.1) (find path_cmp q es) ≡ Some entry → Member (q, entry) (p ∷ es)
picked true q p es entry same rest h =
    let value : p.1 ≡ entry = cc in
    let key : q ≡ p.0 = same refl in
    inl (λ i. (sym key i, value i))
picked false q p es entry same rest h = inr (rest h)

-- what is found by names is an entry
found-member : (es : Entries) (q : Path) (entry : Entry) → find path_cmp q es ≡ Some entry → Member (q, entry) es
found-member [] q entry h = absurd (cc)
found-member (p ∷ es) q entry h = picked (eq_by_cmp path_cmp q p.0) q p es entry (path_same q p.0) (found-member es q entry) h

all_member : (test : Path × Entry → Bool) (es : Entries) (e : Path × Entry) → list_all test es ≡ true → Member e es → test e ≡ true
all_member test [] e h m = elim m [ ]
all_member test (f ∷ es) e h (inl is) = ap test (sym is) ∙ (and_parts (test f) (list_all test es) h).0
all_member test (f ∷ es) e h (inr m) = all_member test es e (and_parts (test f) (list_all test es) h).1 m

-- BY BYTES

same_path : (p q : Path) → IsCanonical p → IsCanonical q → eq_by_cmp path_cmp p q ≡ pointwise nat_eq (spelled q) (spelled p)
same_path p q cp cq =
    both_ways (eq_by_cmp path_cmp p q) (pointwise nat_eq (spelled q) (spelled p))
    (λ h. let same : p ≡ q = path_same p q h in subst (λ (x : Path). pointwise nat_eq (spelled x) (spelled p) ≡ true) same (text_itself (spelled p)))
    (λ h. let same : q ≡ p = spelled-same q p cq cp (text_same (spelled q) (spelled p) h) in
    subst (λ (x : Path). eq_by_cmp path_cmp p x ≡ true) (sym same) (ap is_eq (tied_itself names_total p)))

-- looking a path up by its spelling is looking it up by its names
pub looked_up : (es : Entries) (path : Path) → list_all (λ e. is_canonical e.0) es ≡ true → IsCanonical path → get (from_entries {R = path_cmp} es) path ≡ by_bytes (spelled path) es
looked_up [] path h c = get-empty path_cmp path
looked_up (e ∷ es) path h c =
    let pair = and_parts (is_canonical e.0) (list_all (λ f. is_canonical f.0) es) h in
    get-insert {R = path_cmp} names_total (from_entries es) e.0 e.1 path
    ∙ ap (λ (b : Bool). cond b (Some e.1) (get (from_entries {R = path_cmp} es) path)) (same_path path e.0 c (canonical_from_test e.0 pair.0))
    ∙ ap (λ (o : Option Entry). cond (pointwise nat_eq (spelled e.0) (spelled path)) (Some e.1) o) (looked_up es path pair.1 c)

-- an entry is found by its spelling, where the paths increase
member-found : (es : Entries) (path : Path) (entry : Entry) → is_increasing es ≡ true → Member (path, entry) es → by_bytes (spelled path) es ≡ Some entry
member-found [] path entry inc m = elim m [ ]
member-found (e ∷ es) path entry inc (inl is) =
    let key : pointwise nat_eq (spelled e.0) (spelled path) ≡ true = ap (λ (x : Path × Entry). pointwise nat_eq (spelled x.0) (spelled path)) is ∙ text_itself (spelled path) in
    rw key (ap (λ (x : Path × Entry). Some x.1) is)
member-found (e ∷ es) path entry inc (inr m) =
    let pair = and_parts (list_all (λ f. below (spelled e.0) (spelled f.0)) es) (is_increasing es) inc in
    let before : below (spelled e.0) (spelled path) ≡ true = all_member (λ f. below (spelled e.0) (spelled f.0)) es (path, entry) pair.0 m in
    rw (below_apart (spelled e.0) (spelled path) before) (member-found es path entry pair.1 m)

-- IN THE TREE

-- what a list that makes a tree meets
record Made (es : Entries) : Type 0 where
  increasing : is_increasing es ≡ true
  parents : list_all (λ e. has_parent es e.0) es ≡ true
  canonical : list_all (λ e. is_canonical e.0) es ≡ true
  links : links_fit es ≡ true

made : (es : Entries) → makes_tree es ≡ true → Made es
made es h =
    let a = and_parts (is_increasing es) _ h in
    let b = and_parts (parents_stand [] es) _ a.1 in
    let d = and_parts (list_all (λ e. is_canonical e.0) es) (links_fit es) b.1 in
    record { increasing = a.0; parents = sym (parents_found es a.0) ∙ b.0; canonical = d.0; links = d.1 }

pub at_root : (es : Entries) → entry_at (tree_of es) [] ≡ Some Dir
at_root es = get-insert names_total (from_entries es) [] Dir []

below_root : (es : Entries) (name : Text) (path : Path) → entry_at (tree_of es) (name ∷ path) ≡ get (from_entries {R = path_cmp} es) (name ∷ path)
below_root es name path = get-insert names_total (from_entries es) [] Dir (name ∷ path)

pub at_names : (es : Entries) (name : Text) (path : Path) → makes_tree es ≡ true → IsCanonical (name ∷ path) → entry_at (tree_of es) (name ∷ path) ≡ by_bytes (spelled (name ∷ path)) es
at_names es name path h c = below_root es name path ∙ looked_up es (name ∷ path) (made es h).canonical c

-- every node but the root is an entry
below-member : (es : Entries) (name : Text) (path : Path) (entry : Entry) → entry_at (tree_of es) (name ∷ path) ≡ Some entry → Member (name ∷ path, entry) es
below-member es name path entry h =
    found-member es (name ∷ path) entry (sym (get-from_entries names_total es (name ∷ path)) ∙ sym (below_root es name path) ∙ h)

-- the root is no entry, and each entry is a node
pub entries_are_nodes : (es : Entries) → makes_tree es ≡ true → (path : Path) (entry : Entry) → Member (path, entry) es → entry_at (tree_of es) path ≡ Some entry
entries_are_nodes es h [] entry m =
    let parent : has_parent es [] ≡ true = all_member (λ e. has_parent es e.0) es ([], entry) (made es h).parents m in
    absurd (cc)
entries_are_nodes es h (name ∷ path) entry m =
    at_names es name path h (canonical_from_test (name ∷ path) (all_member (λ e. is_canonical e.0) es (name ∷ path, entry) (made es h).canonical m))
    ∙ member-found es (name ∷ path) entry (made es h).increasing m

pub nodes_are_entries : (es : Entries) (path : Path) (entry : Entry) → entry_at (tree_of es) path ≡ Some entry → ((path ≡ []) × (entry ≡ Dir)) ⊎ Member (path, entry) es
nodes_are_entries es [] entry h = let same : Some Dir ≡ Some entry = sym (at_root es) ∙ h in inl (refl, cc)
nodes_are_entries es (name ∷ path) entry h = inr (below-member es name path entry h)

pub some_entry : (o : Option Entry) → IsSome o → (entry : Entry) × (o ≡ Some entry)
some_entry None h = absurd (cc)
some_entry (Some entry) h = (entry, refl)

is_dir-same : (entry : Entry) → is_dir entry ≡ true → entry ≡ Dir
is_dir-same Dir h = refl
is_dir-same (File body) h = absurd (cc)
is_dir-same (Link text) h = absurd (cc)

dir_there-same : (o : Option Entry) → is_dir_there o ≡ true → o ≡ Some Dir
dir_there-same None h = absurd (cc)
dir_there-same (Some entry) h = ap Some (is_dir-same entry h)

module _ (es : Entries) (h : makes_tree es ≡ true) where
  member_canonical : (path : Path) (entry : Entry) → Member (path, entry) es → IsCanonical path
  member_canonical path entry m = canonical_from_test path (all_member (λ e. is_canonical e.0) es (path, entry) (made es h).canonical m)

  canonical : (path : Path) → IsSome (entry_at (tree_of es) path) → IsCanonical path
  canonical [] some = record { names = tt; short = lit≤ tt }
  canonical (name ∷ path) some =
      let found = some_entry (entry_at (tree_of es) (name ∷ path)) some in
      member_canonical (name ∷ path) found.0 (below-member es name path found.0 found.1)

  parent_at : (path : Path) → IsCanonical path → (name : Text) → has_parent es (name ∷ path) ≡ true → entry_at (tree_of es) path ≡ Some Dir
  parent_at [] c name has = at_root es
  parent_at (up ∷ path) c name has =
      at_names es up path h c ∙ dir_there-same (by_bytes (spelled (up ∷ path)) es) (dir_there es (spelled (up ∷ path)) (made es h).increasing ∙ has)

  parent : (name : Text) (path : Path) → IsSome (entry_at (tree_of es) (name ∷ path)) → entry_at (tree_of es) path ≡ Some Dir
  parent name path some =
      let found = some_entry (entry_at (tree_of es) (name ∷ path)) some in
      let m = below-member es name path found.0 found.1 in
      parent_at path (parent-canonical (name ∷ path) (member_canonical (name ∷ path) found.0 m)) name (all_member (λ e. has_parent es e.0) es (name ∷ path, found.0) (made es h).parents m)

  links : (path : Path) (text : Text) → entry_at (tree_of es) path ≡ Some (Link text) → IsLinkText text
  links [] text e = let same : Some Dir ≡ Some (Link text) = sym (at_root es) ∙ e in absurd (cc)
  links (name ∷ path) text e = all_member (λ f. entry_fits f.1) es (name ∷ path, Link text) (made es h).links (below-member es name path (Link text) e)

-- a list that makes a tree makes one
pub tree_made : (es : Entries) → makes_tree es ≡ true → IsTree (tree_of es)
tree_made es h = record { canonical = canonical es h; root = at_root es; parent = parent es h; links = links es h }

pub made_from : (es : Entries) → is_increasing es ≡ true → list_all (λ e. has_parent es e.0) es ≡ true → list_all (λ e. is_canonical e.0) es ≡ true → links_fit es ≡ true → makes_tree es ≡ true
made_from es inc parents canon fit = and_from _ _ inc (and_from _ _ (parents_found es inc ∙ parents) (and_from _ _ canon fit))

all_canonical : (es : Entries) → ((path : Path) (entry : Entry) → Member (path, entry) es → IsCanonical path) → list_all (λ e. is_canonical e.0) es ≡ true
all_canonical [] h = refl
all_canonical (e ∷ es) h = and_from _ _ (test_from_canonical e.0 (h e.0 e.1 (inl refl))) (all_canonical es (λ path entry m. h path entry (inr m)))

pub looked_up_each : (es : Entries) (path : Path) → ((p : Path) (entry : Entry) → Member (p, entry) es → IsCanonical p) → IsCanonical path → get (from_entries {R = path_cmp} es) path ≡ by_bytes (spelled path) es
looked_up_each es path h c = looked_up es path (all_canonical es h) c

-- where an entry is found
pub at_path : (es : Entries) (path : Path) → makes_tree es ≡ true → (path ≡ [] → ⊥) → IsCanonical path → by_bytes (spelled path) es ≡ entry_at (tree_of es) path
at_path es [] h some c = absurd (some refl)
at_path es (name ∷ path) h some c = sym (at_names es name path h c)

pub order_first : (es : Entries) → is_increasing es ≡ false → mirror_error es ≡ Some why.Order
unfolding mirror_error
order_first es h = rw h refl

pub parent_next : (es : Entries) → is_increasing es ≡ true → list_all (λ e. has_parent es e.0) es ≡ false → mirror_error es ≡ Some why.Parent
unfolding mirror_error
parent_next es h k = rw (h, parents_found es h ∙ k) refl

pub no_error : (es : Entries) → is_increasing es ≡ true → list_all (λ e. has_parent es e.0) es ≡ true → mirror_error es ≡ None
unfolding mirror_error
no_error es h k = rw (h, parents_found es h ∙ k) refl

small_body : (entry : Entry) (body : Text) → body_fits entry ≡ true → entry_body (Some entry) ≡ Some body → length body ≤ body_limit
small_body Dir body fits e = absurd (cc)
small_body (File bytes) body fits e =
    let same : bytes ≡ body = cc in
    subst (λ (b : Text). length b ≤ body_limit) same (leb-true (length bytes) body_limit fits)
small_body (Link text) body fits e = absurd (cc)

-- no file of a list's tree has more bytes than those of the list
pub small_bodies : (es : Entries) → bodies_fit es ≡ true → BodiesAreSmall (tree_of es)
small_bodies es fits path body e = at (entry_at (tree_of es) path) refl e
  where
    among : (entry : Entry) → entry_body (Some entry) ≡ Some body → ((path ≡ []) × (entry ≡ Dir)) ⊎ Member (path, entry) es → length body ≤ body_limit
    among entry is (inl (root, dir)) = small_body Dir body refl (ap (λ (x : Entry). entry_body (Some x)) (sym dir) ∙ is)
    among entry is (inr m) = small_body entry body (all_member (λ f. body_fits f.1) es (path, entry) fits m) is

    at : (o : Option Entry) → entry_at (tree_of es) path ≡ o → entry_body o ≡ Some body → length body ≤ body_limit
    at None found is = absurd (cc)
    at (Some entry) found is = among entry is (nodes_are_entries es path entry found)
