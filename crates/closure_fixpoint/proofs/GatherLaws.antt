-- What is gathered of paths in order.
use Rattle.std.proofs.Common.{◌≡◌, ◌<◌, ◌+◌, ◌≤◌, ℕ, zero, suc, List, [], ◌∷◌, ◌++◌, length, take, drop, get_or, Option, None, Some, Bool, true, false, ◌||◌, cond, refl, sym, ◌∙◌, ap, subst, arith, inl, inr, ◌⊎◌, append_assoc, add-one}
use Rattle.std.specs.Prelude.{All, IsTrue, nat_eq, ◌↔◌}
use Rattle.std.specs.List.{list_any, list_all}
use Rattle.std.specs.Ordering.{nat_cmp, is_lt}
use Rattle.std.specs.Cmp.Lexicographic.{slice_cmp}
use Rattle.std.proofs.lemmas.Cmp.{nat_cmp_total, tied_itself}
use Rattle.std.proofs.lemmas.Bool.{and_parts, and_from}
use Rattle.std.proofs.lemmas.List.{take-append-drop, take_all}
use Rattle.std.proofs.lemmas.List.Elements.{All-push}
use Rattle.std.proofs.lemmas.List.Folds.{list_any-append}
use lib.Pointwise.{pointwise}
use Rattle.base_types.specs.Members.{Member, Within}
use Rattle.base_types.specs.Ascii.{slash}
use Rattle.tree_model.specs.Paths.{Text, Path, spelled, spelled_below, is_canonical, IsCanonical}
use Rattle.tree_model.specs.Entries.{Entries, is_increasing, below, is_dir, is_dir_at, has_parent, entry_fits, makes_tree}
use Rattle.tree_model.specs.Laws.{ParentsMakeTrees, TestsDecide}
use Rattle.tree_model.specs.Trees.{FileTree, entry_at, entry_body, IsTooLarge}
use Rattle.tree_model.specs.declared.entry.Entry.{Entry}
use Rattle.tree_model.specs.declared.entry.Entry.TheVariants.{Dir, File, Link}
use Rattle.tree_model.proofs.MemberLemmas.{Member-append, Member-append_left, Member-append_right, list_any-true}
use Rattle.tree_model.proofs.PathLemmas.{text_same, text_itself}
use Rattle.job_frames.specs.Spelling.{HasSpelling}
use Rattle.job_frames.proofs.TreeLemmas.{fits_entry}
use Rattle.macro_defs.proofs.Fronts.{front_at}
use Rattle.closure_fixpoint.specs.Gathering.{comes_before, are_rising, AreGathered, HasLarge, with_path, kept_at, gathered_from, AreKept, AddsAt, files_there, files_among, unknown_there, unknown_among}
use Rattle.closure_fixpoint.proofs.Orders.{in_order, at-member}
use Rattle.closure_fixpoint.proofs.MemberLaws.{test-all}

-- SPELLINGS

-- a text comes before what goes on behind it
front-below : (a : Text) (b : ℕ) (c : Text) → is_lt (slice_cmp nat_cmp a (a ++ b ∷ c)) ≡ true
front-below [] b c = refl
front-below (x ∷ a) b c = rw (tied_itself nat_cmp_total x) (front-below a b c)

-- a directory comes before what it holds
parent-before : (name up : Text) (path : Path) → comes_before (up ∷ path) (name ∷ up ∷ path) ≡ true
parent-before name up path = front-below (spelled_below (up ∷ path)) slash name

-- PATHS IN ORDER

rising-front : (done : List Path) (q : Path) (rest : List Path) → are_rising (done ++ q ∷ rest) ≡ true → (x : Path) → Member x done → comes_before x q ≡ true
rising-front [] q rest up x m = elim m [ ]
rising-front (y ∷ done) q rest up x (inl same) =
    let pair = and_parts (list_all (λ other. comes_before y other) (done ++ q ∷ rest)) (are_rising (done ++ q ∷ rest)) up in
    ap (λ (p : Path). comes_before p q) (sym same) ∙ test-all (λ other. comes_before y other) (done ++ q ∷ rest) pair.0 q (Member-append_right q done (q ∷ rest) (inl refl))
rising-front (y ∷ done) q rest up x (inr m) =
    let pair = and_parts (list_all (λ other. comes_before y other) (done ++ q ∷ rest)) (are_rising (done ++ q ∷ rest)) up in
    rising-front done q rest pair.1 x m

-- those so far come before the one at hand
pub rising-at : (nodes : List Path) (i : ℕ) (q : Path) → i < length nodes → q ≡ get_or nodes i q → are_rising nodes ≡ true → (x : Path) → Member x (take i nodes) → comes_before x q ≡ true
rising-at nodes i q below is up x m =
    rising-front (take i nodes) q (drop (i + 1) nodes)
    (subst (λ (l : List Path). are_rising l ≡ true) (sym (take-append-drop i nodes) ∙ ap (λ (l : List Path). take i nodes ++ l) (front_at nodes i q below is)) up)
    x m

-- PARENTS

pub more-parents : (es fs : Entries) (path : Path) → has_parent es path ≡ true → has_parent (es ++ fs) path ≡ true
more-parents es fs [] h = absurd (cc)
more-parents es fs (name ∷ []) h = refl
more-parents es fs (name ∷ up ∷ path) h =
    list_any-append (is_dir_at (spelled (up ∷ path))) es fs ∙ ap (λ (b : Bool). b || list_any (is_dir_at (spelled (up ∷ path))) fs) h

-- a parent that is there with an entry more was there, or the entry's path comes before the path
new-parent : (es : Entries) (q : Path) (entry : Entry) (path : Path) → has_parent (es ++ (q, entry) ∷ []) path ≡ true → (has_parent es path ≡ true) ⊎ (comes_before q path ≡ true)
new-parent es q entry [] h = absurd (cc)
new-parent es q entry (name ∷ []) h = inl refl
new-parent es q entry (name ∷ up ∷ path) h =
    by_test (list_any (is_dir_at (spelled (up ∷ path))) es) refl (sym (list_any-append (is_dir_at (spelled (up ∷ path))) es ((q, entry) ∷ [])) ∙ h)
  where
    by_test : (b : Bool) → list_any (is_dir_at (spelled (up ∷ path))) es ≡ b → (b || (is_dir_at (spelled (up ∷ path)) (q, entry) || false)) ≡ true
        → (list_any (is_dir_at (spelled (up ∷ path))) es ≡ true) ⊎ (comes_before q (name ∷ up ∷ path) ≡ true)
    by_test true e g = inl e
    by_test false e g = inr (ap (λ (t : Text). below t (spelled (name ∷ up ∷ path))) (text_same (spelled q) (spelled (up ∷ path)) (and_parts (pointwise nat_eq (spelled q) (spelled (up ∷ path))) (is_dir entry) (last (is_dir_at (spelled (up ∷ path)) (q, entry)) g)).0) ∙ parent-before name up path)
      where
        last : (b : Bool) → (b || false) ≡ true → b ≡ true
        last true k = refl
        last false k = cc

-- a directory among entries holds its paths
pub dir-holds : (es : Entries) (name up : Text) (path : Path) → Member (up ∷ path, Dir) es → has_parent es (name ∷ up ∷ path) ≡ true
dir-holds es name up path m =
    list_any-true (is_dir_at (spelled (up ∷ path))) (up ∷ path, Dir) es m (and_from (pointwise nat_eq (spelled (up ∷ path)) (spelled (up ∷ path))) true (text_itself (spelled (up ∷ path))) refl)

-- AN ENTRY MORE

increasing-last : (es : Entries) (q : Path) (entry : Entry) → is_increasing es ≡ true → ((path : Path) (e : Entry) → Member (path, e) es → comes_before path q ≡ true) → is_increasing (es ++ (q, entry) ∷ []) ≡ true
increasing-last [] q entry up before = refl
increasing-last (e ∷ es) q entry up before =
    let pair = and_parts (list_all (λ f. below (spelled e.0) (spelled f.0)) es) (is_increasing es) up in
    and_from (list_all (λ f. below (spelled e.0) (spelled f.0)) (es ++ (q, entry) ∷ [])) (is_increasing (es ++ (q, entry) ∷ []))
    (one-more es pair.0)
    (increasing-last es q entry pair.1 (λ path f m. before path f (inr m)))
  where
    one-more : (fs : Entries) → list_all (λ f. below (spelled e.0) (spelled f.0)) fs ≡ true → list_all (λ f. below (spelled e.0) (spelled f.0)) (fs ++ (q, entry) ∷ []) ≡ true
    one-more [] all = and_from (below (spelled e.0) (spelled q)) true (before e.0 e.1 (inl refl)) refl
    one-more (f ∷ fs) all =
        let pair = and_parts (below (spelled e.0) (spelled f.0)) (list_all (λ f. below (spelled e.0) (spelled f.0)) fs) all in
        and_from (below (spelled e.0) (spelled f.0)) (list_all (λ f. below (spelled e.0) (spelled f.0)) (fs ++ (q, entry) ∷ [])) pair.0 (one-more fs pair.1)

pub kept-none : (done more : List Path) (es : Entries) → AreKept done es → Within done more → AreKept more es
kept-none done more es kept within = record {
  increasing = kept.increasing;
  inside = λ path entry m. within path (kept.inside path entry m);
  parents = kept.parents;
}

pub kept-more : (done more : List Path) (es : Entries) (q : Path) (entry : Entry) → AreKept done es → Within done more → Member q more → ((x : Path) → Member x done → comes_before x q ≡ true)
    → has_parent es q ≡ true → AreKept more (es ++ (q, entry) ∷ [])
kept-more done more es q entry kept within there before parent = record {
  increasing = increasing-last es q entry kept.increasing (λ path e m. before path (kept.inside path e m));
  inside = λ path e m. in_more path e (Member-append (path, e) es ((q, entry) ∷ []) m);
  parents = λ path e m. with_parent path e (Member-append (path, e) es ((q, entry) ∷ []) m);
}
  where
    in_more : (path : Path) (e : Entry) → Member (path, e) es ⊎ Member {X = Path × Entry} (path, e) ((q, entry) ∷ []) → Member path more
    in_more path e (inl m) = within path (kept.inside path e m)
    in_more path e (inr (inl same)) = subst (λ (p : Path). Member p more) (ap (λ (f : Path × Entry). f.0) same) there
    in_more path e (inr (inr never)) = absurd never

    with_parent : (path : Path) (e : Entry) → Member (path, e) es ⊎ Member {X = Path × Entry} (path, e) ((q, entry) ∷ []) → has_parent (es ++ (q, entry) ∷ []) path ≡ true
    with_parent path e (inl m) = more-parents es ((q, entry) ∷ []) path (kept.parents path e m)
    with_parent path e (inr (inl same)) = more-parents es ((q, entry) ∷ []) path (subst (λ (p : Path). has_parent es p ≡ true) (ap (λ (f : Path × Entry). f.0) same) parent)
    with_parent path e (inr (inr never)) = absurd never

-- WHAT IS GATHERED OF A TREE

append-none : (es : Entries) → es ≡ es ++ []
append-none [] = refl
append-none (e ∷ es) = ap (λ (t : Entries). e ∷ t) (append-none es)

no-more : (paths : List Path) → paths ≡ paths ++ []
no-more [] = refl
no-more (p ∷ paths) = ap (λ (t : List Path). p ∷ t) (no-more paths)

module _ (tree : FileTree) where
  record IsUpTo (done : List Path) (es : Entries) : Type 0 where
    kept : AreKept done es
    same : (path : Path) (entry : Entry) → Member (path, entry) es → entry_at tree path ≡ Some entry
    whole : (path : Path) (entry : Entry) → Member path done → entry_at tree path ≡ Some entry → has_parent es path ≡ true → Member (path, entry) es

  module _ (done : List Path) (es : Entries) (q : Path) (up_to : IsUpTo done es) (before : (x : Path) → Member x done → comes_before x q ≡ true) where
    in_front : Within done (done ++ q ∷ [])
    in_front x m = Member-append_left x done (q ∷ []) m

    -- none is added
    none-added : ((entry : Entry) → entry_at tree q ≡ Some entry → has_parent es q ≡ true → ⊥) → IsUpTo (done ++ q ∷ []) (es ++ [])
    none-added never = subst (λ (l : Entries). IsUpTo (done ++ q ∷ []) l) (append-none es) (record {
      kept = kept-none done (done ++ q ∷ []) es up_to.kept in_front;
      same = up_to.same;
      whole = λ path entry m there parent. by_part path entry (Member-append path done (q ∷ []) m) there parent;
    })
      where
        by_part : (path : Path) (entry : Entry) → Member path done ⊎ Member path (q ∷ []) → entry_at tree path ≡ Some entry → has_parent es path ≡ true → Member (path, entry) es
        by_part path entry (inl m) there parent = up_to.whole path entry m there parent
        by_part path entry (inr (inl e)) there parent = absurd (never entry (ap (entry_at tree) e ∙ there) (ap (has_parent es) e ∙ parent))
        by_part path entry (inr (inr n)) there parent = absurd n

    one-added : (entry : Entry) → entry_at tree q ≡ Some entry → has_parent es q ≡ true → IsUpTo (done ++ q ∷ []) (es ++ (q, entry) ∷ [])
    one-added entry stands parent_there = record {
      kept = kept-more done (done ++ q ∷ []) es q entry up_to.kept in_front (Member-append_right q done (q ∷ []) (inl refl)) before parent_there;
      same = λ path e m. same_part path e (Member-append (path, e) es ((q, entry) ∷ []) m);
      whole = λ path e m there parent. by_part path e (Member-append path done (q ∷ []) m) there parent;
    }
      where
        same_part : (path : Path) (e : Entry) → Member (path, e) es ⊎ Member {X = Path × Entry} (path, e) ((q, entry) ∷ []) → entry_at tree path ≡ Some e
        same_part path e (inl m) = up_to.same path e m
        same_part path e (inr (inl is)) = ap (entry_at tree) (sym (ap (λ (f : Path × Entry). f.0) is)) ∙ stands ∙ ap (λ (f : Path × Entry). Some f.1) is
        same_part path e (inr (inr never)) = absurd never

        some-same : (a b : Entry) → Some a ≡ Some b → a ≡ b
        some-same a b e = cc

        old_parent : (path : Path) → Member path done → (has_parent es path ≡ true) ⊎ (comes_before q path ≡ true) → has_parent es path ≡ true
        old_parent path m (inl h) = h
        old_parent path m (inr h) = let not_so : comes_before path q ≡ false = in_order.one_way q path h in let is : comes_before path q ≡ true = before path m in absurd (cc)

        by_part : (path : Path) (e : Entry) → Member path done ⊎ Member path (q ∷ []) → entry_at tree path ≡ Some e → has_parent (es ++ (q, entry) ∷ []) path ≡ true → Member (path, e) (es ++ (q, entry) ∷ [])
        by_part path e (inl m) there parent =
            Member-append_left (path, e) es ((q, entry) ∷ []) (up_to.whole path e m there (old_parent path m (new-parent es q entry path parent)))
        by_part path e (inr (inl is)) there parent =
            Member-append_right (path, e) es ((q, entry) ∷ [])
            (inl (ap (λ (p : Path). (p, entry)) is ∙ ap (λ (x : Entry). (path, x)) (some-same entry e (sym stands ∙ ap (entry_at tree) is ∙ there))))
        by_part path e (inr (inr n)) there parent = absurd n

    next-up-to : IsUpTo (done ++ q ∷ []) (es ++ kept_at tree es q)
    next-up-to = by_test (has_parent es q) refl (entry_at tree q) refl
      where
        by_test : (b : Bool) → has_parent es q ≡ b → (o : Option Entry) → entry_at tree q ≡ o → IsUpTo (done ++ q ∷ []) (es ++ cond b (with_path q o) [])
        by_test false e o stands = none-added (λ entry there parent. let never : false ≡ true = sym e ∙ parent in absurd (cc))
        by_test true e None stands = none-added (λ entry there parent. let never : None ≡ Some entry = sym stands ∙ there in absurd (cc))
        by_test true e (Some entry) stands = one-added entry stands e

  all-up-to : (rest done : List Path) (es : Entries) → are_rising (done ++ rest) ≡ true → IsUpTo done es → IsUpTo (done ++ rest) (gathered_from tree es rest)
  all-up-to [] done es up up_to = subst (λ (l : List Path). IsUpTo l es) (no-more done) up_to
  all-up-to (q ∷ rest) done es up up_to =
      let split : (done ++ q ∷ []) ++ rest ≡ done ++ q ∷ rest = append_assoc done (q ∷ []) rest in
      subst (λ (l : List Path). IsUpTo l (gathered_from tree (es ++ kept_at tree es q) rest)) split
      (all-up-to rest (done ++ q ∷ []) (es ++ kept_at tree es q) (subst (λ (l : List Path). are_rising l ≡ true) (sym split) up)
      (next-up-to done es q up_to (rising-front done q rest up)))

  pub gathered-are : (nodes : List Path) → are_rising nodes ≡ true → AreGathered tree nodes (gathered_from tree [] nodes)
  gathered-are nodes up =
      let all = all-up-to nodes [] [] up (record {
        kept = record { increasing = refl; inside = λ path entry m. absurd m; parents = λ path entry m. absurd m };
        same = λ path entry m. absurd m;
        whole = λ path entry m there parent. absurd m;
      }) in
      record {
        increasing = all.kept.increasing;
        inside = all.kept.inside;
        parents = all.kept.parents;
        same = all.same;
        whole = all.whole;
      }

  -- what was gathered stays
  stays-gathered : (rest : List Path) (es : Entries) (x : Path × Entry) → Member x es → Member x (gathered_from tree es rest)
  stays-gathered [] es x m = m
  stays-gathered (q ∷ rest) es x m = stays-gathered rest (es ++ kept_at tree es q) x (Member-append_left x es (kept_at tree es q) m)

  large-entry : (o : Option Entry) (body : Text) → entry_body o ≡ Some body → o ≡ Some (File body)
  large-entry None body e = absurd (cc)
  large-entry (Some Dir) body e = absurd (cc)
  large-entry (Some (File other)) body e = let same : other ≡ body = cc in ap (λ (b : Text). Some (File b)) same
  large-entry (Some (Link text)) body e = absurd (cc)

  -- a too large file at hand is gathered
  pub large-gathered : (es : Entries) (q : Path) (rest : List Path) → has_parent es q ≡ true → IsTooLarge tree q → HasLarge (gathered_from tree es (q ∷ rest))
  large-gathered es q rest parent (body, is, large) = (
    q,
    body,
    stays-gathered rest (es ++ kept_at tree es q) (q, File body)
        (Member-append_right (q, File body) es (kept_at tree es q)
        (subst (λ (l : Entries). Member (q, File body) l) (sym (kept parent (large-entry (entry_at tree q) body is))) (inl refl))),
    large,
  )
    where
      kept : has_parent es q ≡ true → entry_at tree q ≡ Some (File body) → kept_at tree es q ≡ (q, File body) ∷ []
      kept e there = ap (λ (b : Bool). cond b (with_path q (entry_at tree q)) []) e ∙ ap (with_path q) there

-- THE LOOP

pub so-far-within : (nodes : List Path) (i : ℕ) → Within (take i nodes) (take (i + 1) nodes)
so-far-within nodes i = rw (add-one i) (by_suc nodes i)
  where
    by_suc : (nodes : List Path) (i : ℕ) → Within (take i nodes) (take (suc i) nodes)
    by_suc [] zero x m = elim m [ ]
    by_suc [] (suc i) x m = elim m [ ]
    by_suc (n ∷ nodes) zero x m = elim m [ ]
    by_suc (n ∷ nodes) (suc i) x (inl e) = inl e
    by_suc (n ∷ nodes) (suc i) x (inr m) = inr (by_suc nodes i x m)

pub at-hand : (nodes : List Path) (i : ℕ) (q : Path) → i < length nodes → q ≡ get_or nodes i q → Member q (take (i + 1) nodes)
at-hand nodes i q below is = rw (add-one i) (by_suc nodes i below is)
  where
    by_suc : (nodes : List Path) (i : ℕ) → i < length nodes → q ≡ get_or nodes i q → Member q (take (suc i) nodes)
    by_suc [] i below is = absurd (omega (arith, below))
    by_suc (n ∷ nodes) zero below is = inl (sym is)
    by_suc (n ∷ nodes) (suc i) below is = inr (by_suc nodes i (omega (arith, below)) is)

-- the files of joined entries
unknown-joined : (known : Path → Option Text) (a b : Entries) → unknown_among known (a ++ b) ≡ unknown_among known a + unknown_among known b
unknown-joined known [] b = omega arith
unknown-joined known (e ∷ a) b = omega (arith, unknown-joined known a b)

pub reads-added : (known : Path → Option Text) (before now : ℕ) (old new : Entries) (q : Path) (entry : Entry) (o : Option Entry) → now ≤ before + unknown_there (known q) o → o ≡ Some entry
    → new ≡ old ++ (q, entry) ∷ [] → now + unknown_among known old ≤ before + unknown_among known new
reads-added known before now old new q entry o few is added =
    let counted : unknown_among known new ≡ unknown_among known old + (unknown_there (known q) (Some entry) + 0) = ap (unknown_among known) added ∙ unknown-joined known old ((q, entry) ∷ []) in
    let one : unknown_there (known q) o ≡ unknown_there (known q) (Some entry) = ap (unknown_there (known q)) is in
    omega (arith, few, counted, one)

-- no more of them are unknown than there are
unknown-there : (known : Option Text) (entry : Option Entry) → unknown_there known entry ≤ files_there entry
unknown-there None entry = omega arith
unknown-there (Some body) entry = omega arith

pub unknown-few : (known : Path → Option Text) (es : Entries) → unknown_among known es ≤ files_among es
unknown-few known [] = omega arith
unknown-few known (e ∷ es) = omega (arith, unknown-there (known e.0) (Some e.1), unknown-few known es)

pub adds-kept : (nodes : List Path) (i : ℕ) (q : Path) (old new : Entries) → i < length nodes → q ≡ get_or nodes i q → are_rising nodes ≡ true → AreKept (take i nodes) old → AddsAt q old new
    → AreKept (take (i + 1) nodes) new
adds-kept nodes i q old new below is up kept (inl same) =
    subst (λ (es : Entries). AreKept (take (i + 1) nodes) es) (sym same) (kept-none (take i nodes) (take (i + 1) nodes) old kept (so-far-within nodes i))
adds-kept nodes i q old new below is up kept (inr (entry, parent, fits, added)) =
    subst (λ (es : Entries). AreKept (take (i + 1) nodes) es) (sym added)
    (kept-more (take i nodes) (take (i + 1) nodes) old q entry kept (so-far-within nodes i) (at-hand nodes i q below is) (rising-at nodes i q below is up) parent)

pub adds-spellable : (q : Path) (old new : Entries) → AddsAt q old new → All HasSpelling old → All HasSpelling new
adds-spellable q old new (inl same) all = subst (λ (es : Entries). All HasSpelling es) (sym same) all
adds-spellable q old new (inr (entry, parent, fits, added)) all =
    subst (λ (es : Entries). All HasSpelling es) (sym added) (All-push HasSpelling old (q, entry) all fits)

-- at the end all are so far
pub kept-all : (nodes : List Path) (i : ℕ) (es : Entries) → length nodes ≤ i → AreKept (take i nodes) es → AreKept nodes es
kept-all nodes i es end kept = subst (λ (l : List Path). AreKept l es) (take_all i nodes end) kept

pub gathered-next : (tree : FileTree) (nodes : List Path) (i : ℕ) (q : Path) (old new whole : Entries) → i < length nodes → q ≡ get_or nodes i q → gathered_from tree old (drop i nodes) ≡ whole
    → new ≡ old ++ kept_at tree old q → gathered_from tree new (drop (i + 1) nodes) ≡ whole
gathered-next tree nodes i q old new whole below is so_far added =
    ap (λ (es : Entries). gathered_from tree es (drop (i + 1) nodes)) added ∙ ap (gathered_from tree old) (sym (front_at nodes i q below is)) ∙ so_far

pub large-at : (tree : FileTree) (nodes : List Path) (i : ℕ) (q : Path) (old whole : Entries) → i < length nodes → q ≡ get_or nodes i q → gathered_from tree old (drop i nodes) ≡ whole
    → has_parent old q ≡ true → IsTooLarge tree q → HasLarge whole
large-at tree nodes i q old whole below is so_far parent large =
    subst (λ (es : Entries). HasLarge es) (ap (gathered_from tree old) (sym (front_at nodes i q below is)) ∙ so_far) (large-gathered tree old q (drop (i + 1) nodes) parent large)

-- THE WHOLE

pub gathered-of : (tree : FileTree) (sorted nodes : List Path) (entries : Entries) → are_rising sorted ≡ true → ((path : Path) → Member path sorted ↔ Member path nodes)
    → entries ≡ gathered_from tree [] sorted → AreGathered tree nodes entries
gathered-of tree sorted nodes entries up same is =
    subst (λ (es : Entries). AreGathered tree nodes es) (sym is)
    (let are = gathered-are tree sorted up in
    record {
      increasing = are.increasing;
      inside = λ path entry m. (same path).0 (are.inside path entry m);
      parents = are.parents;
      same = are.same;
      whole = λ path entry m there parent. are.whole path entry ((same path).1 m) there parent;
    })

pub gathered-in-order : (tree : FileTree) (sorted items paths nodes : List Path) (entries : Entries) → sorted ≡ items → paths ≡ nodes → are_rising items ≡ true
    → ((path : Path) → Member path items ↔ Member path paths) → entries ≡ gathered_from tree [] sorted → AreGathered tree nodes entries
gathered-in-order tree sorted items paths nodes entries value given up same is =
    gathered-of tree sorted nodes entries (subst (λ (l : List Path). are_rising l ≡ true) (sym value) up)
    (λ path. (
      λ m. subst (λ (l : List Path). Member path l) given ((same path).0 (subst (λ (l : List Path). Member path l) value m)),
      λ m. subst (λ (l : List Path). Member path l) (sym value) ((same path).1 (subst (λ (l : List Path). Member path l) (sym given) m)),
    ))
    is

-- what has a spelling isn't too large
pub no-large : (entries : Entries) → All HasSpelling entries → HasLarge entries → ⊥
no-large entries all (path, body, m, large) =
    let fits : HasSpelling (path, File body) = at-member HasSpelling entries all (path, File body) m in
    absurd (omega (arith, fits.1, large))

pub all-test : {X : Type 0} (test : X → Bool) (xs : List X) → ((x : X) → Member x xs → test x ≡ true) → list_all test xs ≡ true
all-test test [] each = refl
all-test test (x ∷ xs) each = and_from (test x) (list_all test xs) (each x (inl refl)) (all-test test xs (λ y m. each y (inr m)))

pub tree-made : ParentsMakeTrees → TestsDecide → (nodes : List Path) (entries : Entries) → All IsCanonical nodes → AreKept nodes entries → All HasSpelling entries → IsTrue (makes_tree entries)
tree-made makes decide nodes entries canonical kept fits =
    makes entries kept.increasing
    (all-test (λ (e : Path × Entry). has_parent entries e.0) entries (λ e m. kept.parents e.0 e.1 m))
    (all-test (λ (e : Path × Entry). is_canonical e.0) entries (λ e m. (decide e.0).1 (at-member IsCanonical nodes canonical e.0 (kept.inside e.0 e.1 m))))
    (all-test (λ (e : Path × Entry). entry_fits e.1) entries (λ e m. fits_entry e.1 (at-member HasSpelling entries fits e m).1))
