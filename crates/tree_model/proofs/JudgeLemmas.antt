-- Judging each path behind those before it.
use Rattle.std.proofs.Common.{◌≡◌, [], ◌∷◌, ◌++◌, refl, sym, ◌∙◌, ap, subst, cond, true, false, Bool, Option, Some, None}
use Rattle.std.specs.Prelude.{Result, Ok, Err}
use Rattle.std.specs.List.{list_all}
use Rattle.std.proofs.lemmas.Bool.{and_parts, and_from}
use Rattle.std.proofs.lemmas.List.{append-nil}
use Rattle.std.proofs.lemmas.List.Folds.{list_all-append}
use Rattle.std.proofs.Math.Seq.{append_snoc}
use Rattle.tree_model.specs.Paths.{Text, Path, spelled, names_of, path_of, is_spelling, is_canonical, IsCanonical}
use Rattle.tree_model.specs.Entries.{Entries, below, comes_behind, has_parent, with_parent, judged_path, is_increasing, parents_stand, links_fit, entry_fits, makes_tree}
use Rattle.tree_model.specs.declared.entry.Entry.{Entry}
use Rattle.tree_model.specs.declared.mem_tree.MirrorError.{MirrorError}
use Rattle.tree_model.specs.declared.mem_tree.MirrorError.TheVariants as why
use Rattle.tree_model.proofs.PathLemmas.{spelling_from_test, test_from_spelling, spelling, names_of-spelled, some_path, canonical_from_test, test_from_canonical}

abbrev Judged : Type 0
Judged = Result Path MirrorError

record Parts (es : Entries) (text : Text) (path : Path) : Type 0 where
  behind : comes_behind es text ≡ true
  is : path_of text ≡ Some path
  parent : has_parent es path ≡ true

judged_parts : (es : Entries) (text : Text) (path : Path) → ◌≡◌ {A = Judged} (judged_path es text) (Ok path) → Parts es text path
unfolding judged_path
judged_parts es text path h = by_order (comes_behind es text) refl (path_of text) refl h
  where
    by_parent : (b : Bool) (q : Path) → comes_behind es text ≡ true → path_of text ≡ Some q → has_parent es q ≡ b → ◌≡◌ {A = Judged} (cond b (Ok q) (Err why.Parent)) (Ok path) → Parts es text path
    by_parent true q order is has h =
        let same : q ≡ path = cc in
        record { behind = order; is = is ∙ ap Some same; parent = ap (has_parent es) (sym same) ∙ has }
    by_parent false q order is has h = absurd (cc)

    by_order : (b : Bool) → comes_behind es text ≡ b → (o : Option Path) → path_of text ≡ o → ◌≡◌ {A = Judged} (cond b (with_parent es o) (Err why.Order)) (Ok path) → Parts es text path
    by_order true order None is h = absurd (cc)
    by_order true order (Some q) is h = by_parent (has_parent es q) q order is refl h
    by_order false order o is h = absurd (cc)

path_spelled : (text : Text) (path : Path) → path_of text ≡ Some path → (spelled path ≡ text) × IsCanonical path
unfolding path_of
path_spelled text path h = by_test (is_spelling text) refl h
  where
    by_test : (b : Bool) → is_spelling text ≡ b → ◌≡◌ {A = Option Path} (cond b (Some (names_of text)) None) (Some path) → (spelled path ≡ text) × IsCanonical path
    by_test true t h =
        let same : names_of text ≡ path = cc in
        let is = spelling_from_test text t in
        (ap spelled (sym same) ∙ is.1, subst IsCanonical same is.0)
    by_test false t h = absurd (cc)

pub judged-spelled : (es : Entries) (text : Text) (path : Path) → ◌≡◌ {A = Judged} (judged_path es text) (Ok path) → (spelled path ≡ text) × IsCanonical path
judged-spelled es text path h = path_spelled text path (judged_parts es text path h).is

increasing-more : (es : Entries) (path : Path) (entry : Entry) → is_increasing es ≡ true → comes_behind es (spelled path) ≡ true → is_increasing (es ++ (path, entry) ∷ []) ≡ true
increasing-more [] path entry inc order = refl
increasing-more (e ∷ es) path entry inc order =
    let pair = and_parts (list_all (λ f. below (spelled e.0) (spelled f.0)) es) (is_increasing es) inc in
    let here = and_parts (below (spelled e.0) (spelled path)) (comes_behind es (spelled path)) order in
    and_from _ _ (list_all-append (λ f. below (spelled e.0) (spelled f.0)) es ((path, entry) ∷ []) ∙ and_from _ _ pair.0 (and_from _ _ here.0 refl))
    (increasing-more es path entry pair.1 here.1)

pub judged-increase : (es : Entries) (text : Text) (path : Path) (entry : Entry) → is_increasing es ≡ true → ◌≡◌ {A = Judged} (judged_path es text) (Ok path) → is_increasing (es ++ (path, entry) ∷ []) ≡ true
judged-increase es text path entry inc h =
    increasing-more es path entry inc (ap (comes_behind es) (judged-spelled es text path h).0 ∙ (judged_parts es text path h).behind)

parents-more : (before es : Entries) (path : Path) (entry : Entry) → parents_stand before es ≡ true → has_parent (before ++ es) path ≡ true → parents_stand before (es ++ (path, entry) ∷ []) ≡ true
parents-more before [] path entry stand has = and_from _ _ (ap (λ (all : Entries). has_parent all path) (sym (append-nil before)) ∙ has) refl
parents-more before (e ∷ es) path entry stand has =
    let pair = and_parts (has_parent before e.0) (parents_stand (before ++ e ∷ []) es) stand in
    and_from _ _ pair.0 (parents-more (before ++ e ∷ []) es path entry pair.1 (ap (λ (all : Entries). has_parent all path) (append_snoc before e es) ∙ has))

pub judged-make_trees : (es : Entries) (text : Text) (path : Path) (entry : Entry) → makes_tree es ≡ true → ◌≡◌ {A = Judged} (judged_path es text) (Ok path) → entry_fits entry ≡ true → makes_tree (es ++ (path, entry) ∷ []) ≡ true
judged-make_trees es text path entry made h fits =
    let a = and_parts (is_increasing es) _ made in
    let b = and_parts (parents_stand [] es) _ a.1 in
    let d = and_parts (list_all (λ e. is_canonical e.0) es) (links_fit es) b.1 in
    and_from _ _ (judged-increase es text path entry a.0 h)
    (and_from _ _ (parents-more [] es path entry b.0 (judged_parts es text path h).parent)
    (and_from _ _ (list_all-append (λ e. is_canonical e.0) es ((path, entry) ∷ []) ∙ and_from _ _ d.0 (and_from _ _ (test_from_canonical path (judged-spelled es text path h).1) refl))
    (list_all-append (λ e. entry_fits e.1) es ((path, entry) ∷ []) ∙ and_from _ _ d.1 (and_from _ _ fits refl))))

-- AND BACK

behind_before : (before after : Entries) (path : Path) (entry : Entry) → is_increasing (before ++ (path, entry) ∷ after) ≡ true → comes_behind before (spelled path) ≡ true
behind_before [] after path entry inc = refl
behind_before (e ∷ before) after path entry inc =
    let pair = and_parts (list_all (λ f. below (spelled e.0) (spelled f.0)) (before ++ (path, entry) ∷ after)) (is_increasing (before ++ (path, entry) ∷ after)) inc in
    let all = and_parts (list_all (λ f. below (spelled e.0) (spelled f.0)) before) _ (sym (list_all-append (λ f. below (spelled e.0) (spelled f.0)) before ((path, entry) ∷ after)) ∙ pair.0) in
    and_from _ _ (and_parts (below (spelled e.0) (spelled path)) _ all.1).0 (behind_before before after path entry pair.1)

parent_before : (front before after : Entries) (path : Path) (entry : Entry) → parents_stand front (before ++ (path, entry) ∷ after) ≡ true → has_parent (front ++ before) path ≡ true
parent_before front [] after path entry stand = ap (λ (all : Entries). has_parent all path) (append-nil front) ∙ (and_parts (has_parent front path) _ stand).0
parent_before front (e ∷ before) after path entry stand =
    ap (λ (all : Entries). has_parent all path) (sym (append_snoc front e before))
    ∙ parent_before (front ++ e ∷ []) before after path entry (and_parts (has_parent front e.0) _ stand).1

pub entries-judged : (before after : Entries) (path : Path) (entry : Entry) → makes_tree (before ++ (path, entry) ∷ after) ≡ true → ◌≡◌ {A = Judged} (judged_path before (spelled path)) (Ok path)
unfolding judged_path
entries-judged before after path entry made =
    let all : Entries = before ++ (path, entry) ∷ after in
    let a = and_parts (is_increasing all) _ made in
    let b = and_parts (parents_stand [] all) _ a.1 in
    let d = and_parts (list_all (λ e. is_canonical e.0) all) (links_fit all) b.1 in
    let canonical = and_parts (list_all (λ e. is_canonical e.0) before) _ (sym (list_all-append (λ e. is_canonical e.0) before ((path, entry) ∷ after)) ∙ d.0) in
    let good : IsCanonical path = canonical_from_test path (and_parts (is_canonical path) _ canonical.1).0 in
    let is : path_of (spelled path) ≡ Some path = sym (some_path (spelled path) (test_from_spelling (spelled path) (spelling path good))) ∙ ap Some (names_of-spelled path good) in
    let order : comes_behind before (spelled path) ≡ true = behind_before before after path entry a.0 in
    let has : has_parent before path ≡ true = parent_before [] before after path entry b.0 in
    rw order (rw is (rw has refl))
