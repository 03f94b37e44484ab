-- A request's entries make a tree, and the entries of a tree may stand in a request.
use Rattle.std.proofs.Common.{◌≡◌, ℕ, zero, suc, ◌<◌, ◌≤◌, List, [], ◌∷◌, ◌++◌, length, refl, sym, subst, arith, true, false, Bool, append_assoc, length-append}
use Rattle.std.specs.Prelude.{◌==◌, nat_le, nat_lt, not, ◌&&◌, All, slice_index_or}
use Rattle.std.specs.List.{list_any, list_all, AllByRecursion}
use Rattle.std.proofs.lemmas.List.{append-nil}
use Rattle.std.proofs.lemmas.Bool.{and_parts, le-leb, leb-true, ltb-true, lt-ltb}
use Rattle.base_types.specs.Ascii.{slash}
use Rattle.tree_model.specs.Paths.{Path, spelled, spelled_below, is_name, is_canonical}
use Rattle.tree_model.specs.Entries.{Entries, has_parent, is_increasing, parents_stand, entry_fits, links_fit, body_fits, bodies_fit, makes_tree}
use Rattle.tree_model.specs.declared.entry.Entry.{Entry}
use Rattle.tree_model.specs.declared.entry.Entry.TheVariants.{Dir, File, Link}
use Rattle.tree_model.specs.Laws.{JudgedMakeTrees, EntriesAreJudged}
use Rattle.job_words.specs.declared.job.Job.{Job}
use Rattle.job_words.specs.Words.{IsWord}
use Rattle.base_types.specs.Limits.{request_limit}
use Rattle.job_frames.specs.Spelling.{request_bytes, IsSpellable, MayFollow, IsSmall, IsRequest, FitsRequest, HasSpelling}
use Rattle.job_frames.proofs.StageLemmas.{judged_good}

-- FROM A REQUEST TO A TREE

pub fits_entry : (e : Entry) → IsSpellable e → entry_fits e ≡ true
fits_entry Dir is = refl
fits_entry (File body) is = refl
fits_entry (Link text) is = rw (lt-ltb 0 (length text) (omega (arith, is.0)), lt-ltb (length text) 4096 (omega (arith, is.1)), is.2) refl

follow_tree : JudgedMakeTrees → (before es : Entries) → makes_tree before ≡ true → MayFollow before es → makes_tree (before ++ es) ≡ true
follow_tree made before [] h m = subst (λ (fs : Entries). makes_tree fs ≡ true) (sym (append-nil before)) h
follow_tree made before (e ∷ es) h m =
    subst (λ (fs : Entries). makes_tree fs ≡ true) (append_assoc before (e ∷ []) es)
    (follow_tree made (before ++ e ∷ []) es (made before (spelled e.0) e.0 e.1 h m.0.0 (fits_entry e.1 m.1)) m.2)

pub request_tree : JudgedMakeTrees → (job : Job) (es : Entries) → IsRequest job es → makes_tree es ≡ true
request_tree made job es is = follow_tree made [] es refl is.follow

fits_body : (e : Entry) → IsSpellable e → body_fits e ≡ true
fits_body Dir is = refl
fits_body (File body) is = le-leb (length body) 16777216 is
fits_body (Link text) is = refl

follow_bodies : (before es : Entries) → MayFollow before es → bodies_fit es ≡ true
follow_bodies before [] m = refl
follow_bodies before (e ∷ es) m = rw (fits_body e.1 m.1, follow_bodies (before ++ e ∷ []) es m.2) refl

pub request_bodies : (job : Job) (es : Entries) → IsRequest job es → bodies_fit es ≡ true
request_bodies job es is = follow_bodies [] es is.follow

-- FROM A TREE TO A REQUEST

node_is : (e : Entry) → entry_fits e ≡ true → IsSmall e → IsSpellable e
node_is Dir fits small = tt
node_is (File body) fits small = small
node_is (Link text) fits small =
    let two = and_parts (nat_lt 0 (length text)) (nat_lt (length text) 4096 && not (list_any (λ c. c == 0) text)) fits in
    let rest = and_parts (nat_lt (length text) 4096) (not (list_any (λ c. c == 0) text)) two.1 in
    (omega (arith, ltb-true 0 (length text) two.0), omega (arith, ltb-true (length text) 4096 rest.0), is_false (list_any (λ c. c == 0) text) rest.1)
  where
    is_false : (b : Bool) → not b ≡ true → b ≡ false
    is_false true h = absurd (cc)
    is_false false h = refl

-- a canonical path that has a parent isn't the root
two_bytes : (before : Entries) (p : Path) → has_parent before p ≡ true → is_canonical p ≡ true → 2 ≤ length (spelled p)
two_bytes before [] h c = absurd (cc)
two_bytes before (name ∷ up) h c =
    let names = and_parts (list_all is_name (name ∷ up)) (nat_le (length (spelled (name ∷ up))) 4096) c in
    let first = and_parts (is_name name) (list_all is_name up) names.0 in
    let some = and_parts (nat_lt 0 (length name)) _ first.0 in
    omega (arith, ltb-true 0 (length name) some.0, length-append (spelled_below up) (slash ∷ name))

-- the parts of the test of a list that makes a tree, entry by entry
record Passes (es : Entries) : Type 0 where
  canonical : list_all (λ e. is_canonical e.0) es ≡ true
  links : links_fit es ≡ true

passes : (es : Entries) → makes_tree es ≡ true → Passes es
passes es h =
    let one = and_parts (is_increasing es) (parents_stand [] es && (list_all (λ e. is_canonical e.0) es && links_fit es)) h in
    let two = and_parts (parents_stand [] es) (list_all (λ e. is_canonical e.0) es && links_fit es) one.1 in
    let three = and_parts (list_all (λ e. is_canonical e.0) es) (links_fit es) two.1 in
    record { canonical = three.0; links = three.1 }

tree_follows : EntriesAreJudged → (before es : Entries) → makes_tree (before ++ es) ≡ true → Passes es → AllByRecursion (λ e. IsSmall e.1) es → MayFollow before es
tree_follows judged before [] h tests small = tt
tree_follows judged before (e ∷ es) h tests small =
    let canonical = and_parts (is_canonical e.0) (list_all (λ f. is_canonical f.0) es) tests.canonical in
    let links = and_parts (entry_fits e.1) (links_fit es) tests.links in
    let long = and_parts (list_all is_name e.0) (nat_le (length (spelled e.0)) 4096) canonical.0 in
    let good = judged before es e.0 e.1 h in (
      (good, two_bytes before e.0 (judged_good before (spelled e.0) e.0 good).2 canonical.0, leb-true (length (spelled e.0)) 4096 long.1),
      node_is e.1 links.0 small.0,
      tree_follows judged (before ++ e ∷ []) es (subst (λ (fs : Entries). makes_tree fs ≡ true) (sym (append_assoc before (e ∷ []) es)) h) (record { canonical = canonical.1; links = links.1 }) small.1,
    )

pub tree_request : EntriesAreJudged → (job : Job) (es : Entries) → FitsRequest job es → length (request_bytes job es) ≤ request_limit → IsRequest job es
tree_request judged job es fits small = record {
  is_job = fits.is_job;
  place = fits.place;
  few_words = fits.few_words;
  words = fits.words;
  few = fits.few;
  follow = tree_follows judged [] es fits.tree (passes es fits.tree) fits.bodies;
  small = small;
}

-- what holds of each element by recursion holds of each by its place
by_place : {X : Type 0} (P Q : X → Type 0) (xs : List X) → ((x : X) → P x → Q x) → AllByRecursion P xs → All Q xs
by_place P Q [] h all = λ k d inside. absurd (omega arith)
by_place {X} P Q (x ∷ xs) h all = at (by_place P Q xs h all.1)
  where
    at : All Q xs → (k : ℕ) (d : X) → k < length (x ∷ xs) → Q (slice_index_or (x ∷ xs) k d)
    at later zero d inside = h x all.0
    at later (suc k) d inside = later k d (omega arith)

have_spellings : (es : Entries) → list_all (λ e. is_canonical e.0) es ≡ true → links_fit es ≡ true → AllByRecursion (λ e. IsSmall e.1) es → AllByRecursion HasSpelling es
have_spellings [] canonical links small = tt
have_spellings (e ∷ es) canonical links small =
    let one = and_parts (is_canonical e.0) (list_all (λ f. is_canonical f.0) es) canonical in
    let two = and_parts (entry_fits e.1) (links_fit es) links in
    let long = and_parts (list_all is_name e.0) (nat_le (length (spelled e.0)) 4096) one.0 in
    ((leb-true (length (spelled e.0)) 4096 long.1, node_is e.1 two.0 small.0), have_spellings es one.1 two.1 small.1)

pub tree_written : (job : Job) (es : Entries) → FitsRequest job es → All (λ word. length word ≤ 4096) job.words × All HasSpelling es
tree_written job es fits =
    let tests = passes es fits.tree in
    (by_place IsWord (λ word. length word ≤ 4096) job.words (λ word is. is.1) fits.words, by_place HasSpelling HasSpelling es (λ e is. is) (have_spellings es tests.canonical tests.links fits.bodies))
