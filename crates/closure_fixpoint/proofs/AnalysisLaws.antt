-- An analysis holds: the entries gathered are those of the job, and nothing is refused wrongly.
use Rattle.std.proofs.Common.{◌≡◌, ◌⊎◌, ◌||◌, ◌<◌, ◌≤◌, ℕ, List, [], ◌∷◌, length, Option, None, Some, IsSome, Bool, true, false, refl, sym, ◌∙◌, ap, subst, arith, inl, inr, ltb-true, ltb-false}
use Rattle.std.specs.Prelude.{Result, Ok, Err, nat_lt, ◌↔◌, IfOk, IfSome}
use Rattle.std.specs.Option.{ForSome}
use Rattle.std.specs.List.{list_all}
use Rattle.std.proofs.lemmas.Bool.{and_parts, or_parts}
use Rattle.base_types.specs.Members.{Member, Within}
use Rattle.base_types.specs.Limits.{entry_limit, request_limit}
use Rattle.directive_scan.specs.declared.HeaderName.{HeaderName}
use Rattle.symbolic_expand.specs.Laws.{MoreKeepHeaders, MoreKeepLongRuns, MoreKeepPresumedRuns, MoreKeepManyRuns}
use Rattle.tree_model.specs.Paths.{Text, Path, spelled, IsAtOrAbove}
use Rattle.tree_model.specs.Entries.{Entries, is_increasing, below}
use Rattle.tree_model.specs.Trees.{FileTree, IsTree, IsTooLarge, entry_at, entry_body}
use Rattle.tree_model.specs.Frame.{HoldsOfLocated}
use Rattle.tree_model.specs.declared.entry.Entry.{Entry}
use Rattle.tree_model.specs.declared.entry.Entry.TheVariants.{Dir, File, Link}
use Rattle.tree_model.proofs.TreeLemmas.{some_entry}
use Rattle.search_path.specs.Laws.{SearchesLocate}
use Rattle.search_path.specs.declared.asking.Visit.{Visit}
use Rattle.job_words.specs.declared.job.Job.{Job}
use Rattle.job_words.specs.JobOf.{JobData}
use Rattle.job_frames.specs.Spelling.{request_bytes}
use Rattle.sheet_build.specs.Laws.{PlacesLocate}
use Rattle.closure_fixpoint.specs.declared.job_analysis.Refusal.{Refusal}
use Rattle.closure_fixpoint.specs.declared.job_analysis.Refusal.TheVariants as refusal
use Rattle.closure_fixpoint.specs.declared.job_analysis.Analysed.TheVariants as analysed
use Rattle.closure_fixpoint.specs.Closure.{AnalysisAnswers, answers_of, IsClosureOf, IsMet, IsMetAtClosure, definitions, sets, known_name}
use Rattle.closure_fixpoint.specs.Laws.{ClosuresExist}
use Rattle.closure_fixpoint.specs.Analysis.{IsNodeOf, AreEntriesOf, Holds, NothingHolds, AnalysisHolds}
use Rattle.closure_fixpoint.specs.Progress.{RefusedMeans}
use Rattle.closure_fixpoint.specs.Told.{RefusalMeans}
use Rattle.closure_fixpoint.specs.Driving.{is_large_in, IsDoneIn}
use Rattle.closure_fixpoint.specs.Requested.{RefusalsHold}
use Rattle.closure_fixpoint.specs.declared.entries.Gathered.TheVariants as gathered
use Rattle.closure_fixpoint.specs.Gathering.{comes_before, AreGathered, HasLarge, is_over, GathersNodes}
use Rattle.closure_fixpoint.proofs.Orders.{in_order}
use Rattle.closure_fixpoint.proofs.MemberLaws.{test-all}
use Rattle.closure_fixpoint.proofs.LeadsLaws.{less_itself, parts, long_more, presumed_more}
use Rattle.closure_fixpoint.proofs.ProgressLaws.{sets-distinct}
use Rattle.closure_fixpoint.proofs.NodeLaws.{nodes_of_done}
use Rattle.closure_fixpoint.proofs.KnownLaws.{node_there, large_node}
use Rattle.closure_fixpoint.proofs.GatherLaws.{dir-holds}

pub for-told : {A : Type 0} (o : Option A) (P : A → Type 0) → ForSome o P → IfSome o P
for-told None P each = tt
for-told (Some x) P each = each x refl

pub ok-for-told : {A R E : Type 0} (o : Option A) (r : Result R E) (P : A → R → Type 0) → ForSome o (λ x. IfOk r (P x)) → IfOk r (λ answer. IfSome o (λ x. P x answer))
ok-for-told o (Ok answer) P each = for-told o (λ x. P x answer) each
ok-for-told o (Err e) P each = tt

-- ENTRIES

-- lists that increase and have the same entries are one
same-lists : (a b : Entries) → is_increasing a ≡ true → is_increasing b ≡ true → ((e : Path × Entry) → Member e a → Member e b) → ((e : Path × Entry) → Member e b → Member e a) → a ≡ b
same-lists [] [] ia ib to back = refl
same-lists [] (y ∷ b) ia ib to back = elim (back y (inl refl)) [ ]
same-lists (x ∷ a) [] ia ib to back = elim (to x (inl refl)) [ ]
same-lists (x ∷ a) (y ∷ b) ia ib to back =
    let heads : x ≡ y = same_heads (to x (inl refl)) (back y (inl refl)) in
    let tails : a ≡ b = same-lists a b (and_parts (list_all (λ f. below (spelled x.0) (spelled f.0)) a) (is_increasing a) ia).1 (and_parts (list_all (λ f. below (spelled y.0) (spelled f.0)) b) (is_increasing b) ib).1
    (λ e m. not_head y b e (to e (inr m)) (λ same. never_itself x a ia (subst (λ (w : Path × Entry). Member w a) (sym same ∙ sym heads) m)))
    (λ e m. not_head x a e (back e (inr m)) (λ same. never_itself y b ib (subst (λ (w : Path × Entry). Member w b) (sym same ∙ heads) m))) in
    ap (λ (h : Path × Entry). h ∷ a) heads ∙ ap (λ (t : Entries). y ∷ t) tails
  where
    behind_head : (h : Path × Entry) (t : Entries) → is_increasing (h ∷ t) ≡ true → (e : Path × Entry) → Member e t → comes_before h.0 e.0 ≡ true
    behind_head h t up e m = test-all (λ (f : Path × Entry). below (spelled h.0) (spelled f.0)) t (and_parts (list_all (λ f. below (spelled h.0) (spelled f.0)) t) (is_increasing t) up).0 e m

    never_itself : (h : Path × Entry) (t : Entries) → is_increasing (h ∷ t) ≡ true → Member h t → ⊥
    never_itself h t up m =
        let is : comes_before h.0 h.0 ≡ true = behind_head h t up h m in
        let not_so : comes_before h.0 h.0 ≡ false = in_order.one_way h.0 h.0 is in absurd (cc)

    not_head : (h : Path × Entry) (t : Entries) (e : Path × Entry) → Member e (h ∷ t) → (h ≡ e → ⊥) → Member e t
    not_head h t e (inl same) never = absurd (never same)
    not_head h t e (inr m) never = m

    same_heads : Member x (y ∷ b) → Member y (x ∷ a) → x ≡ y
    same_heads (inl same) n = sym same
    same_heads (inr m) (inl same) = same
    same_heads (inr m) (inr n) =
        let is : comes_before y.0 x.0 ≡ true = behind_head y b ib x m in
        let not_so : comes_before y.0 x.0 ≡ false = in_order.one_way x.0 y.0 (behind_head x a ia y n) in absurd (cc)

one-list : (tree : FileTree) (job : Job) (a b : Entries) → AreEntriesOf tree job a → AreEntriesOf tree job b → (e : Path × Entry) → Member e a → Member e b
one-list tree job a b are be (path, entry) m =
    let there = be.whole path (are.nodes path entry m) in
    let same : there.0 ≡ entry = some_same there.0 entry (sym (be.same path there.0 there.1) ∙ are.same path entry m) in
    subst (λ (e : Entry). Member (path, e) b) same there.1
  where
    some_same : (x y : Entry) → Some x ≡ Some y → x ≡ y
    some_same x y e = cc

same-entries : (tree : FileTree) (job : Job) (a b : Entries) → AreEntriesOf tree job a → AreEntriesOf tree job b → a ≡ b
same-entries tree job a b are be = same-lists a b are.increasing be.increasing (one-list tree job a b are be) (one-list tree job b a be are)

few : (a b : ℕ) → nat_lt a b ≡ false → a < b → ⊥
few a b e lt = let above : b ≤ a = ltb-false a b e in absurd (omega (arith, above, lt))

file-of : (entry : Entry) (body : Text) → entry_body (Some entry) ≡ Some body → entry ≡ File body
file-of Dir body e = absurd (cc)
file-of (File other) body e = let same : other ≡ body = cc in ap (λ (b : Text). File b) same
file-of (Link text) body e = absurd (cc)

some-same : (x y : Entry) → Some x ≡ Some y → x ≡ y
some-same x y e = cc

-- what is above a node, and isn't the root, is a node
pub up-above : (name : Text) (path met : Path) → IsAtOrAbove (name ∷ path) met → IsAtOrAbove path met
up-above name path [] above = let never : name ∷ path ≡ [] = above in absurd (cc)
up-above name path (other ∷ met) (inl e) =
    let same : path ≡ met = tail-same e in inr (subst (λ (p : Path). IsAtOrAbove path p) same (itself path))
  where
    tail-same : name ∷ path ≡ other ∷ met → path ≡ met
    tail-same e = cc

    itself : (p : Path) → IsAtOrAbove p p
    itself [] = refl
    itself (n ∷ p) = inl refl
up-above name path (other ∷ met) (inr above) = inr (up-above name path met above)

node-above : {tree : FileTree} {job : Job} (name up : Text) (path : Path) → IsNodeOf tree job (name ∷ up ∷ path) → IsNodeOf tree job (up ∷ path)
node-above name up path node = record {
  visits = node.visits;
  closure = node.closure;
  located = node.located;
  known = node.known;
  met = node.met;
  walked = node.walked;
  above = up-above name (up ∷ path) node.met node.above;
  below_root = λ e. let never : up ∷ path ≡ [] = e in absurd (cc);
}

-- WHAT IS SENT

module _ (holds : HoldsOfLocated) (locates : SearchesLocate) (tree : FileTree) (whole : IsTree tree) (job : Job) (nodes : List Path)
    (is_node : (path : Path) → Member path nodes ↔ IsNodeOf tree job path) (entries : Entries) (given : AreGathered tree nodes entries) where
  -- each node of the job is there, the outer ones first
  node-entry : (path : Path) → IsNodeOf tree job path → (entry : Entry) × (entry_at tree path ≡ Some entry) × Member (path, entry) entries
  node-entry [] node = absurd (node.below_root refl)
  node-entry (name ∷ []) node =
      let there = some_entry (entry_at tree (name ∷ [])) (node_there holds locates tree whole job (name ∷ []) node) in
      (there.0, there.1, given.whole (name ∷ []) there.0 ((is_node (name ∷ [])).1 node) there.1 refl)
  node-entry (name ∷ up ∷ path) node =
      let above = node-entry (up ∷ path) (node-above name up path node) in
      let some : IsSome (entry_at tree (name ∷ up ∷ path)) = node_there holds locates tree whole job (name ∷ up ∷ path) node in
      let there = some_entry (entry_at tree (name ∷ up ∷ path)) some in
      let is_dir : above.0 ≡ Dir = some-same above.0 Dir (sym above.1 ∙ whole.parent name (up ∷ path) some) in (
        there.0,
        there.1,
        given.whole (name ∷ up ∷ path) there.0 ((is_node (name ∷ up ∷ path)).1 node) there.1
            (dir-holds entries name up path (subst (λ (e : Entry). Member (up ∷ path, e) entries) is_dir above.2)),
      )

  pub are-sent : AreEntriesOf tree job entries
  are-sent = record {
    increasing = given.increasing;
    nodes = λ path entry m. (is_node path).0 (given.inside path entry m);
    same = given.same;
    whole = λ path node. let there = node-entry path node in (there.0, there.2);
  }

-- REFUSALS

-- a refusal that an analysis told holds
pub refusals-hold : MoreKeepHeaders HeaderName → HoldsOfLocated → SearchesLocate → PlacesLocate → ClosuresExist → RefusalsHold
refusals-hold keep holds locates places exist tree job budget heard why whole is_true means = by_why why means
  where
    closure : (visits : List Visit) × IsClosureOf tree job visits
    closure = exist tree job whole

    at_closure : (why : Refusal) → RefusedMeans job budget heard why → IsMetAtClosure why tree job budget
    at_closure why means = record {
      visits = closure.0;
      closure = closure.1;
      met = means (answers_of tree job) (is_large_in tree) is_true closure.0 closure.1.closed;
    }

    by_why : (why : Refusal) → RefusalMeans job budget heard why → Holds why tree job budget
    by_why refusal.Budget means = at_closure refusal.Budget means
    by_why refusal.Long means = at_closure refusal.Long means
    by_why refusal.Presumed means = at_closure refusal.Presumed means
    by_why refusal.Visits means = at_closure refusal.Visits means
    by_why refusal.Large means =
        let visit = means (answers_of tree job) (is_large_in tree) is_true closure.0 closure.1.closed in
        large_node holds locates tree whole job closure.0 closure.1 keep places visit.0 visit.1 visit.2
    by_why refusal.Request means = absurd (means (answers_of tree job) (is_large_in tree) is_true closure.0 closure.1.closed)
    by_why refusal.NoSource means = means (answers_of tree job) (is_large_in tree) is_true closure.0 closure.1.closed

module _ (keep : MoreKeepHeaders HeaderName) (long : MoreKeepLongRuns) (presumed : MoreKeepPresumedRuns) (many : MoreKeepManyRuns) where
  -- what is met at some visits is met at more
  met-more : (answers : AnalysisAnswers) (job : JobData) (budget : ℕ) (less more : List Visit) → Within less more → (why : Refusal) → IsMet why answers job budget less → IsMet why answers job budget more
  met-more answers job budget less more within refusal.Budget s = record {
    visit = s.visit;
    c = s.c;
    asked = record { visited = within s.visit s.asked.visited; stands = s.asked.stands };
    holds = many budget (sets answers job less) (sets answers job more) (known_name (answers.sheet s.visit) s.visit) s.c.tokens (sets-distinct (definitions answers job less))
        (parts answers answers (less_itself answers) job less more within) s.holds;
  }
  met-more answers job budget less more within refusal.Long s = long_more answers answers (less_itself answers) job less more within long s
  met-more answers job budget less more within refusal.Presumed s = presumed_more answers answers (less_itself answers) job less more within presumed s
  met-more answers job budget less more within refusal.Visits (some, once, inside, over) = (some, once, λ x m. within x (inside x m), over)
  met-more answers job budget less more within refusal.Large s = s
  met-more answers job budget less more within refusal.Request s = s
  met-more answers job budget less more within refusal.NoSource s = s

  module _ (holds : HoldsOfLocated) (locates : SearchesLocate) (tree : FileTree) (whole : IsTree tree) (job : Job) (budget : ℕ) where
    -- THE ANSWER

    module _ (visits : List Visit) (nodes : List Path) (done : IsDoneIn tree job budget visits nodes) where
      closure_is : IsClosureOf tree job visits
      closure_is = done.done.closure (answers_of tree job) (is_large_in tree) done.is_true

      is_node : (path : Path) → Member path nodes ↔ IsNodeOf tree job path
      is_node = nodes_of_done keep tree (is_large_in tree) job budget done.heard visits nodes done.is_true done.done done.nodes_are

      -- what is met at the closure isn't met here
      not-met : (why : Refusal) → IsMetAtClosure why tree job budget → ⊥
      not-met why met =
          done.done.accepted (answers_of tree job) (is_large_in tree) done.is_true why
          (met-more (answers_of tree job) job budget met.visits visits (met.closure.least visits closure_is.closed) why met.met)

      module _ (entries : Entries) (given : AreGathered tree nodes entries) where
        pub are : AreEntriesOf tree job entries
        are = are-sent holds locates tree whole job nodes is_node entries given

        none-large : (HasLarge entries → ⊥) → (path : Path) → IsNodeOf tree job path → IsTooLarge tree path → ⊥
        none-large small path node (body, is, large) =
            let there = node-entry holds locates tree whole job nodes is_node entries given path node in
            small (path, body, subst (λ (e : Entry). Member (path, e) entries) (file-of there.0 body (ap entry_body (sym there.1) ∙ is)) there.2, large)

        large-holds : HasLarge entries → Holds refusal.Large tree job budget
        large-holds (path, body, m, large) = (path, (is_node path).0 (given.inside path (File body) m), (body, ap entry_body (given.same path (File body) m), large))

        request-holds : is_over job entries ≡ true → Holds refusal.Request tree job budget
        request-holds over = (entries, are, by_test (nat_lt entry_limit (length entries)) refl over)
          where
            by_test : (b : Bool) → nat_lt entry_limit (length entries) ≡ b → (b || nat_lt request_limit (length (request_bytes job entries))) ≡ true
                → (entry_limit < length entries) ⊎ (request_limit < length (request_bytes job entries))
            by_test true e h = inl (ltb-true entry_limit (length entries) e)
            by_test false e h = inr (ltb-true request_limit (length (request_bytes job entries)) h)

        nothing : (HasLarge entries → ⊥) → is_over job entries ≡ false → NothingHolds tree job budget
        nothing small fits refusal.Budget h = not-met refusal.Budget h
        nothing small fits refusal.Long h = not-met refusal.Long h
        nothing small fits refusal.Presumed h = not-met refusal.Presumed h
        nothing small fits refusal.Visits h = not-met refusal.Visits h
        nothing small fits refusal.Large (path, node, large) = none-large small path node large
        nothing small fits refusal.Request (others, be, inl many) =
            few entry_limit (length entries) (or_parts (nat_lt entry_limit (length entries)) (nat_lt request_limit (length (request_bytes job entries))) fits).0
            (subst (λ (e : Entries). entry_limit < length e) (same-entries tree job others entries be are) many)
        nothing small fits refusal.Request (others, be, inr long) =
            few request_limit (length (request_bytes job entries)) (or_parts (nat_lt entry_limit (length entries)) (nat_lt request_limit (length (request_bytes job entries))) fits).1
            (subst (λ (e : Entries). request_limit < length (request_bytes job e)) (same-entries tree job others entries be are) long)
        nothing small fits refusal.NoSource none = done.done.accepted (answers_of tree job) (is_large_in tree) done.is_true refusal.NoSource none

      -- what is gathered answers the job
      pub gathered-refused : (why : Refusal) → GathersNodes tree job nodes (gathered.Refused why) → Holds why tree job budget
      gathered-refused refusal.Budget h = absurd h
      gathered-refused refusal.Long h = absurd h
      gathered-refused refusal.Presumed h = absurd h
      gathered-refused refusal.Visits h = absurd h
      gathered-refused refusal.Large (entries, are, large) = large-holds entries are large
      gathered-refused refusal.Request (entries, are, small, over) = request-holds entries are over
      gathered-refused refusal.NoSource h = absurd h

      pub gathered-holds : (entries : Entries) → AreGathered tree nodes entries → (HasLarge entries → ⊥) → is_over job entries ≡ false → (sent : List ℕ) → sent ≡ request_bytes job entries
          → AnalysisHolds tree job budget (analysed.Request sent)
      gathered-holds entries given small fits sent is = ((entries, are entries given, is), nothing entries given small fits)
