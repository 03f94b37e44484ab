-- A tree, and the tree of a job's entries, are worlds that agree where the analysis searches.
use Rattle.std.proofs.Common.{◌≡◌, ◌∷◌, [], List, Option, Some, None, Bool, IsTrue, inl, inr, refl, sym, ap, subst, ◌∙◌, cond, unwrap_or}
use Rattle.base_types.specs.Members.{Member}
use Rattle.pp_tokens.specs.Lines.{lexed}
use Rattle.directive_scan.specs.declared.HeaderName.{HeaderName}
use Rattle.directive_scan.specs.Directives.{pieces}
use Rattle.tree_model.specs.Paths.{Text, Path, parent}
use Rattle.tree_model.specs.Entries.{Entries, makes_tree}
use Rattle.tree_model.specs.Trees.{FileTree, IsTree, Sub, tree_of, entry_at, entry_body}
use Rattle.tree_model.specs.Bodies.{body_at_path}
use Rattle.tree_model.specs.Walk.{locate}
use Rattle.tree_model.specs.Frame.{LocatedHolds, HoldsOfLocated, LeadsOfLocated}
use Rattle.tree_model.specs.Laws.{ListsMakeTrees, EntriesAreNodes}
use Rattle.tree_model.specs.declared.entry.Entry.{Entry}
use Rattle.tree_model.specs.declared.entry.Entry.TheVariants.{Dir}
use Rattle.tree_model.specs.declared.walk.Located.{Located}
use Rattle.search_path.specs.Search.{Hit, search}
use Rattle.search_path.specs.Asks.{forced_ask}
use Rattle.search_path.specs.Laws.{IsStart, SearchesLocate, IsFoundInPart, IsFoundInNoPart}
use Rattle.search_path.specs.declared.asking.Visit.{Visit}
use Rattle.search_path.specs.declared.asking.Ask.{Ask}
use Rattle.job_words.specs.JobOf.{JobData}
use Rattle.daemon_cpp.specs.Prep.{world_of}
use Rattle.sheet_build.specs.Laws.{PlacesLocate}
use Rattle.sheet_build.specs.Sheet.{asked_for, empty_sheet, sheet_from, body_found, body_of_place, sheet_of_body, sheet_of}
use Rattle.closure_fixpoint.specs.Closure.{answers_of, IsClosureOf, first_asks, IsKnownSearch}
use Rattle.closure_fixpoint.specs.Analysis.{IsNodeOf, AreEntriesOf}
use Rattle.mirror_soundness.specs.Mirror.{IsAnalysed}
use Rattle.closure_fixpoint.proofs.MemberLaws.{MappedBy, map-Member}
use Rattle.mirror_soundness.proofs.MadeTree.{at_itself}
use Rattle.closure_fixpoint.proofs.Searched.{IsHome, known_located}
use Rattle.mirror_soundness.proofs.Targets.{HasSheet, Analyses}
use Rattle.mirror_soundness.proofs.Alike.{Agree}

-- HOMES AND SHEETS

module _ (holds : HoldsOfLocated) (locates : SearchesLocate) (places : PlacesLocate) (tree : FileTree) (whole : IsTree tree) (job : JobData) where
  -- what is located from a directory is at home, and its sheet is that of its bytes
  found_home : (dir : Path) (text : Text) (hit : Hit) → entry_at tree dir ≡ Some Dir → locate tree dir text ≡ Some hit.1 → hit.0.place ≡ hit.1.place
      → IsHome tree hit.0.place × HasSheet (world_of tree job.setup) (sheet_of tree job.setup) hit
  unfolding sheet_of
  found_home dir text hit is_dir located place = (home, has_sheet)
    where
      facts : LocatedHolds tree text hit.1
      facts = holds tree dir text hit.1 whole is_dir located

      home : IsHome tree hit.0.place
      home = ap (λ (p : Path). entry_at tree (parent p)) (place ∙ facts.below) ∙ facts.dir

      same_body : body_of_place tree hit.0.place ≡ body_at_path tree hit.1.real
      same_body =
          let again = places tree dir text hit.1 whole is_dir located in
          ap (λ (p : Path). body_of_place tree p) place
          ∙ ap (body_found tree) again.1
          ∙ ap (body_at_path tree) again.2

      has_sheet : HasSheet (world_of tree job.setup) (sheet_of tree job.setup) hit
      has_sheet small =
          ap (λ (body : Text). sheet_of_body (search tree job.setup) job.setup.trigraphs hit.0 body) same_body
          ∙ ap (λ (b : Bool). cond b (sheet_from (search tree job.setup) hit.0 (pieces (lexed job.setup.trigraphs (body_at_path tree hit.1.real)).lines)) empty_sheet) small

  start_dir : (ask : Ask) (dir : Path) → IsStart ask dir → ((visit : Visit) → ask.from ≡ Some visit → IsHome tree visit.place) → entry_at tree dir ≡ Some Dir
  start_dir ask dir (inl e) from = ap (entry_at tree) e ∙ whole.root
  start_dir ask dir (inr (visit, is, e)) from = ap (entry_at tree) e ∙ from visit is

  searched_home : (ask : Ask) (hit : Hit) → ((visit : Visit) → ask.from ≡ Some visit → IsHome tree visit.place) → search tree job.setup ask ≡ Some hit
      → IsHome tree hit.0.place × HasSheet (world_of tree job.setup) (sheet_of tree job.setup) hit
  searched_home ask hit from is =
      let h = locates tree job.setup ask hit is in
      found_home h.dir h.text hit (start_dir ask h.dir h.start from) h.located h.place

  next_home : (visit : Visit) (next : Bool) (header : HeaderName) (hit : Hit) → IsHome tree visit.place → search tree job.setup (asked_for visit next header) ≡ Some hit
      → IsHome tree hit.0.place × HasSheet (world_of tree job.setup) (sheet_of tree job.setup) hit
  next_home visit next header hit home is =
      searched_home (asked_for visit next header) hit
      (λ other same. let is_same : Some visit ≡ Some other = same in let same_visit : visit ≡ other = cc in subst (λ (v : Visit). IsHome tree v.place) same_visit home) is

  first_from : (ask : Ask) → Member ask (first_asks job) → ask.from ≡ None
  first_from ask (inl same) = ap (λ (x : Ask). x.from) (sym same)
  first_from ask (inr m) = let by : MappedBy forced_ask job.forced ask = map-Member forced_ask ask job.forced m in ap (λ (x : Ask). x.from) (sym by.gives)

  first_home : (ask : Ask) (hit : Hit) → Member ask (first_asks job) → search tree job.setup ask ≡ Some hit
      → IsHome tree hit.0.place × HasSheet (world_of tree job.setup) (sheet_of tree job.setup) hit
  first_home ask hit m is =
      searched_home ask hit (λ visit from. let never : None ≡ Some visit = sym (first_from ask m) ∙ from in absurd (cc)) is

-- THE TREE WITH ITSELF, AND THE TREE OF THE ENTRIES

module _ (holds : HoldsOfLocated) (locates : SearchesLocate) (places : PlacesLocate) (leads : LeadsOfLocated) (tree : FileTree) (whole : IsTree tree) (job : JobData)
    (visits : List Visit) (closure : IsClosureOf tree job visits) (analysed : IsAnalysed tree job) where
  analyses : Analyses (world_of tree job.setup) (sheet_of tree job.setup) job visits (IsHome tree)
  analyses = record {
    closed = closure.closed;
    short = λ long. analysed.short visits closure long;
    told = λ presumed. analysed.told visits closure presumed;
    first_home = first_home holds locates places tree whole job;
    next_home = next_home holds locates places tree whole job;
  }

  pub agrees_with_itself : Agree (world_of tree job.setup) (world_of tree job.setup) (sheet_of tree job.setup) job visits (IsHome tree)
  agrees_with_itself = record {
    analysis = analyses;
    trigraphs = refl;
    finds = λ ask known. refl;
    bodies = λ l known. refl;
  }

  module _ (lists : ListsMakeTrees) (nodes : EntriesAreNodes) (in_part : IsFoundInPart) (in_no_part : IsFoundInNoPart) (entries : Entries) (are : AreEntriesOf tree job entries)
      (makes : IsTrue (makes_tree entries)) (sub : Sub (tree_of entries) tree) where
    -- both trees are the same at the nodes walked by a search that is known
    same_at : (l : Located) → IsKnownSearch (answers_of tree job) job visits l → (path : Path) → Member path l.walked → entry_at (tree_of entries) path ≡ entry_at tree path
    same_at l known [] m = (lists entries makes).root ∙ sym whole.root
    same_at l known (name ∷ path) m =
        let node : IsNodeOf tree job (name ∷ path) =
        record { visits = visits; closure = closure; located = l; known = known; met = name ∷ path; walked = m; above = at_itself (name ∷ path); below_root = λ e. cc } in
        let there = are.whole (name ∷ path) node in
        nodes entries makes (name ∷ path) there.0 there.1 ∙ sym (are.same (name ∷ path) there.0 there.1)

    same_find : (ask : Ask) → ((hit : Hit) → search tree job.setup ask ≡ Some hit → IsKnownSearch (answers_of tree job) job visits hit.1)
        → search (tree_of entries) job.setup ask ≡ search tree job.setup ask
    same_find ask known = go (search tree job.setup ask) refl
      where
        go : (got : Option Hit) → search tree job.setup ask ≡ got → search (tree_of entries) job.setup ask ≡ search tree job.setup ask
        go None is = in_no_part (tree_of entries) tree job.setup ask sub is ∙ sym is
        go (Some hit) is = in_part (tree_of entries) tree job.setup ask hit sub is (same_at hit.1 (known hit is)) ∙ sym is

    same_body : (l : Located) → IsKnownSearch (answers_of tree job) job visits l → body_at_path (tree_of entries) l.real ≡ body_at_path tree l.real
    same_body l known =
        let so = known_located tree job locates visits l known in
        ap (λ (o : Option Entry). unwrap_or (entry_body o) []) (same_at l known l.real (leads (entry_at tree) so.dir so.text l so.located).real)

    pub agrees_with_entries : Agree (world_of (tree_of entries) job.setup) (world_of tree job.setup) (sheet_of tree job.setup) job visits (IsHome tree)
    agrees_with_entries = record {
      analysis = analyses;
      trigraphs = refl;
      finds = same_find;
      bodies = same_body;
    }
