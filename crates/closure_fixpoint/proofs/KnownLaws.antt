-- What is known at the closure of a job stands in the tree.
use Rattle.std.proofs.Common.{◌≡◌, ◌⊎◌, ◌<◌, List, [], ◌∷◌, ◌++◌, length, Option, Some, None, IsSome, true, inl, inr, refl, sym, ap, subst, ◌∙◌, ltb-true, unwrap_or}
use Rattle.base_types.specs.Members.{Member, Within}
use Rattle.directive_scan.specs.declared.HeaderName.{HeaderName}
use Rattle.symbolic_expand.specs.Laws.{MoreKeepHeaders}
use Rattle.tree_model.specs.Paths.{Text, Path, spelled, IsAtOrAbove}
use Rattle.base_types.specs.Limits.{body_limit}
use Rattle.tree_model.specs.Trees.{FileTree, IsTree, entry_at, body_at, entry_body, IsTooLarge}
use Rattle.tree_model.specs.Bodies.{body_at_path}
use Rattle.tree_model.specs.Walk.{locate}
use Rattle.tree_model.specs.Frame.{LocatedHolds, HoldsOfLocated}
use Rattle.tree_model.specs.declared.entry.Entry.{Entry}
use Rattle.tree_model.specs.declared.entry.Entry.TheVariants.{Dir}
use Rattle.tree_model.specs.declared.walk.Located.{Located}
use Rattle.tree_model.proofs.MemberLemmas.{Member-append, Member-append_left, Member-append_right}
use Rattle.search_path.specs.Search.{Hit, search}
use Rattle.search_path.specs.Laws.{IsStart, HitIsLocated, SearchesLocate}
use Rattle.search_path.specs.Asks.{forced_ask}
use Rattle.search_path.specs.declared.asking.Visit.{Visit}
use Rattle.search_path.specs.declared.asking.Ask.{Ask}
use Rattle.job_words.specs.JobOf.{JobData}
use Rattle.sheet_build.specs.Laws.{PlacesLocate}
use Rattle.sheet_build.specs.Sheet.{asked_for, body_found, body_of_place}
use Rattle.closure_fixpoint.specs.Closure.{answers_of, computed_ask, first_asks, first_hits, first_visits, LeadsTo, ByName, ByTokens, IsClosedFor, IsClosureOf, IsKnownSearch, AtFirst, Included, Probed, ByMacros}
use Rattle.closure_fixpoint.specs.Analysis.{IsNodeOf}
use Rattle.closure_fixpoint.specs.Driving.{is_large_in}
use Rattle.closure_fixpoint.proofs.MemberLaws.{GivenBy, filter_map-Member, MappedBy, map-Member}
use Rattle.closure_fixpoint.proofs.LeadsLaws.{leads_monotone, led, led_sound, led_whole}
use Rattle.closure_fixpoint.proofs.Searched.{IsHome, IsSearched, included_searched, IsProbed, probed_searched}
use Rattle.closure_fixpoint.proofs.Bounds.{all_visits, all_closed, visit_home, from_visit}

-- a file that is located from a directory
pub record IsFoundFrom (tree : FileTree) (l : Located) : Type 0 where
  pub dir : Path
  pub text : Text
  pub there : entry_at tree dir ≡ Some Dir
  pub located : locate tree dir text ≡ Some l

-- first searches are made from no file
no_from : (job : JobData) (ask : Ask) → Member ask (first_asks job) → ask.from ≡ None
no_from job ask (inl same) = ap (λ (x : Ask). x.from) (sym same)
no_from job ask (inr n) = let by : MappedBy forced_ask job.forced ask = map-Member forced_ask ask job.forced n in ap (λ (x : Ask). x.from) (sym by.gives)

from_none : {P : Type 0} (from : Option Visit) (visit : Visit) → from ≡ None → from ≡ Some visit → P
from_none from visit none some = let never : None ≡ Some visit = sym none ∙ some in absurd (cc)

module _ (holds : HoldsOfLocated) (locates : SearchesLocate) (tree : FileTree) (whole : IsTree tree) (job : JobData) where
  searched_from : (ask : Ask) (hit : Hit) → ((visit : Visit) → ask.from ≡ Some visit → IsHome tree visit.place) → search tree job.setup ask ≡ Some hit → IsFoundFrom tree hit.1
  searched_from ask hit from is =
      let h : HitIsLocated tree ask hit = locates tree job.setup ask hit is in
      record { dir = h.dir; text = h.text; there = start_dir h.dir h.start; located = h.located }
    where
      start_dir : (dir : Path) → IsStart ask dir → entry_at tree dir ≡ Some Dir
      start_dir dir (inl e) = ap (entry_at tree) e ∙ whole.root
      start_dir dir (inr (visit, same, e)) = ap (entry_at tree) e ∙ from visit same

  first_from : (hit : Hit) → Member hit (first_hits (answers_of tree job) job) → IsFoundFrom tree hit.1
  first_from hit m =
      let by : GivenBy (search tree job.setup) (first_asks job) hit = filter_map-Member (search tree job.setup) hit (first_asks job) m in
      searched_from by.by hit (λ visit from. from_none by.by.from visit (no_from job by.by by.member) from) by.gives

  first_place : (hit : Hit) → Member hit (first_hits (answers_of tree job) job) → hit.0.place ≡ hit.1.place
  first_place hit m =
      let by : GivenBy (search tree job.setup) (first_asks job) hit = filter_map-Member (search tree job.setup) hit (first_asks job) m in
      (locates tree job.setup by.by hit by.gives).place

  module _ (visits : List Visit) (closure : IsClosureOf tree job visits) where
    -- each file of the closure stands in a directory
    closure_home : (visit : Visit) → Member visit visits → IsHome tree visit.place
    closure_home visit m =
        visit_home holds locates tree whole job visit (closure.least (all_visits tree job.setup) (all_closed holds locates tree whole job) visit m)

    asked_from : (visit : Visit) → Member visit visits → (hit : Hit) → IsSearched tree job visit hit → IsFoundFrom tree hit.1
    asked_from visit inside hit s =
        searched_from (asked_for visit s.next s.header) hit (λ other e. from_visit holds locates tree whole job visit other e (closure_home visit inside)) s.found

    pub known_from : (l : Located) → IsKnownSearch (answers_of tree job) job visits l → IsFoundFrom tree l
    known_from _ (AtFirst hit m) = first_from hit m
    known_from _ (Included visit hit inside m) = asked_from visit inside hit (included_searched tree job visit hit m)
    known_from _ (Probed visit l inside m) =
        let probed : IsProbed tree job visit l = probed_searched tree job visit l m in
        subst (λ (x : Located). IsFoundFrom tree x) probed.is (asked_from visit inside probed.hit probed.searched)
    known_from _ (ByMacros visit c hit inside finds) =
        searched_from (computed_ask visit c finds.header) hit (λ other e. from_visit holds locates tree whole job visit other e (closure_home visit inside)) finds.found

    known_holds : (l : Located) → IsKnownSearch (answers_of tree job) job visits l → (text : Text) × LocatedHolds tree text l
    known_holds l known =
        let from : IsFoundFrom tree l = known_from l known in (from.text, holds tree from.dir from.text l whole from.there from.located)

    -- EACH VISIT IS THAT OF A FILE THAT IS KNOWN

    pub record IsVisitFound (visit : Visit) : Type 0 where
      pub located : Located
      pub known : IsKnownSearch (answers_of tree job) job visits located
      pub place : located.place ≡ visit.place

    -- the first visits, and those that the closure leads to
    reached : List Visit
    reached = first_visits (answers_of tree job) job ++ led (answers_of tree job) job visits

    reached_inside : Within reached visits
    unfolding reached
    reached_inside visit m = go (Member-append visit (first_visits (answers_of tree job) job) (led (answers_of tree job) job visits) m)
      where
        go : Member visit (first_visits (answers_of tree job) job) ⊎ Member visit (led (answers_of tree job) job visits) → Member visit visits
        go (inl n) = closure.closed.begins visit n
        go (inr n) = let by = led_sound (answers_of tree job) job visits visit n in closure.closed.next by.0 visit by.1 by.2

    reached_closed : MoreKeepHeaders HeaderName → IsClosedFor (answers_of tree job) job reached
    unfolding reached
    reached_closed keep = record {
      begins = λ v m. Member-append_left v (first_visits (answers_of tree job) job) (led (answers_of tree job) job visits) m;
      next = λ v t m leads.
          Member-append_right t (first_visits (answers_of tree job) job) (led (answers_of tree job) job visits)
          (led_whole (answers_of tree job) job visits v t (reached_inside v m) (leads_monotone keep (answers_of tree job) job reached visits v t reached_inside leads));
    }

    led_found : (visit target : Visit) → Member visit visits → LeadsTo (answers_of tree job) job visits visit target → IsVisitFound target
    led_found visit target inside (ByName hit m same) =
        let s : IsSearched tree job visit hit = included_searched tree job visit hit m in
        record {
          located = hit.1;
          known = Included visit hit inside m;
          place = sym (locates tree job.setup (asked_for visit s.next s.header) hit s.found).place ∙ ap (λ (v : Visit). v.place) same;
        }
    led_found visit target inside (ByTokens c hit f include same) = record {
      located = hit.1;
      known = ByMacros visit c hit inside f;
      place = sym (locates tree job.setup (computed_ask visit c f.header) hit f.found).place ∙ ap (λ (v : Visit). v.place) same;
    }

    first_found : (visit : Visit) → Member visit (first_visits (answers_of tree job) job) → IsVisitFound visit
    first_found visit m =
        let by : MappedBy (λ (hit : Hit). hit.0) (first_hits (answers_of tree job) job) visit = map-Member (λ (hit : Hit). hit.0) visit (first_hits (answers_of tree job) job) m in
        record { located = by.by.1; known = AtFirst by.by by.member; place = sym (first_place by.by by.member) ∙ ap (λ (v : Visit). v.place) by.gives }

    pub visit_found : MoreKeepHeaders HeaderName → (visit : Visit) → Member visit visits → IsVisitFound visit
    unfolding reached
    visit_found keep visit m =
        go (Member-append visit (first_visits (answers_of tree job) job) (led (answers_of tree job) job visits) (closure.least reached (reached_closed keep) visit m))
      where
        go : Member visit (first_visits (answers_of tree job) job) ⊎ Member visit (led (answers_of tree job) job visits) → IsVisitFound visit
        go (inl n) = first_found visit n
        go (inr n) = let by = led_sound (answers_of tree job) job visits visit n in led_found by.0 visit by.1 by.2

    -- NODES

    there_above : (path met : Path) → IsSome (entry_at tree met) → IsAtOrAbove path met → IsSome (entry_at tree path)
    there_above path [] there above = subst (λ (p : Path). IsSome (entry_at tree p)) (sym above) there
    there_above path (name ∷ met) there (inl e) = subst (λ (p : Path). IsSome (entry_at tree p)) (sym e) there
    there_above path (name ∷ met) there (inr above) =
        let P : Option Entry → Type 0 = IsSome in
        there_above path met (subst P (sym (whole.parent name met there)) refl) above

    known_node_there : (l : Located) → IsKnownSearch (answers_of tree job) job visits l → (met path : Path) → Member met l.walked → IsAtOrAbove path met → IsSome (entry_at tree path)
    known_node_there l known met path walked above = there_above path met ((known_holds l known).1.nodes met walked) above

    -- A TOO LARGE FILE

    root_no_file : (path : Path) → path ≡ [] → IsSome (body_at tree path) → ⊥
    root_no_file path e some =
        let is : body_at tree path ≡ None = ap (λ (p : Path). entry_body (entry_at tree p)) e ∙ ap entry_body whole.root in
        some_none (body_at tree path) is some
      where
        some_none : (o : Option Text) → o ≡ None → IsSome o → ⊥
        some_none None is some = absurd (cc)
        some_none (Some x) is some = absurd (cc)

    itself : (path : Path) → IsAtOrAbove path path
    itself [] = refl
    itself (name ∷ path) = inl refl

    some_body : (o : Option Text) → IsSome o → o ≡ Some (unwrap_or o [])
    some_body None some = absurd (cc)
    some_body (Some x) some = refl

    pub large_node : MoreKeepHeaders HeaderName → PlacesLocate → (visit : Visit) → Member visit visits → is_large_in tree visit ≡ true → (path : Path) × IsNodeOf tree job path × IsTooLarge tree path
    large_node keep places visit m large =
        let found : IsVisitFound visit = visit_found keep visit m in
        let from : IsFoundFrom tree found.located = known_from found.located found.known in
        let facts : LocatedHolds tree from.text found.located = holds tree from.dir from.text found.located whole from.there from.located in
        let again = places tree from.dir from.text found.located whole from.there from.located in
        let leads : locate tree [] (spelled visit.place) ≡ Some again.0 = ap (λ (p : Path). locate tree [] (spelled p)) (sym found.place) ∙ again.1 in
        let body_is : body_of_place tree visit.place ≡ body_at_path tree found.located.real =
        ap (body_found tree) leads ∙ ap (body_at_path tree) again.2 in (
          found.located.real,
          record {
            visits = visits;
            closure = closure;
            located = found.located;
            known = found.known;
            met = found.located.real;
            walked = facts.real;
            above = itself found.located.real;
            below_root = λ e. root_no_file found.located.real e facts.file;
          },
          (
            body_at_path tree found.located.real,
            some_body (body_at tree found.located.real) facts.file,
            subst (λ (body : Text). body_limit < length body) body_is (ltb-true body_limit (length (body_of_place tree visit.place)) large),
          ),
        )

  -- a node of the job stands in the tree
  pub node_there : (path : Path) → IsNodeOf tree job path → IsSome (entry_at tree path)
  node_there path node = known_node_there node.visits node.closure node.located node.known node.met path node.walked node.above
