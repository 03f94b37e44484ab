-- What an analysis keeps, call by call.
use Rattle.std.proofs.Common.{◌≡◌, ℕ, ◌∷◌, ◌++◌, [], List, length, take, map, Option, Some, None, Bool, true, false, inl, inr, refl, sym, ap, subst, ◌∙◌}
use Rattle.std.specs.List.{slice_get}
use Rattle.base_types.specs.Members.{Member}
use Rattle.directive_scan.specs.declared.HeaderName.{HeaderName}
use Rattle.symbolic_expand.specs.Laws.{MoreKeepHeaders, MoreKeepLongRuns, MoreKeepPresumedRuns, MoreKeepManyRuns}
use Rattle.search_path.specs.Search.{Hit, NeedsFrom}
use Rattle.search_path.specs.declared.asking.Visit.{Visit}
use Rattle.search_path.specs.declared.asking.Ask.{Ask}
use Rattle.job_words.specs.JobOf.{JobData}
use Rattle.sheet_build.specs.Sheet.{SheetData}
use Rattle.closure_fixpoint.specs.declared.job_analysis.Refusal.{Refusal}
use Rattle.closure_fixpoint.specs.declared.job_analysis.Refusal.TheVariants.{Large}
use Rattle.closure_fixpoint.specs.declared.naming.Naming.{Naming}
use Rattle.closure_fixpoint.specs.Progress.{Heard, with_sheet, IsWanted, FoundKeeps, PlainAreFound, IsEnough, IsAccepted, AtFirst, ForTarget, IsNewSearch, IsNewSheet, LargeMeans, DoneMeans, located_told}
use Rattle.std.specs.Option.{is_some}
use Rattle.closure_fixpoint.specs.declared.fixpoint.Closure.{Closure}
use Rattle.closure_fixpoint.specs.declared.wanting.Want.{Want}
use Rattle.closure_fixpoint.specs.declared.wanting.Want.TheVariants as want
use Rattle.closure_fixpoint.specs.Closure.{with_angle}
use Rattle.closure_fixpoint.specs.Targets.{heard_of, IsNextWant}
use Rattle.closure_fixpoint.specs.parts.Plan.{IsReady, IsWhole, PlanMeans}
use Rattle.closure_fixpoint.specs.declared.plan.Plan.{Plan}
use Rattle.closure_fixpoint.specs.declared.plan.Plan.TheVariants as plan
use Rattle.search_path.specs.Asks.{forced_ask}
use Rattle.search_path.specs.declared.asking.Form.{Form}
use Rattle.search_path.specs.declared.asking.Form.TheVariants.{Source, Forced, Quote, Angle, NextQuote, NextAngle}
use Rattle.closure_fixpoint.specs.Told.{Pending, NothingAsked, OfSearch, OfSheet, Ended, Finished, RefusedBy, Progress, IsRight, RefusalMeans, StandsBy, IsDone, AreNodesOf}
use Rattle.closure_fixpoint.specs.parts.Worklist.{with_visit, with_visits, with_hit, TellsSome, TellsNoVisit}
use Rattle.closure_fixpoint.specs.Naming.{Follows}
use Rattle.closure_fixpoint.proofs.MemberLaws.{MappedBy, map-Member}
use Rattle.closure_fixpoint.proofs.ProgressLaws.{keeps_nothing, done_means}
use Rattle.closure_fixpoint.proofs.WorklistLaws.{keeps_visit, keeps_answered, keeps_unanswered, keeps_told, keeps_whole, keeps_large}
use Rattle.closure_fixpoint.proofs.GrownLaws.{Grows, grows_visit, stands_at, next_is_new, grows_none, grows_visits, grows_hit, grows_as, still_there, still_in_order, next_in_order, still_plain, plain_of_sheet, all_told}
use Rattle.closure_fixpoint.proofs.FollowsLaws.{follows_more}

-- where no file is too large, what was told is searches and sheets
pub heard_is : (heard : Heard) → heard.large ≡ None → heard ≡ heard_of heard.searches heard.sheets
heard_is heard small = ap (λ (large : Option Visit). record heard { large = large }) small

-- NOTHING WAS TOLD

pub by_nothing : (naming : Naming) (job : JobData) (budget : ℕ) → Follows naming job []
    → StandsBy naming (record { job = job; budget = budget; heard = record { searches = []; sheets = []; large = None }; found = []; pending = NothingAsked; ended = None; broken = false })
by_nothing naming job budget follows = record {
  stands = record {
    keeps = keeps_nothing job;
    right = tt;
    in_order = λ calm. refl;
    plain = λ calm visit sheet hit m n. elim m [ ];
    large = λ visit is. absurd (cc);
    finished = λ is. absurd (cc);
    refused = λ refusal is. absurd (cc);
    too_large = λ visit refusal is end. absurd (cc);
    quiet = λ ended is. refl;
  };
  follows = λ calm. follows;
}

-- WANT OF MEMORY, AND ANSWERS THAT WEREN'T ASKED FOR

never_calm : {X : Type 0} → true ≡ false → X
never_calm calm = absurd (cc)

pub by_broken : (naming now : Naming) (p : Progress) → StandsBy naming p → StandsBy now (record p { pending = NothingAsked; broken = true })
by_broken naming now p by = record {
  stands = record {
    keeps = by.stands.keeps;
    right = tt;
    in_order = λ calm. never_calm calm;
    plain = λ calm. never_calm calm;
    large = by.stands.large;
    finished = by.stands.finished;
    refused = by.stands.refused;
    too_large = by.stands.too_large;
    quiet = λ ended is. refl;
  };
  follows = λ calm. never_calm calm;
}

-- the question is forgotten
pub by_forgotten : (naming : Naming) (p : Progress) → StandsBy naming p → StandsBy naming (record p { pending = NothingAsked })
by_forgotten naming p by = record {
  stands = record {
    keeps = by.stands.keeps;
    right = tt;
    in_order = by.stands.in_order;
    plain = by.stands.plain;
    large = by.stands.large;
    finished = by.stands.finished;
    refused = by.stands.refused;
    too_large = by.stands.too_large;
    quiet = λ ended is. refl;
  };
  follows = by.follows;
}

-- THE ANSWER TO A SEARCH

-- where something is asked for, the analysis didn't end
search_open : (naming : Naming) (p : Progress) (ask : Ask) (include : Bool) → StandsBy naming p → p.pending ≡ OfSearch ask include → (ended : Ended) → p.ended ≡ Some ended → ⊥
search_open naming p ask include by asked ended is = let never : OfSearch ask include ≡ NothingAsked = sym asked ∙ by.stands.quiet ended is in absurd (cc)

sheet_open : (naming : Naming) (p : Progress) (visit : Visit) → StandsBy naming p → p.pending ≡ OfSheet visit → (ended : Ended) → p.ended ≡ Some ended → ⊥
sheet_open naming p visit by asked ended is = let never : OfSheet visit ≡ NothingAsked = sym asked ∙ by.stands.quiet ended is in absurd (cc)

module _ (naming : Naming) (p : Progress) (ask : Ask) (include : Bool) (got : Option Hit) (searches : List (Ask × Option Hit)) (found : List Visit) (by : StandsBy naming p) (asked : p.pending ≡ OfSearch ask include) where
  right_search : IsRight p.job p.heard p.found (OfSearch ask include)
  right_search = subst (λ (w : Pending). IsRight p.job p.heard p.found w) asked by.stands.right

  -- it was told, with the visit of its file
  pub by_search : MoreKeepHeaders HeaderName → searches ≡ p.heard.searches ++ (ask, got) ∷ [] → found ≡ with_hit include p.found got
      → StandsBy naming (record p { heard = record p.heard { searches = searches }; found = found; pending = NothingAsked })
  by_search keep more adds =
      let grows : Grows p.found found = grows_as p.found (with_hit include p.found got) found (grows_hit include p.found got) adds in
      record {
        stands = record {
          keeps = keeps_answered keep p.job p.heard p.found ask include got searches found by.stands.keeps right_search.0 right_search.1 more adds;
          right = tt;
          in_order = λ calm. still_in_order p.heard.sheets p.found found grows (by.stands.in_order calm);
          plain = λ calm. still_plain p.heard p.found found grows (by.stands.plain calm);
          large = λ visit is. still_there p.found found grows visit (by.stands.large visit is);
          finished = λ is. absurd (search_open naming p ask include by asked Finished is);
          refused = λ refusal is. absurd (search_open naming p ask include by asked (RefusedBy refusal) is);
          too_large = by.stands.too_large;
          quiet = λ ended is. refl;
        };
        follows = by.follows;
      }

  -- or memory was wanting
  pub by_unanswered : (broken : Bool) → broken ≡ true → TellsNoVisit p.heard.searches p.found ask got searches found
      → StandsBy naming (record p { heard = record p.heard { searches = searches }; found = found; pending = NothingAsked; broken = broken })
  by_unanswered broken fails tells = record {
    stands = record {
      keeps = keeps_unanswered p.job p.heard p.found ask got searches found by.stands.keeps right_search.0 tells;
      right = tt;
      in_order = λ calm. never_calm (sym fails ∙ calm);
      plain = λ calm. never_calm (sym fails ∙ calm);
      large = λ visit is. subst (λ (l : List Visit). Member visit l) (sym tells.0) (by.stands.large visit is);
      finished = λ is. absurd (search_open naming p ask include by asked Finished is);
      refused = λ refusal is. absurd (search_open naming p ask include by asked (RefusedBy refusal) is);
      too_large = by.stands.too_large;
      quiet = λ ended is. refl;
    };
    follows = λ calm. never_calm (sym fails ∙ calm);
  }

-- A SHEET

tells_grows : (sheets : List (Visit × SheetData)) (found : List Visit) (visit : Visit) (sheet : SheetData) (sheets_now : List (Visit × SheetData)) (found_now : List Visit)
    → TellsSome sheets found visit sheet sheets_now found_now → Grows found found_now
tells_grows sheets found visit sheet sheets_now found_now (inl (same, as_before)) = grows_as found found found_now (grows_none found) as_before
tells_grows sheets found visit sheet sheets_now found_now (inr (more, (n, adds))) =
    grows_as found (with_visits found (map (λ file. file.0) (take n sheet.plain))) found_now (grows_visits (map (λ file. file.0) (take n sheet.plain)) found) adds

module _ (naming : Naming) (p : Progress) (visit : Visit) (sheet : SheetData) (sheets : List (Visit × SheetData)) (found : List Visit) (by : StandsBy naming p) (asked : p.pending ≡ OfSheet visit) where
  right_sheet : IsRight p.job p.heard p.found (OfSheet visit)
  right_sheet = subst (λ (w : Pending). IsRight p.job p.heard p.found w) asked by.stands.right

  -- it was told, with the visits of its plain includes
  pub by_sheet : MoreKeepHeaders HeaderName → sheets ≡ p.heard.sheets ++ (visit, sheet) ∷ [] → found ≡ with_visits p.found (map (λ file. file.0) sheet.plain)
      → StandsBy naming (record p { heard = record p.heard { sheets = sheets }; found = found; pending = NothingAsked })
  by_sheet keep more adds =
      let grows : Grows p.found found = grows_as p.found (with_visits p.found (map (λ file. file.0) sheet.plain)) found (grows_visits (map (λ file. file.0) sheet.plain) p.found) adds in
      record {
        stands = record {
          keeps = keeps_whole keep p.job p.heard p.found visit sheet sheets found by.stands.keeps right_sheet.0 more adds;
          right = tt;
          in_order = λ calm.
              subst (λ (l : List (Visit × SheetData)). map (λ (told : Visit × SheetData). told.0) l ≡ take (length l) found) (sym more)
              (next_in_order p.heard.sheets p.found found visit sheet grows right_sheet.2 (by.stands.in_order calm));
          plain = λ calm.
              subst (λ (l : List (Visit × SheetData)). PlainAreFound (record p.heard { sheets = l }) found) (sym more)
              (subst (λ (l : List Visit). PlainAreFound (with_sheet p.heard visit sheet) l) (sym adds) (plain_of_sheet p.heard p.found visit sheet (by.stands.plain calm)));
          large = λ v is. still_there p.found found grows v (by.stands.large v is);
          finished = λ is. absurd (sheet_open naming p visit by asked Finished is);
          refused = λ refusal is. absurd (sheet_open naming p visit by asked (RefusedBy refusal) is);
          too_large = by.stands.too_large;
          quiet = λ ended is. refl;
        };
        follows = λ calm. subst (λ (l : List (Visit × SheetData)). Follows naming p.job l) (sym more) (follows_more naming p.job p.heard.sheets ((visit, sheet) ∷ []) (by.follows calm));
      }

  -- or memory was wanting
  pub by_untold : MoreKeepHeaders HeaderName → (broken : Bool) → broken ≡ true → TellsSome p.heard.sheets p.found visit sheet sheets found
      → StandsBy naming (record p { heard = record p.heard { sheets = sheets }; found = found; pending = NothingAsked; broken = broken })
  by_untold keep broken fails tells =
      let grows : Grows p.found found = tells_grows p.heard.sheets p.found visit sheet sheets found tells in
      record {
        stands = record {
          keeps = keeps_told keep p.job p.heard p.found visit sheet sheets found by.stands.keeps right_sheet.0 tells;
          right = tt;
          in_order = λ calm. never_calm (sym fails ∙ calm);
          plain = λ calm. never_calm (sym fails ∙ calm);
          large = λ v is. still_there p.found found grows v (by.stands.large v is);
          finished = λ is. absurd (sheet_open naming p visit by asked Finished is);
          refused = λ refusal is. absurd (sheet_open naming p visit by asked (RefusedBy refusal) is);
          too_large = by.stands.too_large;
          quiet = λ ended is. refl;
        };
        follows = λ calm. never_calm (sym fails ∙ calm);
      }

-- or that its file is too large
pub by_large : (naming : Naming) (p : Progress) (visit : Visit) → StandsBy naming p → p.pending ≡ OfSheet visit
    → StandsBy naming (record p { heard = record p.heard { large = Some visit }; pending = NothingAsked })
by_large naming p visit by asked =
    let right : IsRight p.job p.heard p.found (OfSheet visit) = subst (λ (w : Pending). IsRight p.job p.heard p.found w) asked by.stands.right in
    record {
      stands = record {
        keeps = keeps_large p.job p.heard p.found visit right.1 by.stands.keeps;
        right = tt;
        in_order = by.stands.in_order;
        plain = by.stands.plain;
        large = λ v is. let same : visit ≡ v = cc in subst (λ (w : Visit). Member w p.found) same right.0;
        finished = λ is. absurd (sheet_open naming p visit by asked Finished is);
        refused = λ refusal is. absurd (sheet_open naming p visit by asked (RefusedBy refusal) is);
        too_large = λ v refusal is end. absurd (sheet_open naming p visit by asked (RefusedBy refusal) end);
        quiet = λ ended is. refl;
      };
      follows = by.follows;
    }

-- WHAT IS NEXT

module _ (naming : Naming) (p : Progress) (by : StandsBy naming p) where
  -- memory was wanting; what is kept of the definitions may be anything
  pub by_failed : (now : Naming) → StandsBy now (record p { broken = true })
  by_failed now = record {
    stands = record {
      keeps = by.stands.keeps;
      right = by.stands.right;
      in_order = λ calm. never_calm calm;
      plain = λ calm. never_calm calm;
      large = by.stands.large;
      finished = by.stands.finished;
      refused = by.stands.refused;
      too_large = by.stands.too_large;
      quiet = by.stands.quiet;
    };
    follows = λ calm. never_calm calm;
  }

  -- a refusal that holds
  pub by_refused : (refusal : Refusal) → RefusalMeans p.job p.budget p.heard refusal → ((visit : Visit) → p.heard.large ≡ Some visit → refusal ≡ Large)
      → StandsBy naming (record p { pending = NothingAsked; ended = Some (RefusedBy refusal) })
  by_refused refusal means large = record {
    stands = record {
      keeps = by.stands.keeps;
      right = tt;
      in_order = by.stands.in_order;
      plain = by.stands.plain;
      large = by.stands.large;
      finished = λ is. absurd (cc);
      refused = λ other is. let same : refusal ≡ other = cc in subst (λ (r : Refusal). RefusalMeans p.job p.budget p.heard r) same means;
      too_large = λ visit other is end. let same : refusal ≡ other = cc in sym same ∙ large visit is;
      quiet = λ ended is. refl;
    };
    follows = by.follows;
  }

  -- nothing is left to ask
  pub by_finished : IsEnough p.job p.heard p.found → IsAccepted p.job p.budget p.heard p.found → StandsBy naming (record p { pending = NothingAsked; ended = Some Finished })
  by_finished enough accepted = record {
    stands = record {
      keeps = by.stands.keeps;
      right = tt;
      in_order = by.stands.in_order;
      plain = by.stands.plain;
      large = by.stands.large;
      finished = λ is. (enough, accepted);
      refused = λ other is. absurd (cc);
      too_large = λ visit other is end. absurd (cc);
      quiet = λ ended is. refl;
    };
    follows = by.follows;
  }

  -- a search is asked for
  pub by_asking_search : p.ended ≡ None → (ask : Ask) (include : Bool) → IsNextWant p.job p.heard p.found (want.Search ask include) → StandsBy naming (record p { pending = OfSearch ask include })
  by_asking_search open_is ask include (new, wanted, due) = record {
    stands = record {
      keeps = by.stands.keeps;
      right = (wanted, due, new);
      in_order = by.stands.in_order;
      plain = by.stands.plain;
      large = by.stands.large;
      finished = by.stands.finished;
      refused = by.stands.refused;
      too_large = by.stands.too_large;
      quiet = λ ended is. let never : None ≡ Some ended = sym open_is ∙ is in absurd (cc);
    };
    follows = by.follows;
  }

  -- a sheet is asked for
  pub by_asking_sheet : p.ended ≡ None → p.heard.large ≡ None → (visit : Visit) → slice_get p.found (length p.heard.sheets) ≡ Some visit → StandsBy naming (record p { pending = OfSheet visit })
  by_asking_sheet open_is small visit at = record {
    stands = record {
      keeps = by.stands.keeps;
      right = (stands_at p.found (length p.heard.sheets) visit at, small, at);
      in_order = by.stands.in_order;
      plain = by.stands.plain;
      large = by.stands.large;
      finished = by.stands.finished;
      refused = by.stands.refused;
      too_large = by.stands.too_large;
      quiet = λ ended is. let never : None ≡ Some ended = sym open_is ∙ is in absurd (cc);
    };
    follows = by.follows;
  }

  pub new_sheet : p.broken ≡ false → (visit : Visit) → slice_get p.found (length p.heard.sheets) ≡ Some visit → IsNewSheet p.job p.heard visit
  new_sheet calm visit at = record {
    fresh = next_is_new p.heard.sheets p.found visit by.stands.keeps.once at (by.stands.in_order calm);
    wanted = λ answers is_large t other closed. by.stands.keeps.sure answers is_large t other closed visit (stands_at p.found (length p.heard.sheets) visit at);
  }

  -- a visit that is due is found
  pub by_found : MoreKeepHeaders HeaderName → p.ended ≡ None → (visit : Visit) (found : List Visit) → IsNextWant p.job p.heard p.found (want.Visit visit) → found ≡ with_visit p.found visit
      → StandsBy naming (record p { found = found; pending = NothingAsked })
  by_found keep open_is visit found (due, new) adds =
      let grows : Grows p.found found = grows_as p.found (with_visit p.found visit) found (grows_visit p.found visit) adds in
      record {
        stands = record {
          keeps = subst (λ (l : List Visit). FoundKeeps p.job p.heard l) (sym adds) (keeps_visit keep p.job p.heard p.found visit by.stands.keeps due);
          right = tt;
          in_order = λ calm. still_in_order p.heard.sheets p.found found grows (by.stands.in_order calm);
          plain = λ calm. still_plain p.heard p.found found grows (by.stands.plain calm);
          large = λ v is. still_there p.found found grows v (by.stands.large v is);
          finished = λ is. let never : None ≡ Some Finished = sym open_is ∙ is in absurd (cc);
          refused = λ refusal is. let never : None ≡ Some (RefusedBy refusal) = sym open_is ∙ is in absurd (cc);
          too_large = by.stands.too_large;
          quiet = λ ended is. refl;
        };
        follows = by.follows;
      }

  -- what was told and found may be gone on with
  pub is_ready : p.broken ≡ false → p.heard.large ≡ None → IsReady p.job (heard_of p.heard.searches p.heard.sheets) p.found
  is_ready calm small =
      let same : p.heard ≡ heard_of p.heard.searches p.heard.sheets = heard_is p.heard small in
      record {
        keeps = subst (λ (h : Heard). FoundKeeps p.job h p.found) same by.stands.keeps;
        in_order = by.stands.in_order calm;
        plain = by.stands.plain calm;
      }

needs_from : (job : JobData) (heard : Heard) (ask : Ask) → IsWanted job heard ask → NeedsFrom ask.form ask.from
needs_from job heard ask (AtFirst (inl same)) = subst (λ (a : Ask). NeedsFrom a.form a.from) same tt
needs_from job heard ask (AtFirst (inr m)) = let by : MappedBy forced_ask job.forced ask = map-Member forced_ask ask job.forced m in subst (λ (a : Ask). NeedsFrom a.form a.from) by.gives tt
needs_from job heard ask (ForTarget visit sheet c header told may same) = subst (λ (a : Ask). NeedsFrom a.form a.from) same (any_form (with_angle c.form header.angle))
  where
    any_form : (form : Form) → NeedsFrom form (Some visit)
    any_form Source = tt
    any_form Forced = tt
    any_form Quote = refl
    any_form Angle = refl
    any_form NextQuote = refl
    any_form NextAngle = refl

pub new_search : (job : JobData) (heard : Heard) (found : List Visit) (ask : Ask) (include : Bool) → IsNextWant job heard found (want.Search ask include) → IsNewSearch job heard ask
new_search job heard found ask include (new, wanted, due) = record { fresh = λ was. new was.0 was.1; form = needs_from job heard ask wanted }

-- a too large file that was told is that of a visit of every closed list
pub large_refused : (naming : Naming) (p : Progress) → StandsBy naming p → is_some p.heard.large ≡ true → LargeMeans p.job p.heard
large_refused naming p by some = go p.heard.large refl some
  where
    go : (o : Option Visit) → p.heard.large ≡ o → is_some o ≡ true → LargeMeans p.job p.heard
    go None is some = absurd (cc)
    go (Some visit) is some = λ answers is_large t other closed. (visit, by.stands.keeps.sure answers is_large t other closed visit (by.stands.large visit is), t.large visit is)

-- the answer that it is done
pub done_by : MoreKeepHeaders HeaderName → MoreKeepLongRuns → MoreKeepPresumedRuns → MoreKeepManyRuns → (naming : Naming) (p : Progress) (closure : Closure) → StandsBy naming p
    → p.broken ≡ false → IsEnough p.job p.heard p.found → IsAccepted p.job p.budget p.heard p.found → IsWhole (heard_of p.heard.searches p.heard.sheets) p.found closure
    → IsDone p closure.visits closure.nodes (record p { pending = NothingAsked; ended = Some Finished })
done_by keep long presumed many naming p closure by calm enough accepted whole = record {
  means = subst (λ (l : List Visit). DoneMeans p.job p.budget p.heard l) (sym whole.all) (done_means keep long presumed many p.job p.budget p.heard p.found by.stands.keeps enough accepted);
  all = whole.all;
  told = whole.all ∙ all_told p.heard.sheets p.found by.stands.keeps.once enough.sheets (by.stands.in_order calm);
  nodes_are = subst (λ (h : Heard). AreNodesOf (located_told h) closure.nodes) (sym (heard_is p.heard accepted.small)) whole.nodes_are;
  rising = whole.rising;
  canonical = whole.canonical;
  stays = refl;
}

-- a plan that something is wanted
pub plan_wants : (job : JobData) (budget : ℕ) (heard : Heard) (found : List Visit) (does : Plan) (w v : Want) → PlanMeans job budget heard found does → does ≡ plan.Want w → w ≡ v → IsNextWant job heard found v
plan_wants job budget heard found does w v means is same =
    subst (λ (x : Want). IsNextWant job heard found x) same (subst (λ (x : Plan). PlanMeans job budget heard found x) is means)
