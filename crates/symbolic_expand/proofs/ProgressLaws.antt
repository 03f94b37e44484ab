-- What the search for headers keeps from run to run.
use Rattle.std.proofs.Common.{◌≡◌, ℕ, suc, ◌+◌, ◌≤◌, Bool, true, false, List, [], ◌∷◌, ◌++◌, length, ◌⊎◌, inl, inr, refl, ap, sym, ◌∙◌, subst, append_assoc, arith, Option, Some, None}
use Rattle.std.proofs.lemmas.List.{length-append}
use Rattle.std.specs.List.{Contains}
use Rattle.std.proofs.lemmas.List.Elements.{Contains-append_right, Contains-append_cases}
use Rattle.pp_tokens.specs.declared.Token.{Token}
use Rattle.directive_scan.specs.declared.directive.HeaderName.{HeaderName}
use Rattle.directive_scan.specs.HeaderNames.{header_named}
use Rattle.macro_expand.specs.Asking.{Work}
use Rattle.macro_expand.specs.Expansion.{Expanded}
use Rattle.macro_expand.specs.Choice.{Sets, Ending, Failed, Presumed, Run, complete_runs, header_of_ending, MayName, HasManyRuns, Supports}
use Rattle.macro_expand.specs.Laws.{IsCutOff}
use Rattle.macro_expand.proofs.ChoiceLaws.{contains_first}
use Rattle.symbolic_expand.specs.declared.outcome.SymError.{SymError}
use Rattle.symbolic_expand.specs.declared.outcome.SymError.TheVariants.{Budget, Long, Presumed as PresumedNames, Memory}
use Rattle.symbolic_expand.specs.Texts.{all_inserted}
use Rattle.symbolic_expand.specs.parts.Enumeration.{Visit, visits, run_at, visits_from, results_of, next_numbers}
use Rattle.symbolic_expand.specs.Found.{RefusalHolds}
use Rattle.symbolic_expand.specs.parts.Search.{computed, EndsWith, RefusesRun, FoundAll, with_header, header_at}
use Rattle.symbolic_expand.proofs.Elements.{contains_tail, contains_none}
use Rattle.symbolic_expand.proofs.EnumerationLaws.{visits_from-nil, visits_from-step}
use Rattle.symbolic_expand.proofs.VisitLaws.{visits-count, run_of_visit, visit_of_run, Meets, met_names-met, met_names-all}
use Rattle.symbolic_expand.proofs.FoundLaws.{headers_after, headers_after-last, headers_after-all, headers_after-may, Names, met_after, met_after-last, met_after-all, met_after-met}

-- The runs so far, and those that are left.
pub record Progress (sets : Sets) (file : Option (List ℕ)) (ts : List Token) (ks : List ℕ) (count : ℕ) (quoted angled met : List (List ℕ)) : Type 0 where
  pub done : List (Visit Expanded)
  pub split : done ++ visits_from sets file (computed ts) ks ≡ visits sets file (computed ts)
  pub counted : length done ≡ count
  pub quoted_is : quoted ≡ headers_after false [] done
  pub angled_is : angled ≡ headers_after true [] done
  pub met_is : met ≡ met_after [] done
  pub whole : (r : Visit Expanded) → Contains done r → IsCutOff r.ending → ⊥

pub progress_start : (sets : Sets) (file : Option (List ℕ)) (ts : List Token) → Progress sets file ts [] 0 [] [] []
unfolding headers_after met_after
progress_start sets file ts = record {
  done = [];
  split = visits_from-nil sets file (computed ts);
  counted = refl;
  quoted_is = refl;
  angled_is = refl;
  met_is = refl;
  whole = λ r c. absurd (contains_none r c);
}

module _ (sets : Sets) (file : Option (List ℕ)) (ts : List Token) (ks : List ℕ) (count : ℕ) (quoted angled met : List (List ℕ))
    (so_far : Progress sets file ts ks count quoted angled met) where
  This : Visit Expanded
  This = (run_at sets file (computed ts) ks).visit

  -- this run is one of all
  this_split : so_far.done ++ This ∷ results_of (visits_from sets file (computed ts)) (next_numbers (run_at sets file (computed ts) ks).numbers)
      ≡ visits sets file (computed ts)
  unfolding This
  this_split = ap (λ w. so_far.done ++ w) (sym (visits_from-step sets file (computed ts) ks)) ∙ so_far.split

  this_visit : Contains (visits sets file (computed ts)) This
  this_visit = subst (λ w. Contains w This) this_split (Contains-append_right so_far.done _ This (contains_first This _))

  this_run : (e : Ending Expanded) → This.ending ≡ e → (r : Run Expanded) × (Contains (complete_runs sets file (computed ts)) r) × (r.ending ≡ e)
  this_run e is = let r = run_of_visit sets file (computed ts) This this_visit in (r.0, r.1, r.2 ∙ is)

  pub run_refuses : (budget : ℕ) (e : SymError) → RefusesRun e (run_at sets file (computed ts) ks) → RefusalHolds e budget sets file ts
  unfolding This
  run_refuses budget Budget h = absurd h
  run_refuses budget Long h = this_run (Failed Work) h
  run_refuses budget PresumedNames h = this_run Presumed h
  run_refuses budget Memory h = tt

  -- no more runs than counted would be too few
  pub budget_passed : (budget : ℕ) → budget ≤ count → HasManyRuns budget sets file ts
  budget_passed budget h =
      let e : length so_far.done + suc (length (results_of (visits_from sets file (computed ts)) (next_numbers (run_at sets file (computed ts) ks).numbers)))
      ≡ length (visits sets file (computed ts))
      = sym (length-append so_far.done (This ∷ results_of (visits_from sets file (computed ts)) (next_numbers (run_at sets file (computed ts) ks).numbers))) ∙ ap length this_split in
      omega (arith, e, visits-count sets file (computed ts), so_far.counted, h)

  module _ (h : Option HeaderName) (taken : List (ℕ × ℕ)) (met' : List (List ℕ)) (ends : EndsWith (run_at sets file (computed ts) ks) h taken met met')
      (quoted' angled' : List (List ℕ)) (put_quoted : quoted' ≡ with_header false h quoted) (put_angled : angled' ≡ with_header true h angled) where
    one_more : (angle : Bool) (texts texts' : List (List ℕ)) → texts ≡ headers_after angle [] so_far.done → texts' ≡ with_header angle h texts →
        texts' ≡ headers_after angle [] (so_far.done ++ This ∷ [])
    unfolding This
    one_more angle texts texts' is put =
        put ∙ ap (with_header angle h) is ∙ ap (λ w. with_header angle w (headers_after angle [] so_far.done)) (sym ends.names)
        ∙ sym (headers_after-last angle [] so_far.done This)

    met_more : met' ≡ met_after [] (so_far.done ++ This ∷ [])
    unfolding This
    met_more = ends.meets ∙ ap (all_inserted This.met) so_far.met_is ∙ sym (met_after-last [] so_far.done This)

    all_whole : (r : Visit Expanded) → Contains (so_far.done ++ This ∷ []) r → IsCutOff r.ending → ⊥
    unfolding This
    all_whole r c cut = go (Contains-append_cases so_far.done (This ∷ []) r c)
      where
        last : (r ≡ This) ⊎ Contains [] r → ⊥
        last (inl e) = ends.whole (subst (λ (w : Visit Expanded). IsCutOff w.ending) e cut)
        last (inr k) = contains_none r k

        go : Contains so_far.done r ⊎ Contains (This ∷ []) r → ⊥
        go (inl k) = so_far.whole r k cut
        go (inr k) = last (contains_tail r This [] k)

    pub progress_next : (q : List ℕ) (count' : ℕ) → count' ≡ count + 1 → next_numbers taken ≡ Some q → Progress sets file ts q count' quoted' angled' met'
    unfolding This
    progress_next q count' counts next = record {
      done = so_far.done ++ This ∷ [];
      split = append_assoc so_far.done (This ∷ []) _
          ∙ ap (λ o. so_far.done ++ This ∷ results_of (visits_from sets file (computed ts)) o) (sym (ap next_numbers ends.took ∙ next)) ∙ this_split;
      counted = length-append so_far.done (This ∷ []) ∙ omega (arith, so_far.counted, counts);
      quoted_is = one_more false quoted quoted' so_far.quoted_is put_quoted;
      angled_is = one_more true angled angled' so_far.angled_is put_angled;
      met_is = met_more;
      whole = all_whole;
    }

    module _ (budget : ℕ) (count' : ℕ) (counts : count' ≡ count + 1) (within : count' ≤ budget) (ended : next_numbers taken ≡ None) where
      all_done : so_far.done ++ This ∷ [] ≡ visits sets file (computed ts)
      unfolding This
      all_done = ap (λ o. so_far.done ++ This ∷ results_of (visits_from sets file (computed ts)) o) (sym (ap next_numbers ends.took ∙ ended)) ∙ this_split

      in_all : (angle : Bool) (n : List ℕ) → Names angle (so_far.done ++ This ∷ []) n → MayName header_named sets file ts (header_at angle n)
      in_all angle n (v, c, e) =
          let r = run_of_visit sets file (computed ts) v (subst (λ w. Contains w v) all_done c) in
          (r.0, r.1, ap (header_of_ending header_named) r.2 ∙ e)

      from_all : (angle : Bool) (n : List ℕ) → MayName header_named sets file ts (header_at angle n) → Names angle (so_far.done ++ This ∷ []) n
      from_all angle n (r, c, e) =
          let v = visit_of_run sets file (computed ts) r c in
          (v.0, subst (λ w. Contains w v.0) (sym all_done) v.1, ap (header_of_ending header_named) v.2 ∙ e)

      may : (angle : Bool) (texts : List (List ℕ)) (n : List ℕ) → texts ≡ headers_after angle [] (so_far.done ++ This ∷ []) → Contains texts n →
          MayName header_named sets file ts (header_at angle n)
      may angle texts n is c = go (headers_after-may angle [] (so_far.done ++ This ∷ []) n (subst (λ w. Contains w n) is c))
        where
          go : Contains [] n ⊎ Names angle (so_far.done ++ This ∷ []) n → MayName header_named sets file ts (header_at angle n)
          go (inl k) = absurd (contains_none n k)
          go (inr k) = in_all angle n k

      all : (angle : Bool) (texts : List (List ℕ)) (n : List ℕ) → texts ≡ headers_after angle [] (so_far.done ++ This ∷ []) →
          MayName header_named sets file ts (header_at angle n) → Contains texts n
      all angle texts n is m = subst (λ w. Contains w n) (sym is) (headers_after-all angle [] (so_far.done ++ This ∷ []) n (from_all angle n m))

      met_supports : (n : List ℕ) → Contains met' n → Supports sets file ts n
      met_supports n c = go (met_after-met [] (so_far.done ++ This ∷ []) n (subst (λ w. Contains w n) met_more c))
        where
          go : Contains [] n ⊎ Meets (so_far.done ++ This ∷ []) n → Supports sets file ts n
          go (inl k) = absurd (contains_none n k)
          go (inr m) = met_names-all sets file (computed ts) n (subst (λ w. Meets w n) all_done m)

      supports_met : (n : List ℕ) → Supports sets file ts n → Contains met' n
      supports_met n s =
          subst (λ w. Contains w n) (sym met_more)
          (met_after-all [] (so_far.done ++ This ∷ []) n (subst (λ w. Meets w n) (sym all_done) (met_names-met sets file (computed ts) n s)))

      not_cut : (r : Run Expanded) → Contains (complete_runs sets file (computed ts)) r → IsCutOff r.ending → ⊥
      not_cut r c cut =
          let v = visit_of_run sets file (computed ts) r c in
          all_whole v.0 (subst (λ w. Contains w v.0) (sym all_done) v.1) (subst IsCutOff (sym v.2) cut)

      pub found_all : FoundAll budget sets file ts quoted' angled' met'
      found_all =
          let e : length (so_far.done ++ This ∷ []) ≡ length (visits sets file (computed ts)) = ap length all_done in
          record {
            quoted_are = λ n. (
              (λ c. may false quoted' n (one_more false quoted quoted' so_far.quoted_is put_quoted) c),
              (λ m. all false quoted' n (one_more false quoted quoted' so_far.quoted_is put_quoted) m),
            );
            angled_are = λ n. (
              (λ c. may true angled' n (one_more true angled angled' so_far.angled_is put_angled) c),
              (λ m. all true angled' n (one_more true angled angled' so_far.angled_is put_angled) m),
            );
            met_are = λ n. (met_supports n, supports_met n);
            complete = record {
              within_budget = omega (arith, e, visits-count sets file (computed ts), length-append so_far.done (This ∷ []), so_far.counted, counts, within);
              not_long = λ m. not_cut m.0 m.1 (subst IsCutOff (sym m.2) refl);
              not_presumed = λ m. not_cut m.0 m.1 (subst IsCutOff (sym m.2) tt);
            };
          }
