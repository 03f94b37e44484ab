-- What an analysis over a tree was told stays true of it.
use Rattle.std.proofs.Common.{◌≡◌, ℕ, [], ◌∷◌, length, Option, Some, Bool, true, false, inl, inr, refl, sym, ap, subst, ◌∙◌}
use Rattle.std.specs.Prelude.{IsTrue}
use Rattle.std.proofs.lemmas.Bool.{lt-ltb}
use Rattle.base_types.specs.Limits.{body_limit}
use Rattle.tree_model.specs.Trees.{FileTree}
use Rattle.tree_model.proofs.MemberLemmas.{Member-append}
use Rattle.search_path.specs.Search.{Hit, search}
use Rattle.search_path.specs.declared.asking.Visit.{Visit}
use Rattle.search_path.specs.declared.asking.Ask.{Ask}
use Rattle.job_words.specs.JobOf.{JobData}
use Rattle.sheet_build.specs.Sheet.{SheetData, sheet_of, IsLargeAt, body_of_place}
use Rattle.closure_fixpoint.specs.declared.fixpoint.Next.{Next}
use Rattle.closure_fixpoint.specs.declared.fixpoint.Next.TheVariants as next
use Rattle.closure_fixpoint.specs.Progress.{Heard, with_search, with_sheet}
use Rattle.closure_fixpoint.specs.Told.{Progress, IsBegun, OfSearch, OfSheet, PutsSearch, PutsSheet, PutsLarge, AsksSearch, AsksSheet}
use Rattle.closure_fixpoint.specs.Driving.{is_large_in, IsTrueIn, IsOfTree, IsOfTreeUnlessBroken}

-- WHAT IS TOLD

module _ (tree : FileTree) (job : JobData) where
  true_search : (heard : Heard) (ask : Ask) (got : Option Hit) → IsTrueIn tree job heard → got ≡ search tree job.setup ask → IsTrueIn tree job (with_search heard ask got)
  true_search heard ask got is found = record {
    searches = λ a g m. elim (Member-append (a, g) heard.searches ((ask, got) ∷ []) m) [
      | inl before ↦ is.searches a g before
      | inr last ↦ elim last [
        | inl same ↦
            let ask_is : ask ≡ a = ap (λ (p : Ask × Option Hit). p.0) same in
            let got_is : got ≡ g = ap (λ (p : Ask × Option Hit). p.1) same in
            ap (search tree job.setup) (sym ask_is) ∙ sym found ∙ got_is
        | inr never ↦ absurd never
      ]
    ];
    sheets = is.sheets;
    large = is.large;
  }

  true_sheet : (heard : Heard) (visit : Visit) (sheet : SheetData) → IsTrueIn tree job heard → sheet ≡ sheet_of tree job.setup visit → IsTrueIn tree job (with_sheet heard visit sheet)
  true_sheet heard visit sheet is built = record {
    searches = is.searches;
    sheets = λ v s m. elim (Member-append (v, s) heard.sheets ((visit, sheet) ∷ []) m) [
      | inl before ↦ is.sheets v s before
      | inr last ↦ elim last [
        | inl same ↦
            let visit_is : visit ≡ v = ap (λ (p : Visit × SheetData). p.0) same in
            let sheet_is : sheet ≡ s = ap (λ (p : Visit × SheetData). p.1) same in
            ap (sheet_of tree job.setup) (sym visit_is) ∙ sym built ∙ sheet_is
        | inr never ↦ absurd never
      ]
    ];
    large = is.large;
  }

  true_large : (heard : Heard) (visit : Visit) → IsTrueIn tree job heard → IsLargeAt tree visit → IsTrueIn tree job (record heard { large = Some visit })
  true_large heard visit is large = record {
    searches = is.searches;
    sheets = is.sheets;
    large = λ v same.
        let one : visit ≡ v = cc in
        subst (λ (w : Visit). is_large_in tree w ≡ true) one (lt-ltb body_limit (length (body_of_place tree visit.place)) large);
  }

  module _ (budget : ℕ) where
    -- an analysis that begins was told nothing
    pub begun : (p : Progress) → IsBegun job budget p → IsOfTreeUnlessBroken tree job budget p
    begun p is calm = record {
      job_is = ap (λ (q : Progress). q.job) is;
      budget_is = ap (λ (q : Progress). q.budget) is;
      told = subst (λ (heard : Heard). IsTrueIn tree job heard) (sym (ap (λ (q : Progress). q.heard) is))
          (record { searches = λ ask got m. absurd m; sheets = λ visit sheet m. absurd m; large = λ visit e. absurd (cc) });
    }

    -- and stays true of the tree by what is put
    pub put_found : (old new : Progress) (ask : Ask) (got : Option Hit) → IsOfTree tree job budget old → PutsSearch old ask got new → got ≡ search tree job.setup ask → IsOfTree tree job budget new
    put_found old new ask got is puts found = record {
      job_is = puts.2.job ∙ is.job_is;
      budget_is = puts.2.budget ∙ is.budget_is;
      told = subst (λ (heard : Heard). IsTrueIn tree job heard) (sym puts.0) (true_search old.heard ask got is.told found);
    }

    pub put_built : (old new : Progress) (visit : Visit) (sheet : SheetData) → IsOfTree tree job budget old → PutsSheet old visit sheet new → sheet ≡ sheet_of tree job.setup visit
        → IsOfTree tree job budget new
    put_built old new visit sheet is puts built = record {
      job_is = puts.2.job ∙ is.job_is;
      budget_is = puts.2.budget ∙ is.budget_is;
      told = subst (λ (heard : Heard). IsTrueIn tree job heard) (sym puts.0) (true_sheet old.heard visit sheet is.told built);
    }

    pub put_too_large : (old new : Progress) (visit : Visit) → IsOfTree tree job budget old → PutsLarge old visit new → IsLargeAt tree visit → IsOfTree tree job budget new
    put_too_large old new visit is puts large = record {
      job_is = puts.2.job ∙ is.job_is;
      budget_is = puts.2.budget ∙ is.budget_is;
      told = subst (λ (heard : Heard). IsTrueIn tree job heard) (sym puts.0) (true_large old.heard visit is.told large);
    }

    -- WHAT IS ASKED FOR

    -- one that answers something else than want of memory isn't without it
    calm_by : (broken : Bool) (answer : Next) → (IsTrue broken → answer ≡ next.Memory) → (answer ≡ next.Memory → ⊥) → broken ≡ false
    calm_by true answer breaks never = absurd (never (breaks refl))
    calm_by false answer breaks never = refl

    pub asks_search : (old new : Progress) (answer : Next) (ask : Ask) → answer ≡ next.Search ask → (IsTrue old.broken → answer ≡ next.Memory) → AsksSearch old ask new → IsOfTreeUnlessBroken tree job budget old
        → (include : Bool) × (new.pending ≡ OfSearch ask include) × IsOfTree tree job budget new
    asks_search old new answer ask is breaks asks goes =
        let was : IsOfTree tree job budget old = goes (calm_by old.broken answer breaks (λ e. let never : next.Search ask ≡ next.Memory = sym is ∙ e in absurd (cc))) in (
          asks.1.0,
          ap (λ (p : Progress). p.pending) asks.1.1,
          subst (λ (p : Progress). IsOfTree tree job budget p) (sym asks.1.1) (record { job_is = was.job_is; budget_is = was.budget_is; told = was.told }),
        )

    pub asks_sheet : (old new : Progress) (answer : Next) (visit : Visit) → answer ≡ next.Sheet visit → (IsTrue old.broken → answer ≡ next.Memory) → AsksSheet old visit new → IsOfTreeUnlessBroken tree job budget old
        → (new.pending ≡ OfSheet visit) × IsOfTree tree job budget new
    asks_sheet old new answer visit is breaks asks goes =
        let was : IsOfTree tree job budget old = goes (calm_by old.broken answer breaks (λ e. let never : next.Sheet visit ≡ next.Memory = sym is ∙ e in absurd (cc))) in (
          ap (λ (p : Progress). p.pending) asks.1.2,
          subst (λ (p : Progress). IsOfTree tree job budget p) (sym asks.1.2) (record { job_is = was.job_is; budget_is = was.budget_is; told = was.told }),
        )
