use Rattle.std.proofs.Common.{◌≡◌, ◌∙◌, refl, sym, ap, subst, List, Option, true}
use Rattle.search_path.specs.Search.{Hit}
use Rattle.search_path.specs.declared.asking.Ask.{Ask}
use Rattle.closure_fixpoint.specs.declared.fixpoint.Wait.{Wait}
use Rattle.closure_fixpoint.specs.declared.fixpoint.Wait.TheVariants as wait
use Rattle.closure_fixpoint.specs.Progress.{Heard, with_search}
use Rattle.closure_fixpoint.specs.Told.{Progress, OfSearch, IsRight, StandsBy}
use Rattle.closure_fixpoint.specs.parts.Seen.{pending_of, ended_of}
use Rattle.closure_fixpoint.proofs.StandsLaws.{by_search, by_unanswered}
use Rattle.closure_fixpoint.proofs.fixpoint.Fixpoint.put_search.Goals as goal

pub tell_search-requires : goal.tell_search-requires
tell_search-requires c =
    let heard : Heard = record { searches = c.self.inside.searches; sheets = c.self.inside.sheets.items; large = c.self.inside.large } in
    let was : c.self.inside.wait ≡ wait.Search c.in-Search.ask c.in-Search.include = sym c.replace.ensures.value ∙ c.in-Search.is in
    let right : IsRight c.self.inside.job heard c.self.inside.found (OfSearch c.in-Search.ask c.in-Search.include) =
    subst (λ (w : Wait). IsRight c.self.inside.job heard c.self.inside.found (pending_of w)) was c.self.invariant.stands.right in
    right.2

pub invariant_of-self : goal.invariant_of-self
invariant_of-self c =
    let heard : Heard = record { searches = c.self.inside.searches; sheets = c.self.inside.sheets.items; large = c.self.inside.large } in
    let was : c.self.inside.wait ≡ wait.Search c.in-Search.ask c.in-Search.include = sym c.replace.ensures.value ∙ c.in-Search.is in
    let p : Progress = record {
      job = c.self.inside.job;
      budget = c.self.inside.budget;
      heard = heard;
      found = c.self.inside.found;
      pending = pending_of c.self.inside.wait;
      ended = ended_of c.self.inside.ended;
      broken = c.self.inside.broken;
    } in
    subst (λ (w : Wait). StandsBy c.self.inside.naming (record p { heard = record heard { searches = c.tell_search.new.searches }; found = c.tell_search.new.found; pending = pending_of w; broken = true }))
    (sym c.replace.ensures.after)
    (by_unanswered c.self.inside.naming p c.in-Search.ask c.in-Search.include c.args.got c.tell_search.new.searches c.tell_search.new.found c.self.invariant (ap pending_of was)
    true refl c.in-Err.ensures.err)

pub invariant_of-self-in_default-tell_search : goal.invariant_of-self-in_default-tell_search
invariant_of-self-in_default-tell_search c =
    let heard : Heard = record { searches = c.self.inside.searches; sheets = c.self.inside.sheets.items; large = c.self.inside.large } in
    let was : c.self.inside.wait ≡ wait.Search c.in-Search.ask c.in-Search.include = sym c.replace.ensures.value ∙ c.in-Search.is in
    let p : Progress = record {
      job = c.self.inside.job;
      budget = c.self.inside.budget;
      heard = heard;
      found = c.self.inside.found;
      pending = pending_of c.self.inside.wait;
      ended = ended_of c.self.inside.ended;
      broken = c.self.inside.broken;
    } in
    subst (λ (w : Wait). StandsBy c.self.inside.naming (record p { heard = record heard { searches = c.tell_search.new.searches }; found = c.tell_search.new.found; pending = pending_of w }))
    (sym c.replace.ensures.after)
    (by_search c.self.inside.naming p c.in-Search.ask c.in-Search.include c.args.got c.tell_search.new.searches c.tell_search.new.found c.self.invariant (ap pending_of was)
    c.more_definitions.ensures.headers c.in_default-tell_search.ensures.searches c.in_default-tell_search.ensures.found)

pub returns-in_default-tell_search : goal.returns-in_default-tell_search
returns-in_default-tell_search c = record {
  told = λ ask include p calm.
      let heard : Heard = record { searches = c.self.inside.searches; sheets = c.self.inside.sheets.items; large = c.self.inside.large } in
      let was : c.self.inside.wait ≡ wait.Search c.in-Search.ask c.in-Search.include = sym c.replace.ensures.value ∙ c.in-Search.is in
      let same : OfSearch c.in-Search.ask c.in-Search.include ≡ OfSearch ask include =
      sym (ap pending_of was) ∙ ap (λ (q : Progress). q.pending) c.self.view_is ∙ p in
      let is : c.in-Search.ask ≡ ask = cc in (
        ap (λ (list : List (Ask × Option Hit)). record heard { searches = list }) c.in_default-tell_search.ensures.searches
            ∙ ap (λ (a : Ask). with_search heard a c.args.got) is
            ∙ ap (λ (q : Progress). with_search q.heard ask c.args.got) c.self.view_is,
        ap pending_of c.replace.ensures.after,
        record { job = ap (λ (q : Progress). q.job) c.self.view_is; budget = ap (λ (q : Progress). q.budget) c.self.view_is },
      );
}
