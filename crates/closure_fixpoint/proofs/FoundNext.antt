-- What is asked for behind a visit that was added.
use Rattle.std.proofs.Common.{◌≡◌, ◌++◌, List, length, Some, ap, subst, ◌∙◌}
use Rattle.std.specs.List.{slice_get}
use Rattle.search_path.specs.declared.asking.Visit.{Visit}
use Rattle.closure_fixpoint.specs.declared.fixpoint.Next.{Next}
use Rattle.closure_fixpoint.specs.declared.fixpoint.Next.TheVariants as next
use Rattle.closure_fixpoint.specs.Told.{Progress, NothingAsked, OfSheet, AsksSheet, NextMeans}
use Rattle.closure_fixpoint.specs.parts.Plan.{AsksNext}
use Rattle.closure_fixpoint.specs.parts.Worklist.{with_visit}
use Rattle.closure_fixpoint.proofs.GrownLaws.{Grows, grows_visit}

-- what asks for the next sheet with the visit asks for the next thing without it
pub next_behind : (p old : Progress) → p ≡ old → (visit : Visit) (found : List Visit) → found ≡ with_visit p.found visit → (answer : Next) (new : Progress)
    → AsksNext (record p { found = found; pending = NothingAsked }) answer new → NextMeans old answer new
next_behind p old same visit found adds (next.Sheet asked) new h =
    let grown : Grows p.found (with_visit p.found visit) = grows_visit p.found visit in
    let is : found ≡ p.found ++ grown.more = adds ∙ grown.is in
    subst (λ (o : Progress). AsksSheet o asked new) same
    (h.0, (grown.more, subst (λ (l : List Visit). slice_get l (length p.heard.sheets) ≡ Some asked) is h.1, h.2 ∙ ap (λ (l : List Visit). record p { found = l; pending = OfSheet asked }) is))
next_behind p old same visit found adds next.Memory new h = h
next_behind p old same visit found adds (next.Search ask) new h = absurd h
next_behind p old same visit found adds (next.Done closure) new h = absurd h
next_behind p old same visit found adds (next.Refused refusal) new h = absurd h
