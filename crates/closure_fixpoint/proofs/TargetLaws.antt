-- What is wanted of a computed target.
use Rattle.std.proofs.Common.{◌≡◌, ◌∙◌, ◌∷◌, ◌++◌, [], ℕ, List, length, take_all, arith, Option, None, Some, Ok, Bool, not, inl, refl, sym, subst}
use Rattle.base_types.specs.Members.{Member}
use Rattle.directive_scan.specs.declared.HeaderName.{HeaderName}
use Rattle.search_path.specs.Search.{Hit}
use Rattle.search_path.specs.declared.asking.Visit.{Visit}
use Rattle.search_path.specs.declared.asking.Ask.{Ask}
use Rattle.job_words.specs.JobOf.{JobData}
use Rattle.tree_model.proofs.MemberLemmas.{Member-append_right}
use Rattle.closure_fixpoint.specs.declared.wanting.Want.{Want}
use Rattle.closure_fixpoint.specs.declared.wanting.Want.TheVariants as want
use Rattle.sheet_build.specs.Sheet.{SheetData, ComputedAsk}
use Rattle.closure_fixpoint.specs.Closure.{computed_ask, known_name}
use Rattle.closure_fixpoint.specs.Progress.{Heard, sets_told, IsTold, MayTold, ByComputed, ForTarget}
use Rattle.closure_fixpoint.specs.Asked.{HasNoAnswer}
use Rattle.closure_fixpoint.specs.parts.Wanting.{named_ask, WantsOfAsk, WantsOfHeaders}
use Rattle.closure_fixpoint.specs.Targets.{heard_of, AreNames, NamesSeen, IsNextWant, IsDoneWith, WantsOr}
use Rattle.std.specs.Prelude.{Vec}
use Rattle.std.specs.declared.alloc.Global.{Global}
use Rattle.std.proofs.lemmas.Bool.{not-true}
use Rattle.closure_fixpoint.specs.Naming.{IsRest, IsLeft}
use Rattle.closure_fixpoint.specs.declared.naming.Rest.{Rest}
use Rattle.search_path.specs.declared.asking.Form.{Form}

module _ (job : JobData) (budget : ℕ) (heard : Heard) (found : List Visit) (visit : Visit) (sheet : SheetData) (c : ComputedAsk) (told : IsTold heard visit sheet c) where
  -- what is wanted of a header that it may name is wanted next
  next_of_ask : (header : HeaderName) → MayTold job heard visit sheet c header → (w : Want)
      → WantsOfAsk heard.searches found (computed_ask visit c header) (not c.probe) (Some w) → IsNextWant job heard found w
  next_of_ask header may (want.Search ask include) (same, more, none) = (
    subst (λ (a : Ask). HasNoAnswer heard.searches a) (sym same) none,
    ForTarget visit sheet c header told may (sym same),
    λ hit yes_include.
        ByComputed visit sheet c header hit (record { told = told.told; stands = told.stands }) (not-true c.probe (sym more ∙ yes_include)) may
        (subst (λ (a : Ask). Member (a, Some hit) (heard.searches ++ (ask, Some hit) ∷ [])) same (Member-append_right (ask, Some hit) heard.searches ((ask, Some hit) ∷ []) (inl refl)))
        refl,
  )
  next_of_ask header may (want.Visit v) (got, m, new) = (
    ByComputed visit sheet c header new.hit told (not-true c.probe new.is_include) may
        (subst (λ (o : Option Hit). Member (computed_ask visit c header, o) heard.searches) new.is_got m) new.is_visit,
    new.new,
  )

  -- where its names are known, what is wanted of their headers is wanted of it
  pub wanted_of : (headers : List HeaderName) → AreNames budget (sets_told job heard) (known_name sheet visit) c.tokens headers → (w : Want)
      → WantsOfHeaders heard.searches found visit c.form (not c.probe) headers (Some w) → IsNextWant job heard found w
  wanted_of headers names w (header, m, wants) = next_of_ask header (names.may header m) w wants

  pub done_with : (headers : List HeaderName) → AreNames budget (sets_told job heard) (known_name sheet visit) c.tokens headers
      → WantsOfHeaders heard.searches found visit c.form (not c.probe) headers None → IsDoneWith job budget heard found visit sheet c
  done_with headers names all = record { accepted = names.accepted; made = λ header may. all header (names.all header may) }

  pub wants_or : (headers : List HeaderName) → AreNames budget (sets_told job heard) (known_name sheet visit) c.tokens headers → (o : Option Want)
      → WantsOfHeaders heard.searches found visit c.form (not c.probe) headers o → WantsOr job budget heard found (IsDoneWith job budget heard found visit sheet c) (Ok o)
  wants_or headers names None wants = done_with headers names wants
  wants_or headers names (Some w) wants = wanted_of headers names w wants

-- what is wanted of the headers that are left of a target is wanted next, where no sheet was told since
pub rest_wants : (job : JobData) (searches : List (Ask × Option Hit)) (sheets : List (Visit × SheetData)) (found : List Visit) (rest : Rest) → IsLeft job sheets rest → rest.told ≡ length sheets → (w : Want)
    → WantsOfHeaders searches found rest.visit rest.form rest.include rest.headers.items (Some w) → IsNextWant job (heard_of searches sheets) found w
rest_wants job searches sheets found rest left told w (header, m, wants) =
    let now : IsRest job sheets rest = subst (λ (l : List (Visit × SheetData)). IsRest job l rest) (take_all rest.told sheets (omega (arith, told))) left.1 in
    next_of_ask job 0 (heard_of searches sheets) found rest.visit now.sheet now.c (record { told = now.is_told.told; stands = now.is_told.stands }) header (now.may header m) w
    (subst (λ (b : Bool). WantsOfAsk searches found (computed_ask rest.visit now.c header) b (Some w)) now.include_is
    (subst (λ (f : Form). WantsOfAsk searches found (named_ask rest.visit f header) rest.include (Some w)) now.form_is wants))

-- what is wanted of a computed target, with its headers as code has them
pub target_wants : (job : JobData) (budget : ℕ) (searches : List (Ask × Option Hit)) (sheets : List (Visit × SheetData)) (found : List Visit) (visit : Visit) (sheet : SheetData) (c : ComputedAsk)
    → IsTold (heard_of searches sheets) visit sheet c → (headers : Vec HeaderName Global) → NamesSeen job budget sheets visit sheet c (Ok headers)
    → (form : Form) (probe : Bool) (list : List HeaderName) (want o : Option Want) → form ≡ c.form → probe ≡ c.probe → list ≡ headers.items
    → WantsOfHeaders searches found visit form (not probe) list want → want ≡ o → WantsOr job budget (heard_of searches sheets) found (IsDoneWith job budget (heard_of searches sheets) found visit sheet c) (Ok o)
target_wants job budget searches sheets found visit sheet c told headers names form probe list want o form_is probe_is list_is wants is =
    wants_or job budget (heard_of searches sheets) found visit sheet c told headers.items names o
    (subst (λ (x : Option Want). WantsOfHeaders searches found visit c.form (not c.probe) headers.items x) is
    (subst (λ (l : List HeaderName). WantsOfHeaders searches found visit c.form (not c.probe) l want) list_is
    (subst (λ (b : Bool). WantsOfHeaders searches found visit c.form (not b) list want) probe_is
    (subst (λ (f : Form). WantsOfHeaders searches found visit f (not probe) list want) form_is wants))))
