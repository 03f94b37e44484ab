-- What is kept of the definitions and answers that were told stays right.
use Rattle.std.proofs.Common.{◌≡◌, ◌⊎◌, ◌<◌, ◌≤◌, ◌+◌, ℕ, zero, suc, ◌∷◌, ◌++◌, [], List, length, take, drop, Option, Some, None, Result, Ok, Err, true, false, inl, inr, refl, sym, ap, subst, ◌∙◌, map, arith, true≢false, append_assoc, append-nil, take_all, length-append, get_or}
use Rattle.std.specs.Prelude.{Vec}
use Rattle.std.specs.declared.alloc.Global.{Global}
use Rattle.std.specs.List.{slice_get}
use Rattle.std.proofs.lemmas.List.{take_more, flat_map_more, map_more}
use Rattle.base_types.specs.Members.{Member}
use Rattle.pp_tokens.specs.declared.Token.{Token}
use Rattle.directive_scan.specs.declared.HeaderName.{HeaderName}
use Rattle.directive_scan.specs.HeaderNames.{header_named}
use Rattle.macro_defs.specs.MacroDefinition.{MacroDefinition}
use Rattle.macro_defs.specs.Defining.{Named}
use Rattle.macro_expand.specs.Choice.{Sets, IsDistinct, AreAmong, Supports, HasManyRuns}
use Rattle.symbolic_expand.specs.Defined.{Defined, AddsDefinition}
use Rattle.symbolic_expand.specs.Defined as kept
use Rattle.symbolic_expand.specs.Laws.{SupportDecides, SameAnswers, SameMembers}
use Rattle.symbolic_expand.specs.Found.{NothingRefuses}
use Rattle.symbolic_expand.specs.declared.outcome.Names.{Names}
use Rattle.tree_model.specs.Paths.{Text}
use Rattle.search_path.specs.declared.asking.Visit.{Visit}
use Rattle.job_words.specs.JobOf.{JobData}
use Rattle.sheet_build.specs.Sheet.{SheetData, ComputedAsk, named_pair}
use Rattle.closure_fixpoint.specs.Closure.{first_definitions, definition_sets, known_name}
use Rattle.closure_fixpoint.specs.Targets.{heard_of, RefusesNames, AreNames, NamesSeen}
use Rattle.closure_fixpoint.specs.declared.job_analysis.Refusal.{Refusal}
use Rattle.closure_fixpoint.specs.declared.job_analysis.Refusal.TheVariants.{Budget, Long, Presumed, Visits, Large, Request, NoSource}
use Rattle.closure_fixpoint.specs.declared.naming.Grown.{Grown}
use Rattle.closure_fixpoint.specs.declared.naming.Kept.{Kept}
use Rattle.closure_fixpoint.specs.declared.naming.Naming.{Naming}
use Rattle.closure_fixpoint.specs.Naming.{HasJust, definitions_in, definitions_to, Grew, asked_target, asked_targets, NamesUnder, IsKept, NoneSince, Puts, IsAgain, IsAnew, AnswersAreKept, HoldsStill, IsRest, IsLeft, headers_to_ask, Follows, IsUpToDate}
use Rattle.closure_fixpoint.specs.Progress.{IsTold}
use Rattle.search_path.specs.Search.{Hit}
use Rattle.search_path.specs.declared.asking.Ask.{Ask}
use Rattle.closure_fixpoint.specs.declared.naming.Rest.{Rest}
use Rattle.closure_fixpoint.proofs.MemberLaws.{Contains-from_Member, Member-from_Contains}
use Rattle.closure_fixpoint.proofs.ProgressLaws.{sets-distinct}
use Rattle.closure_fixpoint.proofs.SetsLaws.{named, just_more, others_same}

-- PLACES IN LISTS

pub there_behind : {X : Type 0} (xs ys : List X) (i : ℕ) (x : X) → slice_get xs i ≡ Some x → slice_get (xs ++ ys) i ≡ Some x
there_behind [] ys i x is = absurd (cc)
there_behind (z ∷ xs) ys zero x is = is
there_behind (z ∷ xs) ys (suc i) x is = there_behind xs ys i x is

drop_left : {X : Type 0} (n : ℕ) (xs ys : List X) (x : X) → Member x (drop n xs) → Member x (drop n (xs ++ ys))
drop_left zero [] ys x m = absurd m
drop_left zero (z ∷ xs) ys x (inl same) = inl same
drop_left zero (z ∷ xs) ys x (inr m) = inr (drop_left zero xs ys x m)
drop_left (suc n) [] ys x m = absurd m
drop_left (suc n) (z ∷ xs) ys x m = drop_left n xs ys x m

drop_right : {X : Type 0} (n : ℕ) (xs ys : List X) (x : X) → n ≤ length xs → Member x ys → Member x (drop n (xs ++ ys))
drop_right zero [] ys x few m = m
drop_right zero (z ∷ xs) ys x few m = inr (drop_right zero xs ys x (omega arith) m)
drop_right (suc n) [] ys x few m = absurd (omega (arith, few))
drop_right (suc n) (z ∷ xs) ys x few m = drop_right n xs ys x (omega (arith, few)) m

-- THE SETS GROW

pub grew_none : (grown : Grown) → Grew grown [] grown
grew_none grown = record {
  sets = λ before just. subst (HasJust grown.sets) (sym (append-nil before)) just;
  more = [];
  log = sym (append-nil grown.log.items);
  same = λ name other. refl;
}

pub grew_both : (old mid new : Grown) (first second : List Named) → Grew old first mid → Grew mid second new → Grew old (first ++ second) new
grew_both old mid new first second a b = record {
  sets = λ before just. subst (HasJust new.sets) (append_assoc before first second) (b.sets (before ++ first) (a.sets before just));
  more = a.more ++ b.more;
  log = b.log ∙ ap (λ (l : List Text). l ++ b.more) a.log ∙ append_assoc old.log.items a.more b.more;
  same = λ name other. b.same name (λ m. other (right name m)) ∙ a.same name (λ m. other (left name m));
}
  where
    left : (name : Text) → Member name a.more → Member name (a.more ++ b.more)
    left name m = drop_left zero a.more b.more name m

    right : (name : Text) → Member name b.more → Member name (a.more ++ b.more)
    right name m = drop_right zero a.more b.more name (omega arith) m

pub grew_old : (old new : Grown) (name : Text) (d : MacroDefinition) → AddsDefinition old.sets name d false new.sets → AreAmong (kept.sets_of old.sets) (kept.sets_of new.sets) → new.log.items ≡ old.log.items
    → Grew old (named name d ∷ []) new
grew_old old new name d adds part log = record {
  sets = just_more old.sets name d false new.sets adds part;
  more = [];
  log = log ∙ sym (append-nil old.log.items);
  same = λ n other. ap (λ (s : Defined). kept.sets_of s n) adds.1;
}

pub grew_new : (old new : Grown) (name : Text) (d : MacroDefinition) → AddsDefinition old.sets name d true new.sets → AreAmong (kept.sets_of old.sets) (kept.sets_of new.sets) → new.log.items ≡ old.log.items ++ name ∷ []
    → Grew old (named name d ∷ []) new
grew_new old new name d adds part log = record {
  sets = just_more old.sets name d true new.sets adds part;
  more = name ∷ [];
  log = log;
  same = λ n other. others_same old.sets name d new.sets adds n (λ same. other (inl same));
}

-- ANSWERS STAY KEPT

-- where the sets grow
pub kept_grown : (old new : Grown) (definitions : List Named) → Grew old definitions new → (target : Option Text × List Token) (answer : Kept)
    → IsKept old.sets old.log.items target answer → IsKept new.sets new.log.items target answer
kept_grown old new definitions grew target answer k = record {
  was = k.was;
  names = k.names;
  marked = omega (arith, k.marked, ap (λ (l : List Text). length l) grew.log, length-append old.log.items grew.more);
  same = λ name supports other.
      subst (SameMembers (k.was name)) (sym (grew.same name (λ m. other (subst (λ (l : List Text). Member name (drop answer.mark l)) (sym grew.log) (drop_right answer.mark old.log.items grew.more name k.marked m)))))
      (k.same name supports (λ m. other (subst (λ (l : List Text). Member name (drop answer.mark l)) (sym grew.log) (drop_left answer.mark old.log.items grew.more name m))));
}

pub all_grown : (old new : Grown) (definitions : List Named) → Grew old definitions new → (targets : List (Option Text × List Token)) (answers : List Kept) → AnswersAreKept old targets answers → AnswersAreKept new targets answers
all_grown old new definitions grew targets answers all number answer is =
    let k = all number answer is in (k.0, k.1, kept_grown old new definitions grew k.0 answer k.2)

drop_whole : {X : Type 0} (xs : List X) (x : X) → Member x (drop (length xs) xs) → ⊥
drop_whole [] x m = m
drop_whole (y ∷ xs) x m = drop_whole xs x m

-- an answer that was found just now
pub kept_now : (grown : Grown) (target : Option Text × List Token) (budget : ℕ) (names : Names) → NamesUnder budget (kept.sets_of grown.sets) target.0 target.1 names
    → IsKept grown.sets grown.log.items target (record { names = names; budget = budget; mark = length grown.log.items })
kept_now grown target budget names under = record {
  was = kept.sets_of grown.sets;
  names = under;
  marked = omega arith;
  same = λ name supports other d. (λ c. c, λ c. c);
}

-- an answer that holds still
pub kept_again : (grown : Grown) (target : Option Text × List Token) (answer : Kept) → IsKept grown.sets grown.log.items target answer → NoneSince grown.log.items answer
    → IsKept grown.sets grown.log.items target (record { names = answer.names; budget = answer.budget; mark = length grown.log.items })
kept_again grown target answer k none = record {
  was = k.was;
  names = k.names;
  marked = omega arith;
  same = λ name supports other. k.same name supports (none name ((k.names.exactly.supports name).1 supports));
}

-- an answer is put
pub all_put : (grown : Grown) (targets : List (Option Text × List Token)) (old new : List Kept) (number : ℕ) (target : Option Text × List Token) (answer : Kept) → AnswersAreKept grown targets old
    → slice_get targets number ≡ Some target → IsKept grown.sets grown.log.items target answer → Puts old number answer new → AnswersAreKept grown targets new
all_put grown targets old new number target answer all there k puts n a is = go (puts n a is)
  where
    go : ((n ≡ number) × (a ≡ answer)) ⊎ (slice_get old n ≡ Some a) → (t : Option Text × List Token) × (slice_get targets n ≡ Some t) × IsKept grown.sets grown.log.items t a
    go (inr before) = all n a before
    go (inl (place, same)) = (target, ap (slice_get targets) place ∙ there, subst (IsKept grown.sets grown.log.items target) (sym same) k)

-- WHAT ANSWERS SAY

same_answers : {H : Type 0} → SupportDecides H → (sets : Sets) (definitions : List Named) (file : Option Text) (tokens : List Token) → IsDistinct sets
    → ((name : Text) → Supports sets file tokens name → SameMembers (sets name) (definition_sets definitions name)) → SameAnswers H sets (definition_sets definitions) file tokens
same_answers decides sets definitions file tokens distinct agree = decides sets (definition_sets definitions) file tokens distinct (sets-distinct definitions) agree

refusal_same : {H : Type 0} (budget : ℕ) (sets other : Sets) (file : Option Text) (tokens : List Token) → SameAnswers H sets other file tokens → (refusal : Refusal)
    → RefusesNames budget sets file tokens refusal → RefusesNames budget other file tokens refusal
refusal_same budget sets other file tokens same Budget r = (same.many budget).0 r
refusal_same budget sets other file tokens same Long r = same.long.0 r
refusal_same budget sets other file tokens same Presumed r = same.presumed.0 r
refusal_same budget sets other file tokens same Visits r = r
refusal_same budget sets other file tokens same Large r = r
refusal_same budget sets other file tokens same Request r = r
refusal_same budget sets other file tokens same NoSource r = r

accepts : {H : Type 0} (budget within : ℕ) (sets other : Sets) (file : Option Text) (tokens : List Token) → SameAnswers H sets other file tokens → NothingRefuses within sets file tokens → within ≤ budget
    → (refusal : Refusal) → RefusesNames budget other file tokens refusal → ⊥
accepts budget within sets other file tokens same nothing below Budget r =
    let many : HasManyRuns budget sets file tokens = (same.many budget).1 r in
    let few = nothing.within_budget in
    absurd (omega (arith, many, few, below))
accepts budget within sets other file tokens same nothing below Long r = nothing.not_long (same.long.1 r)
accepts budget within sets other file tokens same nothing below Presumed r = nothing.not_presumed (same.presumed.1 r)
accepts budget within sets other file tokens same nothing below Visits r = r
accepts budget within sets other file tokens same nothing below Large r = r
accepts budget within sets other file tokens same nothing below Request r = r
accepts budget within sets other file tokens same nothing below NoSource r = r

are_names : SupportDecides HeaderName → (budget within : ℕ) (sets : Sets) (definitions : List Named) (file : Option Text) (tokens : List Token) (names : Names) → NamesUnder within sets file tokens names
    → within ≤ budget → ((name : Text) → Supports sets file tokens name → SameMembers (sets name) (definition_sets definitions name))
    → (headers : List HeaderName) → headers ≡ names.headers → AreNames budget (definition_sets definitions) file tokens headers
are_names decides budget within sets definitions file tokens names under below agree headers is =
    let same : SameAnswers HeaderName sets (definition_sets definitions) file tokens = same_answers decides sets definitions file tokens under.distinct agree in
    record {
      may = λ header m.
          (same.headers header_named header).0
          ((under.exactly.named header).0 (Contains-from_Member header names.headers (subst (λ (hs : List HeaderName). Member header hs) is m)));
      all = λ header may.
          subst (λ (hs : List HeaderName). Member header hs) (sym is)
          (Member-from_Contains header names.headers ((under.exactly.named header).1 ((same.headers header_named header).1 may)));
      accepted = accepts budget within sets (definition_sets definitions) file tokens same under.accepted below;
    }

-- the names of an answer that holds still
pub again_seen : SupportDecides HeaderName → (job : JobData) (budget : ℕ) (sheets : List (Visit × SheetData)) (visit : Visit) (sheet : SheetData) (c : ComputedAsk) (sets : Defined) (log : List Text) (answer : Kept)
    → HasJust sets (first_definitions job ++ definitions_in sheets) → IsKept sets log (asked_target visit sheet c) answer → NoneSince log answer → answer.budget ≤ budget
    → (headers : Vec HeaderName Global) → headers.items ≡ answer.names.headers → NamesSeen job budget sheets visit sheet c (Ok headers)
again_seen decides job budget sheets visit sheet c sets log answer just k none below headers is =
    are_names decides budget answer.budget k.was (first_definitions job ++ definitions_in sheets) (known_name sheet visit) c.tokens answer.names k.names below
    (λ name supports d.
    let now = k.same name supports (none name ((k.names.exactly.supports name).1 supports)) d in
    (λ m. (just name d).0 (now.0 m), λ m. now.1 ((just name d).1 m)))
    headers.items is

-- the names of an expansion
pub anew_seen : SupportDecides HeaderName → (job : JobData) (budget : ℕ) (sheets : List (Visit × SheetData)) (visit : Visit) (sheet : SheetData) (c : ComputedAsk) (grown : Grown) (old new : List Kept) (number : ℕ)
    → HasJust grown.sets (first_definitions job ++ definitions_in sheets) → (names : Result (Vec HeaderName Global) Refusal) → IsAnew budget grown (asked_target visit sheet c) old number names new
    → NamesSeen job budget sheets visit sheet c names
anew_seen decides job budget sheets visit sheet c grown old new number just (Ok headers) found =
    are_names decides budget budget (kept.sets_of grown.sets) (first_definitions job ++ definitions_in sheets) (known_name sheet visit) c.tokens found.names found.under (omega arith)
    (λ name supports d. just name d) headers.items found.same
anew_seen decides job budget sheets visit sheet c grown old new number just (Err refusal) (distinct, refuses, same) =
    refusal_same {H = HeaderName} budget (kept.sets_of grown.sets) (definition_sets (first_definitions job ++ definitions_in sheets)) (known_name sheet visit) c.tokens
    (same_answers decides (kept.sets_of grown.sets) (first_definitions job ++ definitions_in sheets) (known_name sheet visit) c.tokens distinct (λ name supports d. just name d)) refusal refuses

pub anew_kept : (budget : ℕ) (grown : Grown) (targets : List (Option Text × List Token)) (target : Option Text × List Token) (old new : List Kept) (number : ℕ) → AnswersAreKept grown targets old
    → slice_get targets number ≡ Some target → (names : Result (Vec HeaderName Global) Refusal) → IsAnew budget grown target old number names new → AnswersAreKept grown targets new
anew_kept budget grown targets target old new number all there (Ok headers) found =
    all_put grown targets old new number target (record { names = found.names; budget = budget; mark = length grown.log.items }) all there (kept_now grown target budget found.names found.under) found.puts
anew_kept budget grown targets target old new number all there (Err refusal) (distinct, refuses, same) = subst (AnswersAreKept grown targets) (sym same) all

pub again_kept : (grown : Grown) (targets : List (Option Text × List Token)) (target : Option Text × List Token) (old new : List Kept) (number : ℕ) (headers : List HeaderName) → AnswersAreKept grown targets old
    → slice_get targets number ≡ Some target → (again : IsAgain old number (length grown.log.items) headers new) → NoneSince grown.log.items again.answer → AnswersAreKept grown targets new
again_kept grown targets target old new number headers all there again none =
    let k = all number again.answer again.was in
    let same : target ≡ k.0 = cc in
    all_put grown targets old new number target (record { names = again.answer.names; budget = again.answer.budget; mark = length grown.log.items }) all there
    (kept_again grown target again.answer (subst (λ (t : Option Text × List Token). IsKept grown.sets grown.log.items t again.answer) (sym same) k.2) none) again.puts

-- LOOPS

-- one definition more of some
pub grew_more : (old mid new : Grown) (ds : List (Text × MacroDefinition)) (i : ℕ) (x : Text × MacroDefinition) → i < length ds → x ≡ get_or ds i x → Grew old (map named_pair (take i ds)) mid → Grew mid (named_pair x ∷ []) new
    → Grew old (map named_pair (take (i + 1) ds)) new
grew_more old mid new ds i x below is a b =
    subst (λ (l : List Named). Grew old l new) (sym (map_more named_pair ds i x below ∙ ap (λ (y : Text × MacroDefinition). map named_pair (take i ds) ++ named_pair y ∷ []) (sym is)))
    (grew_both old mid new (map named_pair (take i ds)) (named_pair x ∷ []) a b)

pub grew_all : (old new : Grown) (ds : List (Text × MacroDefinition)) (i : ℕ) → length ds ≤ i → Grew old (map named_pair (take i ds)) new → Grew old (map named_pair ds) new
grew_all old new ds i past a = subst (λ (l : List (Text × MacroDefinition)). Grew old (map named_pair l) new) (take_all i ds past) a

-- the definitions of one sheet more
definitions_next : (job : JobData) (n : ℕ) (sheets : List (Visit × SheetData)) (told : Visit × SheetData) → n < length sheets → told ≡ get_or sheets n told → definitions_to job (n + 1) sheets ≡ definitions_to job n sheets ++ told.1.defs
definitions_next job n sheets told below is =
    ap (λ (l : List (Visit × SheetData)). first_definitions job ++ definitions_in l) (take_more sheets n told below ∙ ap (λ (t : Visit × SheetData). take n sheets ++ t ∷ []) (sym is))
    ∙ sym (flat_map_more (λ (t : Visit × SheetData). t.1.defs) (first_definitions job) (take n sheets) told)

pub follows_next : (old new : Naming) (job : JobData) (sheets : List (Visit × SheetData)) (told : Visit × SheetData) → old.told < length sheets → told ≡ get_or sheets old.told told → Follows old job sheets → old.begun ≡ true
    → Grew old.grown told.1.defs new.grown → new.told ≡ old.told + 1 → new.begun ≡ true → new.kept.items ≡ old.kept.items → new.rest ≡ old.rest → Follows new job sheets
follows_next old new job sheets told below is follows begun grew one begun_now same rest_same = record {
  few = omega (arith, below, one);
  unread = λ never. absurd (cc);
  sets = λ yes_begun.
      subst (λ (n : ℕ). HasJust new.grown.sets (definitions_to job n sheets)) (sym one)
      (subst (HasJust new.grown.sets) (sym (definitions_next job old.told sheets told below is)) (grew.sets (definitions_to job old.told sheets) (follows.sets begun)));
  kept = subst (AnswersAreKept new.grown (asked_targets sheets)) (sym same) (all_grown old.grown new.grown told.1.defs grew (asked_targets sheets) old.kept.items follows.kept);
  left = λ rest left. follows.left rest (sym rest_same ∙ left);
}

-- all sheets were told
pub up_to_date : (naming : Naming) (job : JobData) (sheets : List (Visit × SheetData)) → Follows naming job sheets → naming.begun ≡ true → length sheets ≤ naming.told → IsUpToDate naming job sheets
up_to_date naming job sheets follows begun all = record {
  follows = follows;
  begun = begun;
  all = subst (λ (l : List (Visit × SheetData)). HasJust naming.grown.sets (first_definitions job ++ definitions_in l)) (take_all naming.told sheets all) (follows.sets begun);
}

-- the first definitions are read
pub follows_first : (old new : Naming) (job : JobData) → old.begun ≡ false → HasJust new.grown.sets (first_definitions job) → new.told ≡ old.told → new.begun ≡ true → new.kept.items ≡ old.kept.items → new.rest ≡ old.rest
    → (sheets : List (Visit × SheetData)) → Follows old job sheets → Follows new job sheets
follows_first old new job unread just told begun same rest_same sheets follows = record {
  few = omega (arith, follows.few, told);
  unread = λ never. absurd (cc);
  sets = λ yes_begun.
      subst (λ (n : ℕ). HasJust new.grown.sets (definitions_to job n sheets)) (sym (told ∙ (follows.unread unread).0))
      (subst (HasJust new.grown.sets) (sym (append-nil (first_definitions job))) just);
  kept = subst (AnswersAreKept new.grown (asked_targets sheets)) (sym (same ∙ (follows.unread unread).1)) (λ number answer is. absurd (cc));
  left = λ rest left. follows.left rest (sym rest_same ∙ left);
}

pub follows_nothing : (naming : Naming) → naming.begun ≡ false → naming.told ≡ 0 → naming.kept.items ≡ [] → naming.rest ≡ None → (job : JobData) → Follows naming job []
follows_nothing naming unread told none no_rest job = record {
  few = omega (arith, told);
  unread = λ is. (told, none);
  sets = λ never. absurd (cc);
  kept = subst (AnswersAreKept naming.grown []) (sym none) (λ number answer is. absurd (cc));
  left = λ rest left. absurd (cc);
}

-- ONE QUESTION

pub seen_again : SupportDecides HeaderName → (job : JobData) (budget : ℕ) (sheets : List (Visit × SheetData)) (visit : Visit) (sheet : SheetData) (c : ComputedAsk) (naming : Naming) (number mark : ℕ) (new : List Kept)
    → IsUpToDate naming job sheets → slice_get (asked_targets sheets) number ≡ Some (asked_target visit sheet c) → HoldsStill naming budget number
    → (headers : Vec HeaderName Global) → IsAgain naming.kept.items number mark headers.items new → NamesSeen job budget sheets visit sheet c (Ok headers)
seen_again decides job budget sheets visit sheet c naming number mark new now there still headers again =
    let k = now.follows.kept number still.answer still.is in
    let target : k.0 ≡ asked_target visit sheet c = cc in
    let answer : again.answer ≡ still.answer = cc in
    again_seen decides job budget sheets visit sheet c naming.grown.sets naming.grown.log.items still.answer now.all
    (subst (λ (t : Option Text × List Token). IsKept naming.grown.sets naming.grown.log.items t still.answer) target k.2) still.untouched still.within headers
    (again.same ∙ ap (λ (a : Kept). a.names.headers) answer)

-- where no answers or others are kept
follows_kept : (naming : Naming) (job : JobData) (sheets : List (Visit × SheetData)) (new : Vec Kept Global) → IsUpToDate naming job sheets → AnswersAreKept naming.grown (asked_targets sheets) new.items
    → Follows (record { begun = naming.begun; told = naming.told; grown = naming.grown; kept = new; rest = naming.rest }) job sheets
follows_kept naming job sheets new now kept_new = record {
  few = now.follows.few;
  unread = λ unread. absurd (true≢false (sym now.begun ∙ unread));
  sets = now.follows.sets;
  kept = kept_new;
  left = now.follows.left;
}

pub follows_again : (budget : ℕ) (job : JobData) (sheets : List (Visit × SheetData)) (visit : Visit) (sheet : SheetData) (c : ComputedAsk) (naming : Naming) (number mark : ℕ) (new : Vec Kept Global) → IsUpToDate naming job sheets
    → slice_get (asked_targets sheets) number ≡ Some (asked_target visit sheet c) → (still : HoldsStill naming budget number) → mark ≡ length naming.grown.log.items
    → (headers : List HeaderName) → IsAgain naming.kept.items number mark headers new.items → Follows (record { begun = naming.begun; told = naming.told; grown = naming.grown; kept = new; rest = naming.rest }) job sheets
follows_again budget job sheets visit sheet c naming number mark new now there still is headers again =
    let same : IsAgain naming.kept.items number (length naming.grown.log.items) headers new.items = subst (λ (m : ℕ). IsAgain naming.kept.items number m headers new.items) is again in
    let answer : same.answer ≡ still.answer = one_answer same.was still.is in
    follows_kept naming job sheets new now
    (again_kept naming.grown (asked_targets sheets) (asked_target visit sheet c) naming.kept.items new.items number headers now.follows.kept there same
    (subst (NoneSince naming.grown.log.items) (sym answer) still.untouched))
  where
    one_answer : {a b : Kept} → slice_get naming.kept.items number ≡ Some a → slice_get naming.kept.items number ≡ Some b → a ≡ b
    one_answer p q = cc

pub follows_anew : (budget : ℕ) (job : JobData) (sheets : List (Visit × SheetData)) (target : Option Text × List Token) (naming : Naming) (number : ℕ) (new : Vec Kept Global) → IsUpToDate naming job sheets
    → slice_get (asked_targets sheets) number ≡ Some target → (names : Result (Vec HeaderName Global) Refusal) → IsAnew budget naming.grown target naming.kept.items number names new.items
    → Follows (record { begun = naming.begun; told = naming.told; grown = naming.grown; kept = new; rest = naming.rest }) job sheets
follows_anew budget job sheets target naming number new now there names is =
    follows_kept naming job sheets new now (anew_kept budget naming.grown (asked_targets sheets) target naming.kept.items new.items number now.follows.kept there names is)

-- THE REST OF A TARGET

-- without one
pub follows_alone : (naming : Naming) (job : JobData) (sheets : List (Visit × SheetData)) → Follows naming job sheets → Follows (record naming { rest = None }) job sheets
follows_alone naming job sheets follows = record {
  few = follows.few;
  unread = follows.unread;
  sets = follows.sets;
  kept = follows.kept;
  left = λ rest left. absurd (cc);
}

-- with one
pub follows_with : (naming : Naming) (job : JobData) (sheets : List (Visit × SheetData)) (rest : Rest) → Follows naming job sheets → IsLeft job sheets rest → Follows (record naming { rest = Some rest }) job sheets
follows_with naming job sheets rest follows is = record {
  few = follows.few;
  unread = follows.unread;
  sets = follows.sets;
  kept = follows.kept;
  left = λ other left. let same : rest ≡ other = cc in subst (λ (r : Rest). IsLeft job sheets r) same is;
}

-- with one of which some headers are done with
pub follows_on : (naming : Naming) (job : JobData) (sheets : List (Visit × SheetData)) (rest : Rest) (next : ℕ) → Follows naming job sheets → naming.rest ≡ Some rest
    → Follows (record naming { rest = Some (record rest { next = next }) }) job sheets
follows_on naming job sheets rest next follows is =
    let was = follows.left rest is in
    follows_with naming job sheets (record rest { next = next }) follows
    (was.0, record { sheet = was.1.sheet; c = was.1.c; is_told = was.1.is_told; form_is = was.1.form_is; include_is = was.1.include_is; may = was.1.may })

-- with all headers of a target
pub follows_aside : (naming : Naming) (job : JobData) (budget : ℕ) (searches : List (Ask × Option Hit)) (sheets : List (Visit × SheetData)) (visit : Visit) (sheet : SheetData) (c : ComputedAsk) (headers : Vec HeaderName Global)
    → Follows naming job sheets → IsTold (heard_of searches sheets) visit sheet c → NamesSeen job budget sheets visit sheet c (Ok headers)
    → Follows (record naming { rest = Some (headers_to_ask (length sheets) visit c headers) }) job sheets
follows_aside naming job budget searches sheets visit sheet c headers follows told names =
    follows_with naming job sheets (headers_to_ask (length sheets) visit c headers) follows (
      omega arith,
      subst (λ (l : List (Visit × SheetData)). IsRest job l (headers_to_ask (length sheets) visit c headers)) (sym (take_all (length sheets) sheets (omega arith)))
          (record { sheet = sheet; c = c; is_told = record { told = told.told; stands = told.stands }; form_is = refl; include_is = refl; may = names.may }),
    )
