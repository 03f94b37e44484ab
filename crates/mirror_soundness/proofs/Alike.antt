-- Preprocessing over two worlds that agree where the analysis searches goes alike, step by step.
use Rattle.std.proofs.Common.{◌≡◌, ℕ, zero, suc, ◌+◌, ◌-◌, ◌++◌, ◌∷◌, [], List, length, Option, Some, None, Bool, true, false, inl, inr, refl, sym, ap, subst, cond}
use Rattle.std.specs.Prelude.{nat_le}
use Rattle.base_types.specs.Members.{Member, Within}
use Rattle.pp_tokens.specs.Lines.{lexed, LexedFile}
use Rattle.directive_scan.specs.declared.HeaderName.{HeaderName}
use Rattle.directive_scan.specs.declared.Target.{Target}
use Rattle.directive_scan.specs.declared.Directive.{Directive}
use Rattle.directive_scan.specs.declared.Directive.TheVariants as named
use Rattle.directive_scan.specs.declared.Piece.{Piece}
use Rattle.directive_scan.specs.declared.Piece.TheVariants.{Run, Line}
use Rattle.directive_scan.specs.declared.Malformed.{Malformed}
use Rattle.directive_scan.specs.declared.Malformed.TheVariants as malformed
use Rattle.directive_scan.specs.declared.ConditionPart.{ConditionPart}
use Rattle.directive_scan.specs.declared.ConditionPart.TheVariants.{Written, Probe}
use Rattle.directive_scan.specs.Directives.{pieces}
use Rattle.directive_scan.specs.Operands.{parts_of, targets_of}
use Rattle.directive_scan.specs.Groups.{Role, Group, nothing, one, conditional, Branches, ended, branch, group_pieces, branches_pieces, Outline, whole, stray, after_else, unended, role_of, outline, malformed_by, HasOutline}
use Rattle.macro_defs.specs.Defining.{defined_by}
use Rattle.macro_expand.specs.Laws.{ChoiceFactHolds}
use Rattle.cpp_output.specs.Layout.{Event, enter, back, pragma}
use Rattle.tree_model.specs.Paths.{Text, Path}
use Rattle.base_types.specs.Limits.{body_limit}
use Rattle.tree_model.specs.Shown.{presumed_name}
use Rattle.tree_model.specs.declared.walk.Located.{Located}
use Rattle.tree_model.proofs.MemberLemmas.{Member-append_left, Member-append_right, Member-map}
use Rattle.search_path.specs.Search.{Hit}
use Rattle.search_path.specs.Asks.{forced_ask, source_ask}
use Rattle.search_path.specs.declared.asking.Visit.{Visit}
use Rattle.search_path.specs.declared.asking.Ask.{Ask}
use Rattle.job_words.specs.JobOf.{JobData}
use Rattle.daemon_cpp.specs.Diagnostics.{WorkLimit, TooLarge}
use Rattle.daemon_cpp.specs.Prep.{World, here_at, presumed_line, State, PrepStep, Go, Stop, and_then, Reached, Gives, Ends, with_value, reach, complain, complain_of_job, limited, say, touch, Entering, header_reached, is_marked, answer_token, answered_condition, probed, probe_named, probe, answer_parts, parts_condition, condition, directive_test, piece_test, unless_marked, found_file, include_named, include, directive_step, piece_step, group_or, run_group, run_branches, malformed_step, run_outline, run_file, paid, opening_cost, open_file, back_in, enter_file, first_state, run_forced}
use Rattle.sheet_build.specs.Sheet.{asked_so, SheetData, asked_for, sheet_from}
use Rattle.closure_fixpoint.specs.Closure.{AnalysisAnswers, first_definitions, IsKnownSearch}
use Rattle.mirror_soundness.proofs.TableLaws.{first_among}
use Rattle.mirror_soundness.proofs.Kept as kept
use Rattle.mirror_soundness.proofs.Kept.{Any}
use Rattle.mirror_soundness.proofs.Targets as asked_by
use Rattle.mirror_soundness.proofs.Targets.{answers_by, Analyses, IsIncluded, IsProbed, operands_there, probes_there, includes_there}

-- each list of pieces has the outline that is computed of it
abbrev pub OutlineHolds : Type 0
OutlineHolds = (role : Piece → Role) (ps : List Piece) → HasOutline role ps (outline role ps)

-- A part of a world, and the world, of which there is an analysis: a search of which all that it may find is known gives the same in
-- the part, and a known file has the same bytes.
pub record Agree (part world : World) (sheet : Visit → SheetData) (job : JobData) (visits : List Visit) (Home : Path → Type 0) : Type 0 where
  pub analysis : Analyses world sheet job visits Home
  pub trigraphs : part.trigraphs ≡ world.trigraphs
  pub finds : (ask : Ask) → ((hit : Hit) → world.find ask ≡ Some hit → IsKnownSearch (answers_by world sheet) job visits hit.1) → part.find ask ≡ world.find ask
  pub bodies : (l : Located) → IsKnownSearch (answers_by world sheet) job visits l → part.body l.real ≡ world.body l.real

-- a job whose source was found: the files of its words, and then the source
abbrev pub job_step : JobData → World → ℕ → Hit → PrepStep
job_step job w depth hit =
    and_then (λ state. open_file w (enter_file w depth) [] hit state)
    (and_then (λ state. run_forced w (enter_file w depth) job.forced state) (limited (first_state job.macros hit)))

module _ (fact : ChoiceFactHolds) (outlines : OutlineHolds) (m g : World) (sheet : Visit → SheetData) (job : JobData) (visits : List Visit) (Home : Path → Type 0)
    (a : Agree m g sheet job visits Home) where
  abbrev pub all : AnalysisAnswers
  all = answers_by g sheet

  abbrev pub IsKnown : Located → Type 0
  IsKnown l = IsKnownSearch all job visits l

  abbrev pub Holds : Visit → State → Type 0
  Holds visit state = kept.Holds all job visits visit state

  abbrev pub Keeps : Visit → PrepStep → Type 0
  Keeps visit step = kept.Keeps all job visits visit step

  abbrev pub KeepsWith : {A : Type 0} → Visit → (A → Type 0) → Reached A → Type 0
  KeepsWith visit P r = kept.KeepsWith all job visits visit P r

  abbrev pub IsRead : Visit → List Piece → Type 0
  IsRead visit ps = asked_by.IsRead g sheet job visits Home visit ps

  abbrev pub MayEnter : Hit → Type 0
  MayEnter hit = asked_by.MayEnter g sheet job visits Home hit

  abbrev pub Enters : Visit → Bool → HeaderName → Type 0
  Enters visit next header = asked_by.Enters g sheet job visits Home visit next header

  abbrev pub KnowsAll : Visit → HeaderName → Type 0
  KnowsAll visit header = asked_by.KnowsAll g sheet job visits Home visit header

  -- both worlds make the same step, which keeps what holds
  abbrev pub Alike : Visit → PrepStep → PrepStep → Type 0
  Alike visit s t = (s ≡ t) × Keeps visit t

  -- both worlds reach the same value, of which this holds
  abbrev pub AlikeWith : {A : Type 0} → Visit → (A → Type 0) → Reached A → Reached A → Type 0
  AlikeWith visit P r s = (r ≡ s) × KeepsWith visit P s

  then_alike : (visit after : Visit) (s t : PrepStep) (next_m next_g : State → PrepStep) → Alike visit s t
      → ((state : State) → Holds visit state → Alike after (next_m state) (next_g state))
      → Alike after (and_then next_m s) (and_then next_g t)
  then_alike visit after s t next_m next_g alike next =
      subst (λ (step : PrepStep). Alike after (and_then next_m step) (and_then next_g t)) (sym alike.0) (go t alike.1)
    where
      go : (step : PrepStep) → Keeps visit step → Alike after (and_then next_m step) (and_then next_g step)
      go (Go state) keeps = next state keeps
      go (Stop diagnostic state) keeps = (refl, keeps)

  reach_alike : {A B : Type 0} (visit : Visit) (P : A → Type 0) (Q : B → Type 0) (r s : Reached A) (next_m next_g : A → State → Reached B) → AlikeWith visit P r s
      → ((x : A) (state : State) → Holds visit state → P x → AlikeWith visit Q (next_m x state) (next_g x state))
      → AlikeWith visit Q (reach next_m r) (reach next_g s)
  reach_alike {A} visit P Q r s next_m next_g alike next =
      subst (λ (x : Reached A). AlikeWith visit Q (reach next_m x) (reach next_g s)) (sym alike.0) (go s alike.1)
    where
      go : (x : Reached A) → KeepsWith visit P x → AlikeWith visit Q (reach next_m x) (reach next_g x)
      go (Gives x state) keeps = next x state keeps.0 keeps.1
      go (Ends diagnostic state) keeps = (refl, keeps)

  value_alike : {A : Type 0} (visit : Visit) (P : A → Type 0) (r s : Reached A) (next_m next_g : A → State → PrepStep) → AlikeWith visit P r s
      → ((x : A) (state : State) → Holds visit state → P x → Alike visit (next_m x state) (next_g x state))
      → Alike visit (with_value next_m r) (with_value next_g s)
  value_alike {A} visit P r s next_m next_g alike next =
      subst (λ (x : Reached A). Alike visit (with_value next_m x) (with_value next_g s)) (sym alike.0) (go s alike.1)
    where
      go : (x : Reached A) → KeepsWith visit P x → Alike visit (with_value next_m x) (with_value next_g x)
      go (Gives x state) keeps = next x state keeps.0 keeps.1
      go (Ends diagnostic state) keeps = (refl, keeps)

  -- CONDITIONS

  probed_keeps : (visit : Visit) (state : State) (answer : Option Hit) → Holds visit state → ((hit : Hit) → answer ≡ Some hit → IsKnown hit.1) → KeepsWith visit Any (probed answer state)
  probed_keeps visit state None h known = (h, tt)
  probed_keeps visit state (Some hit) h known = (kept.touch_holds all job visits visit hit.1 state h (known hit refl), tt)

  -- a search that fails over the whole world fails over the part, and one that succeeds succeeds there
  probe_named_alike : (visit : Visit) (at : ℕ) (o : Option HeaderName) (state : State) → Holds visit state → ((header : HeaderName) → o ≡ Some header → KnowsAll visit header)
      → AlikeWith visit Any (probe_named m at o state) (probe_named g at o state)
  probe_named_alike visit at None state h known = (refl, h.touched)
  probe_named_alike visit at (Some header) state h known =
      subst (λ (v : Visit). AlikeWith visit Any (probed (m.find (asked_for v false header)) state) (probed (g.find (asked_for v false header)) state)) (sym h.in_file) (
        ap (λ (answer : Option Hit). probed answer state) (a.finds (asked_for visit false header) (known header refl)),
        probed_keeps visit state (g.find (asked_for visit false header)) h (known header refl),
      )

  probe_alike : (visit : Visit) (ps : List Piece) (at : ℕ) (target : Target) (state : State) → IsRead visit ps → Holds visit state → IsProbed ps (asked_so false true target)
      → AlikeWith visit Any (probe m at target state) (probe g at target state)
  probe_alike visit ps at target state read h asked =
      reach_alike visit (λ o. (header : HeaderName) → o ≡ Some header → KnowsAll visit header) Any (header_reached at target state) (header_reached at target state)
      (λ header after. probe_named m at header after) (λ header after. probe_named g at header after)
      (refl, asked_by.probe_keeps g sheet job visits Home fact a.analysis visit ps at target state read h asked)
      (λ o after k known. probe_named_alike visit at o after k known)

  -- operands from left to right
  answered_alike : (visit : Visit) (ps : List Piece) (at : ℕ) (parts : List ConditionPart) (state : State) → IsRead visit ps → Holds visit state
      → ((target : Target) → Member target (targets_of parts) → IsProbed ps (asked_so false true target))
      → AlikeWith visit Any (answer_parts m at parts state) (answer_parts g at parts state)
  unfolding answer_parts targets_of
  answered_alike visit ps at [] state read h asked = (refl, (h, tt))
  answered_alike visit ps at (Written t ∷ parts) state read h asked =
      reach_alike visit Any Any (answer_parts m at parts state) (answer_parts g at parts state) (λ ts after. Gives (t ∷ ts) after) (λ ts after. Gives (t ∷ ts) after)
      (answered_alike visit ps at parts state read h asked) (λ ts after k any. (refl, (k, tt)))
  answered_alike visit ps at (Probe t target ∷ parts) state read h asked =
      reach_alike visit Any Any (probe m at target state) (probe g at target state)
      (λ holds after. reach (λ ts more. Gives (answer_token t holds ∷ ts) more) (answer_parts m at parts after))
      (λ holds after. reach (λ ts more. Gives (answer_token t holds ∷ ts) more) (answer_parts g at parts after))
      (probe_alike visit ps at target state read h (asked target (inl refl)))
      (λ holds after k any.
      reach_alike visit Any Any (answer_parts m at parts after) (answer_parts g at parts after)
      (λ ts more. Gives (answer_token t holds ∷ ts) more) (λ ts more. Gives (answer_token t holds ∷ ts) more)
      (answered_alike visit ps at parts after read k (λ other n. asked other (inr n))) (λ ts more l any. (refl, (l, tt))))

  parts_alike : (visit : Visit) (ps : List Piece) (at : ℕ) (parts : Option (List ConditionPart)) (state : State) → IsRead visit ps → Holds visit state
      → ((some : List ConditionPart) → parts ≡ Some some → (target : Target) → Member target (targets_of some) → IsProbed ps (asked_so false true target))
      → AlikeWith visit Any (parts_condition m at parts state) (parts_condition g at parts state)
  parts_alike visit ps at None state read h asked = (refl, h.touched)
  parts_alike visit ps at (Some parts) state read h asked =
      reach_alike visit Any Any (answer_parts m at parts state) (answer_parts g at parts state) (λ ts after. answered_condition at ts after) (λ ts after. answered_condition at ts after)
      (answered_alike visit ps at parts state read h (asked parts refl))
      (λ ts after k any. (refl, kept.answered_keeps all job visits visit at ts after k))

  -- whether the group behind a line is read
  directive_test_alike : (visit : Visit) (ps : List Piece) (at : ℕ) (what : Directive) (state : State) → IsRead visit ps → Holds visit state → Member (Line at what) ps
      → AlikeWith visit Any (directive_test m at what state) (directive_test g at what state)
  unfolding condition
  directive_test_alike visit ps at (named.If tokens) state read h there =
      parts_alike visit ps at (parts_of tokens) state read h
      (λ some is target n. probes_there ps (Line at (named.If tokens)) there (asked_so false true target) (operands_there tokens some target is n))
  directive_test_alike visit ps at (named.Elif tokens) state read h there =
      parts_alike visit ps at (parts_of tokens) state read h
      (λ some is target n. probes_there ps (Line at (named.Elif tokens)) there (asked_so false true target) (operands_there tokens some target is n))
  directive_test_alike visit ps at (named.Ifdef tokens) state read h there = (refl, kept.name_keeps all job visits visit at true tokens state h)
  directive_test_alike visit ps at (named.Ifndef tokens) state read h there = (refl, kept.name_keeps all job visits visit at false tokens state h)
  directive_test_alike visit ps at (named.Include target) state read h there = (refl, (h, tt))
  directive_test_alike visit ps at (named.Next target) state read h there = (refl, (h, tt))
  directive_test_alike visit ps at (named.Define tokens) state read h there = (refl, (h, tt))
  directive_test_alike visit ps at (named.Undef tokens) state read h there = (refl, (h, tt))
  directive_test_alike visit ps at named.Else state read h there = (refl, (h, tt))
  directive_test_alike visit ps at named.Endif state read h there = (refl, (h, tt))
  directive_test_alike visit ps at (named.Line tokens) state read h there = (refl, (h, tt))
  directive_test_alike visit ps at (named.Error tokens) state read h there = (refl, (h, tt))
  directive_test_alike visit ps at named.Warning state read h there = (refl, (h, tt))
  directive_test_alike visit ps at named.Once state read h there = (refl, (h, tt))
  directive_test_alike visit ps at (named.Pragma tokens) state read h there = (refl, (h, tt))
  directive_test_alike visit ps at named.Null state read h there = (refl, (h, tt))
  directive_test_alike visit ps at named.Unknown state read h there = (refl, (h, tt))

  piece_test_alike : (visit : Visit) (ps : List Piece) (piece : Piece) (state : State) → IsRead visit ps → Holds visit state → Member piece ps
      → AlikeWith visit Any (piece_test m piece state) (piece_test g piece state)
  piece_test_alike visit ps (Run tokens) state read h there = (refl, (h, tt))
  piece_test_alike visit ps (Line at what) state read h there = directive_test_alike visit ps at what state read h there

  -- A FILE

  -- entering a found file makes the same step
  abbrev pub EnterAlike : Entering → Entering → Type 0
  EnterAlike e d = (visit : Visit) (at : ℕ) (hit : Hit) (state : State) → Holds visit state → MayEnter hit → Alike visit (e at hit state) (d at hit state)

  module _ (e d : Entering) (enters : EnterAlike e d) where
    marked_alike : (visit : Visit) (b : Bool) (at : ℕ) (hit : Hit) (state : State) → Holds visit state → MayEnter hit
        → Alike visit (unless_marked m e b at hit state) (unless_marked g d b at hit state)
    marked_alike visit true at hit state h may = (refl, h)
    marked_alike visit false at hit state h may = enters visit at hit state h may

    found_alike : (visit : Visit) (at : ℕ) (angle : Bool) (name : Text) (state : State) (answer : Option Hit) → Holds visit state → ((hit : Hit) → answer ≡ Some hit → MayEnter hit)
        → Alike visit (found_file m e at angle name state answer) (found_file g d at angle name state answer)
    found_alike visit at angle name state None h may = (refl, h.touched)
    found_alike visit at angle name state (Some hit) h may =
        marked_alike visit (is_marked hit.1.real state) at hit (touch hit.1 state) (kept.touch_holds all job visits visit hit.1 state h (may hit refl).known) (may hit refl)

    -- a name whose search finds files that may be entered
    searched_alike : (visit : Visit) (at : ℕ) (angle : Bool) (name : Text) (state : State) (ask : Ask) → Holds visit state → ((hit : Hit) → g.find ask ≡ Some hit → MayEnter hit)
        → Alike visit (found_file m e at angle name state (m.find ask)) (found_file g d at angle name state (g.find ask))
    searched_alike visit at angle name state ask h may =
        subst (λ (answer : Option Hit). Alike visit (found_file m e at angle name state answer) (found_file g d at angle name state (g.find ask)))
        (sym (a.finds ask (λ hit is. (may hit is).known)))
        (found_alike visit at angle name state (g.find ask) h may)

    named_alike : (visit : Visit) (next : Bool) (at : ℕ) (o : Option HeaderName) (state : State) → Holds visit state → ((header : HeaderName) → o ≡ Some header → Enters visit next header)
        → Alike visit (include_named m e next at o state) (include_named g d next at o state)
    named_alike visit next at None state h may = (refl, h.touched)
    named_alike visit next at (Some header) state h may =
        subst (λ (v : Visit). Alike visit (found_file m e at header.angle header.name state (m.find (asked_for v next header)))
        (found_file g d at header.angle header.name state (g.find (asked_for v next header))))
        (sym h.in_file) (searched_alike visit at header.angle header.name state (asked_for visit next header) h (may header refl))

    include_alike : (visit : Visit) (ps : List Piece) (next : Bool) (at : ℕ) (target : Target) (state : State) → IsRead visit ps → Holds visit state → IsIncluded ps (asked_so next false target)
        → Alike visit (include m e next at target state) (include g d next at target state)
    include_alike visit ps next at target state read h asked =
        value_alike visit (λ o. (header : HeaderName) → o ≡ Some header → Enters visit next header) (header_reached at target state) (header_reached at target state)
        (λ header after. include_named m e next at header after) (λ header after. include_named g d next at header after)
        (refl, asked_by.include_keeps g sheet job visits Home fact a.analysis visit ps next at target state read h asked)
        (λ o after k may. named_alike visit next at o after k may)

    directive_alike : (visit : Visit) (ps : List Piece) (at : ℕ) (what : Directive) (state : State) → IsRead visit ps → Holds visit state → Member (Line at what) ps
        → Alike visit (directive_step m e at what state) (directive_step g d at what state)
    directive_alike visit ps at (named.Include target) state read h there =
        include_alike visit ps false at target state read h (includes_there ps (Line at (named.Include target)) there (asked_so false false target) (inl refl))
    directive_alike visit ps at (named.Next target) state read h there =
        include_alike visit ps true at target state read h (includes_there ps (Line at (named.Next target)) there (asked_so true false target) (inl refl))
    directive_alike visit ps at (named.Define tokens) state read h there =
        (refl, kept.define_keeps all job visits visit at (defined_by tokens) state h (asked_by.defined_there g sheet job visits Home visit ps at tokens read there))
    directive_alike visit ps at (named.Undef tokens) state read h there = (refl, kept.undef_keeps all job visits visit at tokens state h)
    directive_alike visit ps at (named.If tokens) state read h there = (refl, h)
    directive_alike visit ps at (named.Ifdef tokens) state read h there = (refl, h)
    directive_alike visit ps at (named.Ifndef tokens) state read h there = (refl, h)
    directive_alike visit ps at (named.Elif tokens) state read h there = (refl, h)
    directive_alike visit ps at named.Else state read h there = (refl, h)
    directive_alike visit ps at named.Endif state read h there = (refl, h)
    directive_alike visit ps at (named.Line tokens) state read h there =
        (refl, kept.line_step_keeps all job visits visit at tokens state (asked_by.has_line g sheet job visits Home visit ps at tokens read there) h)
    directive_alike visit ps at (named.Error tokens) state read h there = (refl, h.touched)
    directive_alike visit ps at named.Warning state read h there = (refl, h)
    directive_alike visit ps at named.Once state read h there = (refl, record { in_file = h.in_file; table = h.table; touched = h.touched; presumed = h.presumed })
    directive_alike visit ps at (named.Pragma tokens) state read h there = (refl, kept.say_keeps all job visits visit (pragma at tokens ∷ []) state h)
    directive_alike visit ps at named.Null state read h there = (refl, h)
    directive_alike visit ps at named.Unknown state read h there = (refl, h.touched)

    piece_alike : (visit : Visit) (ps : List Piece) (piece : Piece) (state : State) → IsRead visit ps → Holds visit state → Member piece ps
        → Alike visit (piece_step m e piece state) (piece_step g d piece state)
    piece_alike visit ps (Run tokens) state read h there = (refl, kept.text_keeps all job visits visit tokens state h)
    piece_alike visit ps (Line at what) state read h there = directive_alike visit ps at what state read h there

    -- a group, or what stands behind it
    either_alike : (visit : Visit) (group_m group_g behind_m behind_g : State → PrepStep)
        → ((state : State) → Holds visit state → Alike visit (group_m state) (group_g state))
        → ((state : State) → Holds visit state → Alike visit (behind_m state) (behind_g state))
        → (b : Bool) (state : State) → Holds visit state → Alike visit (group_or m e group_m behind_m b state) (group_or g d group_g behind_g b state)
    either_alike visit group_m group_g behind_m behind_g group behind true state h = group state h
    either_alike visit group_m group_g behind_m behind_g group behind false state h = behind state h

    mutual
      unfolding run_group run_branches group_pieces branches_pieces

      group_alike : (group : Group) (visit : Visit) (ps : List Piece) (state : State) → IsRead visit ps → Holds visit state → Within (group_pieces group) ps
          → Alike visit (run_group m e group state) (run_group g d group state)
      group_alike nothing visit ps state read h within = (refl, h)
      group_alike (one piece group) visit ps state read h within =
          then_alike visit visit (piece_step m e piece state) (piece_step g d piece state) (λ after. run_group m e group after) (λ after. run_group g d group after)
          (piece_alike visit ps piece state read h (within piece (inl refl)))
          (λ after k. group_alike group visit ps after read k (λ p n. within p (inr n)))
      group_alike (conditional opening group branches behind) visit ps state read h within =
          then_alike visit visit
          (with_value (λ holds after. group_or m e (λ more. run_group m e group more) (λ more. run_branches m e branches more) holds after) (piece_test m opening state))
          (with_value (λ holds after. group_or g d (λ more. run_group g d group more) (λ more. run_branches g d branches more) holds after) (piece_test g opening state))
          (λ after. run_group m e behind after) (λ after. run_group g d behind after)
          (value_alike visit Any (piece_test m opening state) (piece_test g opening state) _ _
          (piece_test_alike visit ps opening state read h (within opening (inl refl)))
          (λ holds after k any. either_alike visit _ _ _ _
          (λ more l. group_alike group visit ps more read l (λ p n. within p (inr (Member-append_left p (group_pieces group) _ n))))
          (λ more l. branches_alike branches visit ps more read l (λ p n. within p (inr (Member-append_right p (group_pieces group) _ (Member-append_left p (branches_pieces branches) _ n)))))
          holds after k))
          (λ after k. group_alike behind visit ps after read k (λ p n. within p (inr (Member-append_right p (group_pieces group) _ (Member-append_right p (branches_pieces branches) _ n)))))

      branches_alike : (branches : Branches) (visit : Visit) (ps : List Piece) (state : State) → IsRead visit ps → Holds visit state → Within (branches_pieces branches) ps
          → Alike visit (run_branches m e branches state) (run_branches g d branches state)
      branches_alike (ended last) visit ps state read h within = (refl, h)
      branches_alike (branch line group branches) visit ps state read h within =
          value_alike visit Any (piece_test m line state) (piece_test g line state) _ _
          (piece_test_alike visit ps line state read h (within line (inl refl)))
          (λ holds after k any. either_alike visit _ _ _ _
          (λ more l. group_alike group visit ps more read l (λ p n. within p (inr (Member-append_left p (group_pieces group) _ n))))
          (λ more l. branches_alike branches visit ps more read l (λ p n. within p (inr (Member-append_right p (group_pieces group) _ n))))
          holds after k)

    malformed_alike : (visit : Visit) (what : Option Malformed) (state : State) → Holds visit state → Alike visit (malformed_step m e what state) (malformed_step g d what state)
    malformed_alike visit None state h = (refl, h)
    malformed_alike visit (Some (malformed.WithoutIf name at)) state h = (refl, h.touched)
    malformed_alike visit (Some (malformed.AfterElse name at)) state h = (refl, h.touched)
    malformed_alike visit (Some (malformed.Unended at)) state h = (refl, h.touched)

    outline_alike : (visit : Visit) (ps : List Piece) (o : Outline) → HasOutline role_of ps o → (events : List Event) (state : State) → IsRead visit ps → Holds visit state
        → Alike visit (run_outline m e events o state) (run_outline g d events o state)
    outline_alike visit ps (whole group) has events state read h =
        then_alike visit visit (say events state) (say events state) (λ after. run_group m e group after) (λ after. run_group g d group after)
        (refl, kept.say_keeps all job visits visit events state h)
        (λ after k. group_alike group visit ps after read k (λ p n. subst (λ (qs : List Piece). Member p qs) has.1 n))
    outline_alike visit ps (stray piece) has events state read h = malformed_alike visit (malformed_by (stray piece)) state h
    outline_alike visit ps (after_else piece) has events state read h = malformed_alike visit (malformed_by (after_else piece)) state h
    outline_alike visit ps (unended piece) has events state read h = malformed_alike visit (malformed_by (unended piece)) state h

    file_alike : (visit : Visit) (events : List Event) (file : LexedFile) (line : Option ℕ) (state : State) → IsRead visit (pieces file.lines) → Holds visit state
        → Alike visit (run_file m e events file line state) (run_file g d events file line state)
    file_alike visit events file None state read h = outline_alike visit (pieces file.lines) (outline role_of (pieces file.lines)) (outlines role_of (pieces file.lines)) events state read h
    file_alike visit events file (Some line) state read h = (refl, h.touched)

    -- the state in a file that is opened
    abbrev inside_of : Hit → State → State
    inside_of hit state = record state { here = here_at hit; opened = state.opened ++ hit.0.place ∷ [] }

    -- a file of these bytes that is opened
    abbrev opened_as : World → Entering → List Event → Hit → State → Bool → Text → PrepStep
    opened_as w f events hit state trigraphs body =
        let file = lexed trigraphs body in
        cond (nat_le (length body) body_limit)
        (paid w f (opening_cost w f file) (run_file w f events file file.unended) (inside_of hit state))
        (complain 0 TooLarge (inside_of hit state))

    inside_holds : (visit : Visit) (hit : Hit) (state : State) → Holds visit state → Holds hit.0 (inside_of hit state)
    inside_holds visit hit state h = record { in_file = refl; table = h.table; touched = h.touched; presumed = λ none. refl }

    opened_alike : (visit : Visit) (events : List Event) (hit : Hit) (state : State) (trigraphs : Bool) (body : Text) → Holds visit state → Member hit.0 visits → Home hit.0.place
        → (nat_le (length body) body_limit ≡ true → sheet hit.0 ≡ sheet_from g.find hit.0 (pieces (lexed trigraphs body).lines))
        → Alike hit.0 (opened_as m e events hit state trigraphs body) (opened_as g d events hit state trigraphs body)
    opened_alike visit events hit state trigraphs body h within home has = go (nat_le (length body) body_limit) refl
      where
        file : LexedFile
        file = lexed trigraphs body

        paid_alike : (b : Bool) → IsRead hit.0 (pieces file.lines)
            → Alike hit.0
            (cond b (run_file m e events file file.unended (record (inside_of hit state) { left = state.left - opening_cost m e file })) (complain_of_job WorkLimit (inside_of hit state)))
            (cond b (run_file g d events file file.unended (record (inside_of hit state) { left = state.left - opening_cost g d file })) (complain_of_job WorkLimit (inside_of hit state)))
        paid_alike true read =
            file_alike hit.0 events file file.unended (record (inside_of hit state) { left = state.left - opening_cost g d file }) read
            (kept.left_holds all job visits hit.0 (inside_of hit state) (state.left - opening_cost g d file) (inside_holds visit hit state h))
        paid_alike false read = (refl, h.touched)

        go : (b : Bool) → nat_le (length body) body_limit ≡ b
            → Alike hit.0
            (cond b (paid m e (opening_cost m e file) (run_file m e events file file.unended) (inside_of hit state)) (complain 0 TooLarge (inside_of hit state)))
            (cond b (paid g d (opening_cost g d file) (run_file g d events file file.unended) (inside_of hit state)) (complain 0 TooLarge (inside_of hit state)))
        go true small = paid_alike (nat_le (opening_cost g d file) state.left) (record { inside = within; home = home; is_sheet = has small })
        go false large = (refl, h.touched)

    open_file_alike : (visit : Visit) (events : List Event) (hit : Hit) (state : State) → Holds visit state → MayEnter hit
        → Alike hit.0 (open_file m e events hit state) (open_file g d events hit state)
    unfolding open_file
    open_file_alike visit events hit state h may =
        subst (λ (t : Bool). Alike hit.0 (opened_as m e events hit state t (m.body hit.1.real)) (opened_as g d events hit state g.trigraphs (g.body hit.1.real))) (sym a.trigraphs)
        (subst (λ (b : Text). Alike hit.0 (opened_as m e events hit state g.trigraphs b) (opened_as g d events hit state g.trigraphs (g.body hit.1.real))) (sym (a.bodies hit.1 may.known))
        (opened_alike visit events hit state g.trigraphs (g.body hit.1.real) h may.within may.at_home may.has_sheet))

    -- the files of the words
    forced_alike : (visit : Visit) (names : List Text) → Within names job.forced → (state : State) → Holds visit state
        → Alike visit (run_forced m e names state) (run_forced g d names state)
    unfolding run_forced
    forced_alike visit [] within state h = (refl, h)
    forced_alike visit (name ∷ names) within state h =
        then_alike visit visit (found_file m e 0 false name state (m.find (forced_ask name))) (found_file g d 0 false name state (g.find (forced_ask name)))
        (λ after. run_forced m e names after) (λ after. run_forced g d names after)
        (searched_alike visit 0 false name state (forced_ask name) h
        (λ hit is. asked_by.first_enters g sheet job visits Home fact a.analysis (forced_ask name) hit (inr (Member-map forced_ask name job.forced (within name (inl refl)))) is))
        (λ after k. forced_alike visit names (λ other n. within other (inr n)) after k)

  enter_file_alike : (depth : ℕ) → EnterAlike (enter_file m depth) (enter_file g depth)
  unfolding enter_file
  enter_file_alike zero visit at hit state h may = (refl, h.touched)
  enter_file_alike (suc depth) visit at hit state h may =
      then_alike hit.0 visit
      (open_file m (enter_file m depth) (enter (presumed_name hit.0.place) ∷ []) hit state) (open_file g (enter_file g depth) (enter (presumed_name hit.0.place) ∷ []) hit state)
      (λ after. back_in state.here at after) (λ after. back_in state.here at after)
      (open_file_alike (enter_file m depth) (enter_file g depth) (enter_file_alike depth) visit (enter (presumed_name hit.0.place) ∷ []) hit state h may)
      (λ after k. (
        refl,
        kept.say_keeps all job visits visit (back state.here.name (presumed_line state.here (at + 1)) at ∷ []) (record after { here = state.here })
            (record { in_file = h.in_file; table = k.table; touched = k.touched; presumed = h.presumed }),
      ))

  -- A JOB

  -- all that the source's search finds may be entered
  pub source_enters : (hit : Hit) → g.find (source_ask job.source) ≡ Some hit → MayEnter hit
  source_enters hit is = asked_by.first_enters g sheet job visits Home fact a.analysis (source_ask job.source) hit (inl refl) is

  first_holds : (hit : Hit) → MayEnter hit → Holds hit.0 (first_state job.macros hit)
  first_holds hit may = record {
    in_file = refl;
    table = λ name x is. Member-append_left (record { name = name; definition = x }) (first_definitions job) _ (first_among job name x is);
    touched = λ l n. elim n [ inl same ↦ subst (λ (x : Located). IsKnown x) same may.known | inr never ↦ absurd never ];
    presumed = λ none. refl;
  }

  pub job_alike : (depth : ℕ) (hit : Hit) → g.find (source_ask job.source) ≡ Some hit → Alike hit.0 (job_step job m depth hit) (job_step job g depth hit)
  job_alike depth hit is =
      let may : MayEnter hit = source_enters hit is in
      then_alike hit.0 hit.0
      (and_then (λ state. run_forced m (enter_file m depth) job.forced state) (limited (first_state job.macros hit)))
      (and_then (λ state. run_forced g (enter_file g depth) job.forced state) (limited (first_state job.macros hit)))
      (λ state. open_file m (enter_file m depth) [] hit state) (λ state. open_file g (enter_file g depth) [] hit state)
      (then_alike hit.0 hit.0 (limited (first_state job.macros hit)) (limited (first_state job.macros hit))
      (λ state. run_forced m (enter_file m depth) job.forced state) (λ state. run_forced g (enter_file g depth) job.forced state)
      (refl, kept.limited_keeps all job visits hit.0 (first_state job.macros hit) (first_holds hit may))
      (λ state h. forced_alike (enter_file m depth) (enter_file g depth) (enter_file_alike depth) hit.0 job.forced (λ name n. n) state h))
      (λ state h. open_file_alike (enter_file m depth) (enter_file g depth) (enter_file_alike depth) hit.0 [] hit state h may)
