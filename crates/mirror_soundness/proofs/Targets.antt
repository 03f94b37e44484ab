-- Each file that a file which is read asks for, by an include or by an operand of `__has_include`, is one that the analysis knows of.
use Rattle.std.proofs.Common.{◌≡◌, ℕ, ◌++◌, List, length, Option, Some, Bool, true, false, refl, sym, ap, subst, ◌∙◌, Result, Ok, Err}
use Rattle.std.specs.Prelude.{nat_le}
use Rattle.std.specs.List.{flat_map, filter_map}
use Rattle.std.specs.Option.{option_map}
use Rattle.base_types.specs.Members.{Member}
use Rattle.pp_tokens.specs.declared.Token.{Token}
use Rattle.pp_tokens.specs.Lines.{lexed}
use Rattle.directive_scan.specs.declared.HeaderName.{HeaderName}
use Rattle.directive_scan.specs.declared.Target.{Target}
use Rattle.directive_scan.specs.declared.Target.TheVariants.{Plain, Computed}
use Rattle.directive_scan.specs.declared.Directive.TheVariants as named
use Rattle.directive_scan.specs.declared.Piece.{Piece}
use Rattle.directive_scan.specs.declared.Piece.TheVariants.{Line}
use Rattle.directive_scan.specs.declared.ConditionPart.{ConditionPart}
use Rattle.directive_scan.specs.Directives.{pieces}
use Rattle.directive_scan.specs.HeaderNames.{header_named}
use Rattle.directive_scan.specs.Operands.{parts_of, targets_of, operands_of}
use Rattle.macro_defs.specs.Defining.{Named, defined_by}
use Rattle.macro_expand.specs.declared.Mode.TheVariants as mode
use Rattle.macro_expand.specs.Asking.{Failure}
use Rattle.macro_expand.specs.Expansion.{Expanded}
use Rattle.macro_expand.specs.Laws.{ChoiceFactHolds}
use Rattle.tree_model.specs.Paths.{Path}
use Rattle.base_types.specs.Limits.{body_limit}
use Rattle.tree_model.proofs.MemberLemmas.{Member-append_left, Member-append_right, Member-map, Member-flat_map, Member-filter_map, list_any-true}
use Rattle.search_path.specs.Asks.{form_of}
use Rattle.search_path.specs.Search.{Hit}
use Rattle.search_path.specs.declared.asking.Visit.{Visit}
use Rattle.search_path.specs.declared.asking.Form.{Form}
use Rattle.search_path.specs.declared.asking.Ask.{Ask}
use Rattle.job_words.specs.JobOf.{JobData}
use Rattle.daemon_cpp.specs.Prep.{World, place_here, State, Gives, reach, tokens_of, expanded_in, line_expanded, header_reached}
use Rattle.sheet_build.specs.Sheet.{AskedTarget, asked_so, probes_for, includes_in, probes_in, accepted, definition_in, is_line, ComputedAsk, SheetData, quote_form, computed_of, asked_for, plain_hit, sheet_from}
use Rattle.closure_fixpoint.specs.Closure.{AnalysisAnswers, first_definitions, with_angle, known_name, MayFind, ByName, ByTokens, first_asks, first_hits, IsClosedFor, IsKnownSearch, AtFirst, Included, Probed, ByMacros, HasLong, HasPresumed}
use Rattle.mirror_soundness.proofs.ComputedLaws.{may_be_named}
use Rattle.mirror_soundness.proofs.Kept.{Holds, KeepsWith, left_holds, knows}

-- what a world finds, with sheets
abbrev pub answers_by : World → (Visit → SheetData) → AnalysisAnswers
answers_by world sheet = record { find = world.find; sheet = sheet }

-- the sheet of a found file's visit is that of the file's pieces, where the file isn't too large
abbrev pub HasSheet : World → (Visit → SheetData) → Hit → Type 0
HasSheet world sheet hit =
    nat_le (length (world.body hit.1.real)) body_limit ≡ true
    → sheet hit.0 ≡ sheet_from world.find hit.0 (pieces (lexed world.trigraphs (world.body hit.1.real)).lines)

-- An analysis of a world: the visits are closed, and none of their computed targets is refused. Places of files that searches
-- lead to are at home, and their sheets are those of their pieces.
pub record Analyses (world : World) (sheet : Visit → SheetData) (job : JobData) (visits : List Visit) (Home : Path → Type 0) : Type 0 where
  pub closed : IsClosedFor (answers_by world sheet) job visits
  pub short : HasLong (answers_by world sheet) job visits → ⊥
  pub told : HasPresumed (answers_by world sheet) job visits → ⊥
  pub first_home : (ask : Ask) (hit : Hit) → Member ask (first_asks job) → world.find ask ≡ Some hit → Home hit.0.place × HasSheet world sheet hit
  pub next_home : (visit : Visit) (next : Bool) (header : HeaderName) (hit : Hit) → Home visit.place → world.find (asked_for visit next header) ≡ Some hit
      → Home hit.0.place × HasSheet world sheet hit

form_same : (next angle : Bool) → with_angle (quote_form next) angle ≡ form_of next angle
form_same false false = refl
form_same false true = refl
form_same true false = refl
form_same true true = refl

-- the operands of a line are those of its parts
pub operands_there : (tokens : List Token) (parts : List ConditionPart) (target : Target) → parts_of tokens ≡ Some parts → Member target (targets_of parts)
    → Member (asked_so false true target) (probes_for (operands_of tokens))
operands_there tokens parts target is n =
    subst (λ (o : Option (List Target)). Member (asked_so false true target) (probes_for o)) (sym (ap (λ (o : Option (List ConditionPart)). option_map targets_of o) is))
    (Member-map (asked_so false true) target (targets_of parts) n)

-- the targets of a file's includes, those of its operands, and all that it asks for
abbrev pub IsAskedFor : List Piece → AskedTarget → Type 0
IsAskedFor ps x = Member x (flat_map (λ p. includes_in p ++ probes_in p) ps)

abbrev pub IsIncluded : List Piece → AskedTarget → Type 0
IsIncluded ps x = Member x (flat_map includes_in ps) × IsAskedFor ps x

abbrev pub IsProbed : List Piece → AskedTarget → Type 0
IsProbed ps x = Member x (flat_map probes_in ps) × IsAskedFor ps x

-- what a piece asks for stands in the file's pieces
pub probes_there : (ps : List Piece) (p : Piece) → Member p ps → (x : AskedTarget) → Member x (probes_in p) → IsProbed ps x
probes_there ps p there x n =
    (Member-flat_map probes_in p x ps there n, Member-flat_map (λ q. includes_in q ++ probes_in q) p x ps there (Member-append_right x (includes_in p) (probes_in p) n))

pub includes_there : (ps : List Piece) (p : Piece) → Member p ps → (x : AskedTarget) → Member x (includes_in p) → IsIncluded ps x
includes_there ps p there x n =
    (Member-flat_map includes_in p x ps there n, Member-flat_map (λ q. includes_in q ++ probes_in q) p x ps there (Member-append_left x (includes_in p) (probes_in p) n))

module _ (world : World) (sheet : Visit → SheetData) (job : JobData) (visits : List Visit) (Home : Path → Type 0) where
  abbrev all : AnalysisAnswers
  all = answers_by world sheet

  -- a visit that is read: one of the list, with the pieces of its sheet
  pub record IsRead (visit : Visit) (ps : List Piece) : Type 0 where
    pub inside : Member visit visits
    pub home : Home visit.place
    pub is_sheet : sheet visit ≡ sheet_from world.find visit ps

  -- a found file that may be entered
  pub record MayEnter (hit : Hit) : Type 0 where
    pub known : IsKnownSearch all job visits hit.1
    pub within : Member hit.0 visits
    pub at_home : Home hit.0.place
    pub has_sheet : HasSheet world sheet hit

  -- all that a name's search finds in a visited file may be entered
  abbrev pub Enters : Visit → Bool → HeaderName → Type 0
  Enters visit next header = (hit : Hit) → world.find (asked_for visit next header) ≡ Some hit → MayEnter hit

  -- it is known
  abbrev pub KnowsAll : Visit → HeaderName → Type 0
  KnowsAll visit header = (hit : Hit) → world.find (asked_for visit false header) ≡ Some hit → IsKnownSearch all job visits hit.1

  -- a definition of the file is among all
  pub defined_there : (visit : Visit) (ps : List Piece) (at : ℕ) (tokens : List Token) → IsRead visit ps → Member (Line at (named.Define tokens)) ps
      → (x : Named) → defined_by tokens ≡ Ok x → Member x (first_definitions job ++ flat_map (λ v. (sheet v).defs) visits)
  defined_there visit ps at tokens read there x is =
      Member-append_right x (first_definitions job) (flat_map (λ v. (sheet v).defs) visits)
      (Member-flat_map (λ v. (sheet v).defs) visit x visits read.inside
      (subst (λ (s : SheetData). Member x s.defs) (sym read.is_sheet)
      (Member-filter_map definition_in (Line at (named.Define tokens)) x ps there (ap accepted is))))

  -- a file with a `#line` says so
  pub has_line : (visit : Visit) (ps : List Piece) (at : ℕ) (tokens : List Token) → IsRead visit ps → Member (Line at (named.Line tokens)) ps → (sheet visit).has_line ≡ true
  has_line visit ps at tokens read there = ap (λ (s : SheetData). s.has_line) read.is_sheet ∙ list_any-true is_line (Line at (named.Line tokens)) ps there refl

  -- of a name that a target gives holds what holds of a plain one's, and of those that a computed one's tokens are expanded to
  header_keeps : (visit : Visit) (at : ℕ) (target : Target) (state : State) (F : HeaderName → Type 0) → Holds all job visits visit state
      → ((header : HeaderName) → target ≡ Plain header → F header)
      → ((tokens : List Token) (e : Expanded) (header : HeaderName) → target ≡ Computed tokens → expanded_in mode.Text tokens state ≡ Ok e → header_named (tokens_of e) ≡ Some header → F header)
      → KeepsWith all job visits visit (λ o. (header : HeaderName) → o ≡ Some header → F header) (header_reached at target state)
  header_keeps visit at (Plain header) state F h plain computed = (h, λ other e. let same : header ≡ other = cc in subst F same (plain header refl))
  header_keeps visit at (Computed tokens) state F h plain computed = go (expanded_in mode.Text tokens state) refl
    where
      go : (r : Result Expanded Failure) → expanded_in mode.Text tokens state ≡ r
          → KeepsWith all job visits visit (λ o. (header : HeaderName) → o ≡ Some header → F header) (reach (λ ts after. Gives (header_named ts) after) (line_expanded at r state))
      go (Ok e) is = (left_holds all job visits visit state e.units h, λ header names. computed tokens e header refl is names)
      go (Err f) is = h.touched

  computed_stands : (visit : Visit) (ps : List Piece) (next probes : Bool) (tokens : List Token) → IsRead visit ps → IsAskedFor ps (asked_so next probes (Computed tokens))
      → Member (record { form = quote_form next; probe = probes; tokens = tokens }) (sheet visit).computed
  computed_stands visit ps next probes tokens read asked =
      subst (λ (s : SheetData). Member (record { form = quote_form next; probe = probes; tokens = tokens }) s.computed) (sym read.is_sheet)
      (Member-filter_map computed_of (asked_so next probes (Computed tokens)) (record { form = quote_form next; probe = probes; tokens = tokens }) _ asked refl)

  module _ (fact : ChoiceFactHolds) (a : Analyses world sheet job visits Home) where
    -- a file that a computed target finds is one that it may find
    may_find : (visit : Visit) (ps : List Piece) (state : State) (c : ComputedAsk) (next : Bool) (e : Expanded) (header : HeaderName) (hit : Hit)
        → IsRead visit ps → Holds all job visits visit state → c.form ≡ quote_form next
        → Member c (sheet visit).computed → expanded_in mode.Text c.tokens state ≡ Ok e → header_named (tokens_of e) ≡ Some header
        → world.find (asked_for visit next header) ≡ Some hit → MayFind all job visits visit c hit
    may_find visit ps state c next e header hit read h form stands is names found = record {
      stands = stands;
      header = header;
      may = may_be_named fact (first_definitions job ++ flat_map (λ v. (sheet v).defs) visits) state.macros (place_here state.here) (known_name (sheet visit) visit) state.left c.tokens e header
          h.table (knows all job visits visit state h)
          (λ long. a.short (record { visit = visit; c = c; asked = record { visited = read.inside; stands = stands }; holds = long }))
          (λ presumed. a.told (record { visit = visit; c = c; asked = record { visited = read.inside; stands = stands }; holds = presumed }))
          is names;
      found = ap (λ (f : Form). world.find (record { form = f; from = Some visit; name = header.name })) (ap (λ (f : Form). with_angle f header.angle) form ∙ form_same next header.angle) ∙ found;
    }

    -- a plain target of an include may be entered
    plain_enters : (visit : Visit) (ps : List Piece) (next : Bool) (header : HeaderName) → IsRead visit ps → IsIncluded ps (asked_so next false (Plain header)) → Enters visit next header
    plain_enters visit ps next header read asked hit is =
        let there : Member hit (sheet visit).plain =
        subst (λ (s : SheetData). Member hit s.plain) (sym read.is_sheet)
        (Member-filter_map (plain_hit world.find visit) (asked_so next false (Plain header)) hit (flat_map includes_in ps) asked.0 is) in
        let homes = a.next_home visit next header hit read.home is in
        record {
          known = Included visit hit read.inside there;
          within = a.closed.next visit hit.0 read.inside (ByName hit there refl);
          at_home = homes.0;
          has_sheet = homes.1;
        }

    -- and so may each file that a computed one finds
    computed_enters : (visit : Visit) (ps : List Piece) (next : Bool) (tokens : List Token) (state : State) (e : Expanded) (header : HeaderName) → IsRead visit ps → Holds all job visits visit state
        → IsIncluded ps (asked_so next false (Computed tokens)) → expanded_in mode.Text tokens state ≡ Ok e → header_named (tokens_of e) ≡ Some header → Enters visit next header
    computed_enters visit ps next tokens state e header read h asked is names hit found =
        let c : ComputedAsk = record { form = quote_form next; probe = false; tokens = tokens } in
        let finds : MayFind all job visits visit c hit = may_find visit ps state c next e header hit read h refl (computed_stands visit ps next false tokens read asked.1) is names found in
        let homes = a.next_home visit next header hit read.home found in
        record {
          known = ByMacros visit c hit read.inside finds;
          within = a.closed.next visit hit.0 read.inside (ByTokens c hit finds refl refl);
          at_home = homes.0;
          has_sheet = homes.1;
        }

    -- what an include's target gives may be entered
    pub include_keeps : (visit : Visit) (ps : List Piece) (next : Bool) (at : ℕ) (target : Target) (state : State) → IsRead visit ps → Holds all job visits visit state
        → IsIncluded ps (asked_so next false target)
        → KeepsWith all job visits visit (λ o. (header : HeaderName) → o ≡ Some header → Enters visit next header) (header_reached at target state)
    include_keeps visit ps next at target state read h asked =
        header_keeps visit at target state (Enters visit next) h
        (λ header is. plain_enters visit ps next header read (subst (λ (t : Target). IsIncluded ps (asked_so next false t)) is asked))
        (λ tokens e header is expands names. computed_enters visit ps next tokens state e header read h (subst (λ (t : Target). IsIncluded ps (asked_so next false t)) is asked) expands names)

    -- what an operand's target gives is searched by a search that is known
    pub probe_keeps : (visit : Visit) (ps : List Piece) (at : ℕ) (target : Target) (state : State) → IsRead visit ps → Holds all job visits visit state → IsProbed ps (asked_so false true target)
        → KeepsWith all job visits visit (λ o. (header : HeaderName) → o ≡ Some header → KnowsAll visit header) (header_reached at target state)
    probe_keeps visit ps at target state read h asked =
        header_keeps visit at target state (KnowsAll visit) h
        (λ header is. plain header (subst (λ (t : Target). IsProbed ps (asked_so false true t)) is asked))
        (λ tokens e header is expands names. computed tokens e header (subst (λ (t : Target). IsProbed ps (asked_so false true t)) is asked) expands names)
      where
        plain : (header : HeaderName) → IsProbed ps (asked_so false true (Plain header)) → KnowsAll visit header
        plain header asked hit is =
            Probed visit hit.1 read.inside
            (subst (λ (s : SheetData). Member hit.1 s.probes) (sym read.is_sheet)
            (Member-map (λ x. x.1) hit (filter_map (plain_hit world.find visit) (flat_map probes_in ps))
            (Member-filter_map (plain_hit world.find visit) (asked_so false true (Plain header)) hit (flat_map probes_in ps) asked.0 is)))

        computed : (tokens : List Token) (e : Expanded) (header : HeaderName) → IsProbed ps (asked_so false true (Computed tokens)) → expanded_in mode.Text tokens state ≡ Ok e
            → header_named (tokens_of e) ≡ Some header → KnowsAll visit header
        computed tokens e header asked expands names hit found =
            let c : ComputedAsk = record { form = quote_form false; probe = true; tokens = tokens } in
            ByMacros visit c hit read.inside (may_find visit ps state c false e header hit read h refl (computed_stands visit ps false true tokens read asked.1) expands names found)

    -- the source, and the files of the words
    pub first_enters : (ask : Ask) (hit : Hit) → Member ask (first_asks job) → world.find ask ≡ Some hit → MayEnter hit
    first_enters ask hit there is =
        let homes = a.first_home ask hit there is in
        let m_hit : Member hit (first_hits all job) = Member-filter_map world.find ask hit (first_asks job) there is in
        record {
          known = AtFirst hit m_hit;
          within = a.closed.begins hit.0 (Member-map (λ x. x.0) hit (first_hits all job) m_hit);
          at_home = homes.0;
          has_sheet = homes.1;
        }
