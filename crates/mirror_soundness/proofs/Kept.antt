-- What preprocessing keeps of its state: the file that is read, that each macro in force is among the definitions of a closed
-- list of visits, and that each search that succeeded is one that the analysis knows of.
use Rattle.std.proofs.Common.{◌≡◌, ℕ, ◌+◌, ◌∷◌, [], List, length, Option, Some, None, Bool, true, false, not, inl, inr, refl, sym, subst, map, cond, Result, Ok, Err}
use Rattle.std.specs.Prelude.{nat_le, codes, if◌then◌else◌}
use Rattle.std.specs.List.{list_any}
use Rattle.base_types.specs.Members.{Member}
use Rattle.pp_tokens.specs.declared.Token.{Token}
use Rattle.pp_tokens.specs.Marks.{is_identifier, is_word}
use Rattle.macro_defs.specs.declared.DefineError.{DefineError}
use Rattle.macro_defs.specs.Defining.{Named, names_macro}
use Rattle.macro_expand.specs.declared.Mode.{Mode}
use Rattle.macro_expand.specs.declared.Mode.TheVariants as mode
use Rattle.macro_expand.specs.Asking.{Failure}
use Rattle.macro_expand.specs.Expansion.{Expanded}
use Rattle.macro_expand.specs.Laws.{Knows}
use Rattle.cond_eval.specs.declared.Num.{Num}
use Rattle.cond_eval.specs.declared.CondError.{CondError}
use Rattle.cond_eval.specs.Value.{expression_value}
use Rattle.base_types.specs.Limits.{text_limit}
use Rattle.cpp_output.specs.Layout.{Event, mark, put}
use Rattle.cpp_output.specs.Laid.{after_events}
use Rattle.tree_model.specs.Paths.{Text}
use Rattle.tree_model.specs.Shown.{presumed_name}
use Rattle.tree_model.specs.declared.walk.Located.{Located}
use Rattle.tree_model.proofs.MemberLemmas.{Member-append}
use Rattle.search_path.specs.declared.asking.Visit.{Visit}
use Rattle.job_words.specs.JobOf.{JobData}
use Rattle.daemon_cpp.specs.declared.line.NewLine.{NewLine}
use Rattle.daemon_cpp.specs.Diagnostics.{TextLimit, NoIdentifier}
use Rattle.daemon_cpp.specs.Prep.{Here, visit_of, place_here, State, PrepStep, Go, Stop, Reached, Gives, Ends, with_value, reach, complain_of_job, refuse, limited, say, touch, tokens_of, expanded_in, text_expanded, text_step, line_expanded, expand_line, define_step, undef_named, undef_step, new_line, renumbered, presumed_line, line_told, line_written, line_read, line_set, line_step, with_defined, zeroed, truth_of, probe_free, defined_answered, expanded_condition, answered_condition, is_defined, name_condition}
use Rattle.closure_fixpoint.specs.Closure.{AnalysisAnswers, definitions, known_name, IsKnownSearch}
use Rattle.mirror_soundness.proofs.TableLaws.{IsAmong, defined_among, undefined_among}

-- of any value
abbrev pub Any : {A : Type 0} → A → Type 0
Any = λ _. Unit {0}

module _ (all : AnalysisAnswers) (job : JobData) (visits : List Visit) where
  abbrev pub defs : List Named
  defs = definitions all job visits

  abbrev pub IsKnown : Located → Type 0
  IsKnown l = IsKnownSearch all job visits l

  -- what holds while the file of this visit is read: it is that file; the macros in force are among the definitions; each search
  -- that succeeded is known; and a file without a `#line` has its first presumed name
  pub record Holds (visit : Visit) (state : State) : Type 0 where
    pub in_file : visit_of state.here ≡ visit
    pub table : IsAmong state.macros defs
    pub touched : (l : Located) → Member l state.touched → IsKnown l
    pub presumed : (all.sheet visit).has_line ≡ false → state.here.name ≡ presumed_name visit.place

  abbrev pub Keeps : Visit → PrepStep → Type 0
  Keeps visit (Go state) = Holds visit state
  Keeps visit (Stop diagnostic state) = (l : Located) → Member l state.touched → IsKnown l

  -- a value with this property, in a state of which all that still holds
  abbrev pub KeepsWith : {A : Type 0} → Visit → (A → Type 0) → Reached A → Type 0
  KeepsWith visit P (Gives x state) = Holds visit state × P x
  KeepsWith visit P (Ends diagnostic state) = (l : Located) → Member l state.touched → IsKnown l

  pub reach_keeps : {A B : Type 0} (visit : Visit) (P : A → Type 0) (Q : B → Type 0) (r : Reached A) (next : A → State → Reached B) → KeepsWith visit P r
      → ((x : A) (state : State) → Holds visit state → P x → KeepsWith visit Q (next x state)) → KeepsWith visit Q (reach next r)
  reach_keeps visit P Q (Gives x state) next keeps each = each x state keeps.0 keeps.1
  reach_keeps visit P Q (Ends diagnostic state) next keeps each = keeps

  pub value_keeps : {A : Type 0} (visit : Visit) (P : A → Type 0) (r : Reached A) (next : A → State → PrepStep) → KeepsWith visit P r
      → ((x : A) (state : State) → Holds visit state → P x → Keeps visit (next x state)) → Keeps visit (with_value next r)
  value_keeps visit P (Gives x state) next keeps each = each x state keeps.0 keeps.1
  value_keeps visit P (Ends diagnostic state) next keeps each = keeps

  -- THE STATE

  pub limited_keeps : (visit : Visit) (state : State) → Holds visit state → Keeps visit (limited state)
  limited_keeps visit state h = go (nat_le (length state.output.text) text_limit)
    where
      go : (b : Bool) → Keeps visit (cond b (Go state) (complain_of_job TextLimit state))
      go true = h
      go false = h.touched

  pub say_keeps : (visit : Visit) (events : List Event) (state : State) → Holds visit state → Keeps visit (say events state)
  say_keeps visit events state h =
      limited_keeps visit (record state { output = after_events state.output events })
      (record { in_file = h.in_file; table = h.table; touched = h.touched; presumed = h.presumed })

  -- with other work left
  pub left_holds : (visit : Visit) (state : State) (left : ℕ) → Holds visit state → Holds visit (record state { left = left })
  left_holds visit state left h = record { in_file = h.in_file; table = h.table; touched = h.touched; presumed = h.presumed }

  pub touch_holds : (visit : Visit) (l : Located) (state : State) → Holds visit state → IsKnown l → Holds visit (touch l state)
  touch_holds visit l state h known = record {
    in_file = h.in_file;
    table = h.table;
    presumed = h.presumed;
    touched = λ other n. elim (Member-append other state.touched (l ∷ []) n) [
      | inl old ↦ h.touched other old
      | inr new ↦ elim new [ inl same ↦ subst (λ (x : Located). IsKnown x) same known | inr never ↦ absurd never ]
    ];
  }

  -- the presumed name that the analysis knows of a file is the one in force
  pub knows : (visit : Visit) (state : State) → Holds visit state → Knows (known_name (all.sheet visit) visit) (place_here state.here)
  knows visit state h = go (all.sheet visit).has_line refl
    where
      go : (b : Bool) → (all.sheet visit).has_line ≡ b → Knows (cond b None (Some (presumed_name visit.place))) (place_here state.here)
      go true is = tt
      go false is = sym (h.presumed is)

  -- EXPANSION

  pub text_keeps : (visit : Visit) (tokens : List Token) (state : State) → Holds visit state → Keeps visit (text_step tokens state)
  text_keeps visit tokens state h = go (expanded_in mode.Text tokens state)
    where
      go : (r : Result Expanded Failure) → Keeps visit (text_expanded r state)
      go (Ok e) = say_keeps visit (map put (tokens_of e)) (record state { left = e.units }) (left_holds visit state e.units h)
      go (Err f) = h.touched

  -- a line's tokens, whatever they are expanded to
  line_keeps : (visit : Visit) (at : ℕ) (how : Mode) (tokens : List Token) (state : State) → Holds visit state → KeepsWith visit Any (expand_line at how tokens state)
  line_keeps visit at how tokens state h = go (expanded_in how tokens state)
    where
      go : (r : Result Expanded Failure) → KeepsWith visit Any (line_expanded at r state)
      go (Ok e) = (left_holds visit state e.units h, tt)
      go (Err f) = h.touched

  -- DIRECTIVES

  pub define_keeps : (visit : Visit) (at : ℕ) (r : Result Named DefineError) (state : State) → Holds visit state
      → ((x : Named) → r ≡ Ok x → Member x defs) → Keeps visit (define_step at r state)
  define_keeps visit at (Ok x) state h there = record {
    in_file = h.in_file;
    table = defined_among state.macros defs x h.table (there x refl);
    touched = h.touched;
    presumed = h.presumed;
  }
  define_keeps visit at (Err f) state h there = h.touched

  undef_named_keeps : (visit : Visit) (at : ℕ) (name : Text) (b : Bool) (state : State) → Holds visit state → Keeps visit (undef_named at name b state)
  undef_named_keeps visit at name true state h = record { in_file = h.in_file; table = undefined_among state.macros defs name h.table; touched = h.touched; presumed = h.presumed }
  undef_named_keeps visit at name false state h = h.touched

  pub undef_keeps : (visit : Visit) (at : ℕ) (tokens : List Token) (state : State) → Holds visit state → Keeps visit (undef_step at tokens state)
  undef_keeps visit at [] state h = h.touched
  undef_keeps visit at (t ∷ ts) state h = undef_named_keeps visit at t.text (names_macro t) state h

  line_told_keeps : (visit : Visit) (at : ℕ) (new : Option NewLine) (state : State) → Holds visit state → KeepsWith visit Any (line_told at new state)
  line_told_keeps visit at None state h = h.touched
  line_told_keeps visit at (Some new) state h = (h, tt)

  line_written_keeps : (visit : Visit) (at : ℕ) (new : Option NewLine) (tokens : List Token) (state : State) → Holds visit state → KeepsWith visit Any (line_written at new tokens state)
  line_written_keeps visit at (Some new) tokens state h = (h, tt)
  line_written_keeps visit at None tokens state h =
      reach_keeps visit Any Any (expand_line at mode.Text tokens state) (λ ts after. line_told at (new_line ts) after) (line_keeps visit at mode.Text tokens state h)
      (λ ts after k any. line_told_keeps visit at (new_line ts) after k)

  -- a line directive renumbers the file that is read, which stays the same file; it has one, so its name isn't known
  line_set_keeps : (visit : Visit) (at : ℕ) (new : NewLine) (state : State) → (all.sheet visit).has_line ≡ true → Holds visit state → Keeps visit (line_set at new state)
  line_set_keeps visit at new state line h =
      let here : Here = renumbered at new state.here in
      say_keeps visit (mark here.name (presumed_line here (at + 1)) at ∷ []) (record state { here = here }) (record {
        in_file = h.in_file;
        table = h.table;
        touched = h.touched;
        presumed = λ none. absurd (cc);
      })

  pub line_step_keeps : (visit : Visit) (at : ℕ) (tokens : List Token) (state : State) → (all.sheet visit).has_line ≡ true → Holds visit state → Keeps visit (line_step at tokens state)
  line_step_keeps visit at tokens state line h =
      value_keeps visit Any (line_read at tokens state) (λ new after. line_set at new after) (line_written_keeps visit at (new_line tokens) tokens state h)
      (λ new after k any. line_set_keeps visit at new after line k)

  -- CONDITIONS

  truth_keeps : (visit : Visit) (at : ℕ) (r : Result Num CondError) (state : State) → Holds visit state → KeepsWith visit Any (truth_of at r state)
  truth_keeps visit at (Ok n) state h = (h, tt)
  truth_keeps visit at (Err error) state h = h.touched

  probe_free_keeps : (visit : Visit) (at : ℕ) (b : Bool) (tokens : List Token) (state : State) → Holds visit state → KeepsWith visit Any (probe_free at b tokens state)
  probe_free_keeps visit at true tokens state h = h.touched
  probe_free_keeps visit at false tokens state h = truth_keeps visit at (expression_value (map zeroed tokens)) state h

  defined_keeps : (visit : Visit) (at : ℕ) (o : Option (List Token)) (state : State) → Holds visit state → KeepsWith visit Any (defined_answered at o state)
  defined_keeps visit at None state h = h.touched
  defined_keeps visit at (Some tokens) state h = probe_free_keeps visit at (list_any (is_word (codes "__has_include")) tokens) tokens state h

  -- a line whose operands of `__has_include` were answered
  pub answered_keeps : (visit : Visit) (at : ℕ) (tokens : List Token) (state : State) → Holds visit state → KeepsWith visit Any (answered_condition at tokens state)
  answered_keeps visit at tokens state h =
      reach_keeps visit Any Any (expand_line at mode.Condition tokens state) (λ ts after. expanded_condition at ts after) (line_keeps visit at mode.Condition tokens state h)
      (λ ts after k any. defined_keeps visit at (with_defined (is_defined after.macros) ts) after k)

  pub name_keeps : (visit : Visit) (at : ℕ) (wanted : Bool) (tokens : List Token) (state : State) → Holds visit state → KeepsWith visit Any (name_condition at wanted tokens state)
  name_keeps visit at wanted [] state h = h.touched
  name_keeps visit at wanted (t ∷ ts) state h = go (is_identifier t)
    where
      go : (b : Bool) → KeepsWith visit Any
          (if b then Gives (if wanted then is_defined state.macros t.text else not (is_defined state.macros t.text)) state else refuse at NoIdentifier state)
      go true = (h, tt)
      go false = h.touched
