-- A run by a list of numbers is an expansion that this answerer answers.
use Rattle.std.proofs.Common.{◌≡◌, ℕ, zero, suc, ◌<◌, ◌≤◌, ◌+◌, get_or, List, [], ◌∷◌, ◌++◌, map, length, refl, sym, ap, ◌∙◌, subst, append_assoc, append-nil, arith, Result, Ok, Err, Option, Some, None}
use Rattle.std.specs.Prelude.{codes}
use Rattle.base_types.specs.Limits.{choice_work_limit}
use Rattle.macro_defs.specs.MacroDefinition.{MacroDefinition}
use Rattle.pp_tokens.specs.declared.Token.{Token}
use Rattle.directive_scan.specs.declared.directive.HeaderName.{HeaderName}
use Rattle.directive_scan.specs.HeaderNames.{header_named}
use Rattle.macro_expand.specs.declared.outcome.Mode.TheVariants.{Text}
use Rattle.macro_expand.specs.declared.outcome.RunError.{RunError}
use Rattle.macro_expand.specs.declared.outcome.RunError.TheVariants.{Count as CountError, Unclosed as UnclosedError, Paste as PasteError, Deep as DeepError, Work as WorkError, Presumed as PresumedError, Memory}
use Rattle.macro_expand.specs.Asking.{Failure, Count, Unclosed, Paste, Deep, Work, Asking, give, fail, ask_definition, ask_file, ask_line}
use Rattle.macro_expand.specs.Replacement.{unmarked}
use Rattle.macro_expand.specs.Expansion.{Expanded}
use Rattle.macro_expand.specs.Answered.{Stop, ByFailure, ByPresumed, Answered, with_text, answered, expanded_for}
use Rattle.macro_expand.specs.Seen.{Stops, HasTokens}
use Rattle.macro_expand.specs.Choice.{Sets, Choice, Ending, Gave, Failed, Presumed, header_of_ending}
use Rattle.macro_expand.specs.Laws.{IsCutOff}
use Rattle.symbolic_expand.specs.declared.outcome.SymError.{SymError}
use Rattle.symbolic_expand.specs.Texts.{text_inserted, all_inserted}
use Rattle.symbolic_expand.specs.parts.Enumeration.{choices_of, choice_at, Numbered, meets_first, At, run_at}
use Rattle.symbolic_expand.specs.parts.Choosing.{Choosing, chosen, choosing_answerer}
use Rattle.symbolic_expand.specs.parts.Search.{computed, EndsWith, RefusesRun, refusal_of}

at_number : (ds : List MacroDefinition) (j : ℕ) (d : MacroDefinition) → j < length ds → d ≡ get_or ds j d → Some d ≡ choice_at (map Some ds) j
at_number [] j d h e = absurd (omega arith)
at_number (x ∷ ds) zero d h e = ap Some e
at_number (x ∷ ds) (suc j) d h e = at_number ds j d (omega arith) e

past_number : (ds : List MacroDefinition) (j : ℕ) → length ds ≤ j → None ≡ choice_at (map Some ds) j
past_number [] j h = refl
past_number (x ∷ ds) zero h = absurd (omega arith)
past_number (x ∷ ds) (suc j) h = past_number ds j (omega arith)

pub choice_taken : (ds : List MacroDefinition) (k i : ℕ) (d : MacroDefinition) → i + 1 ≡ k → i < length ds → d ≡ get_or ds i d →
    Some d ≡ choice_at (choices_of ds) k
choice_taken ds zero i d is h e = absurd (omega arith)
choice_taken ds (suc j) i d is h e = let p : i ≡ j = omega arith in at_number ds i d h e ∙ ap (choice_at (map Some ds)) p

pub choice_past : (ds : List MacroDefinition) (k i : ℕ) → i + 1 ≡ k → length ds ≤ i → None ≡ choice_at (choices_of ds) k
choice_past ds zero i is h = refl
choice_past ds (suc j) i is h = past_number ds j (omega arith)

abbrev pub end_of : {A : Type 0} → Result A Stop → Ending A
end_of (Ok x) = Gave x
end_of (Err e) = elim e [ ByFailure f ↦ Failed f | ByPresumed ↦ Presumed ]

-- what the answerer leaves is the run of its list
pub record IsRunAt {A : Type 0} (a : Answered A Choosing) (taken : List (ℕ × ℕ)) (met : List (List ℕ)) (n : Numbered A) : Type 0 where
  pub ending : end_of a.result ≡ n.visit.ending
  pub numbers : a.state.taken ≡ taken ++ n.numbers
  pub names : a.state.met ≡ all_inserted n.visit.met met

pub answered-choosing : {A : Type 0} (sets : Sets) (s : Choosing) (t : Asking A) →
    IsRunAt (answered (choosing_answerer sets) s t) s.taken s.met (run_at sets s.file t s.ahead)
unfolding answered run_at all_inserted
answered-choosing sets s (give x) = record { ending = refl; numbers = sym (append-nil s.taken); names = refl }
answered-choosing sets s (fail e) = record { ending = refl; numbers = sym (append-nil s.taken); names = refl }
answered-choosing {A = A} sets s (ask_definition name next) =
    go (sets name) s.ahead (λ u c. answered-choosing sets u (next c))
  where
    go : (ds : List MacroDefinition) (ks : List ℕ) →
        ((u : Choosing) (c : Choice) → IsRunAt (answered (choosing_answerer sets) u (next c)) u.taken u.met (run_at sets u.file (next c) u.ahead)) →
        IsRunAt (answered (choosing_answerer sets) (chosen ds (record { ahead = ks; taken = s.taken; file = s.file; met = text_inserted name s.met })).state
        (next (chosen ds (record { ahead = ks; taken = s.taken; file = s.file; met = text_inserted name s.met })).answer)) s.taken s.met
        (meets_first name (At (λ c q. run_at sets s.file (next c) q) ds ks))
    go [] ks ih =
        let h = ih (record { ahead = ks; taken = s.taken; file = s.file; met = text_inserted name s.met }) None in
        record { ending = h.ending; numbers = h.numbers; names = h.names }
    go (d ∷ ds) [] ih =
        let h = ih (record { ahead = []; taken = s.taken ++ (0, suc (length (d ∷ ds))) ∷ []; file = s.file; met = text_inserted name s.met }) None in
        record { ending = h.ending; numbers = h.numbers ∙ append_assoc s.taken _ _; names = h.names }
    go (d ∷ ds) (k ∷ q) ih =
        let h = ih (record { ahead = q; taken = s.taken ++ (k, suc (length (d ∷ ds))) ∷ []; file = s.file; met = text_inserted name s.met }) (choice_at (choices_of (d ∷ ds)) k) in
        record { ending = h.ending; numbers = h.numbers ∙ append_assoc s.taken _ _; names = h.names }
answered-choosing {A = A} sets s (ask_file next) = go s.file (λ u n. answered-choosing sets u (next n))
  where
    go : (file : Option (List ℕ)) →
        ((u : Choosing) (n : List ℕ) → IsRunAt (answered (choosing_answerer sets) u (next n)) u.taken u.met (run_at sets u.file (next n) u.ahead)) →
        IsRunAt (with_text file (record { ahead = s.ahead; taken = s.taken; file = file; met = text_inserted (codes "__FILE__") s.met })
        (λ n. answered (choosing_answerer sets) (record { ahead = s.ahead; taken = s.taken; file = file; met = text_inserted (codes "__FILE__") s.met }) (next n))) s.taken s.met
        (run_at sets file (ask_file next) s.ahead)
    go None ih = record { ending = refl; numbers = sym (append-nil s.taken); names = refl }
    go (Some name) ih =
        let h = ih (record { ahead = s.ahead; taken = s.taken; file = Some name; met = text_inserted (codes "__FILE__") s.met }) name in
        record { ending = h.ending; numbers = h.numbers; names = h.names }
answered-choosing sets s (ask_line line next) = record { ending = refl; numbers = sym (append-nil s.taken); names = refl }

-- One run of code, by how it ended.
module _ (sets : Sets) (s : Choosing) (fresh : s.taken ≡ []) (ts : List Token) where
  abbrev pub Here : Numbered Expanded
  Here = run_at sets s.file (computed ts) s.ahead

  abbrev Ran : Answered Expanded Choosing
  Ran = expanded_for (choosing_answerer sets) s Text 0 choice_work_limit (map unmarked ts)

  ran : IsRunAt Ran s.taken s.met Here
  unfolding expanded_for
  ran = answered-choosing sets s (computed ts)

  ended_is : (r : Result Expanded Stop) (u : Choosing) → Ran ≡ record { result = r; state = u } → Here.visit.ending ≡ end_of r
  ended_is r u e = sym ran.ending ∙ ap (λ (a : Answered Expanded Choosing). end_of a.result) e

  took_is : (r : Result Expanded Stop) (u : Choosing) → Ran ≡ record { result = r; state = u } → Here.numbers ≡ u.taken
  took_is r u e = sym (ran.numbers ∙ ap (λ q. q ++ Here.numbers) fresh) ∙ ap (λ (a : Answered Expanded Choosing). a.state.taken) e

  met_is : (r : Result Expanded Stop) (u : Choosing) → Ran ≡ record { result = r; state = u } → u.met ≡ all_inserted Here.visit.met s.met
  met_is r u e = ap (λ (a : Answered Expanded Choosing). a.state.met) (sym e) ∙ ran.names

  ends : (r : Result Expanded Stop) (u : Choosing) → (IsCutOff (end_of r) → ⊥) → Ran ≡ record { result = r; state = u } →
      EndsWith Here (header_of_ending header_named (end_of r)) u.taken s.met u.met
  ends r u not_cut e = record {
    names = ap (header_of_ending header_named) (ended_is r u e);
    took = took_is r u e;
    meets = met_is r u e;
    whole = λ cut. not_cut (subst IsCutOff (ended_is r u e) cut);
  }

  pub run_gave : (out : List Token) (left : ℕ) (u : Choosing) (h : Option HeaderName) → HasTokens Ran out left u → h ≡ header_named out →
      EndsWith Here h u.taken s.met u.met
  run_gave out left u h (list, (e, same)) is =
      subst (λ h. EndsWith Here h u.taken s.met u.met) (ap header_named same ∙ sym is) (ends _ u (λ cut. cut) e)

  -- a run that an error stopped names no header, or refuses all
  abbrev pub Stopped : Choosing → Option SymError → Type 0
  Stopped u None = EndsWith Here None u.taken s.met u.met
  Stopped u (Some why) = RefusesRun why Here

  abbrev IsWork : Failure → Type 0
  IsWork f = elim f [ Work ↦ Unit {0} | _ ↦ ⊥ ]

  not_work : (f : Failure) → (IsWork f → ⊥) → f ≡ Work → ⊥
  not_work f other p = other (subst IsWork (sym p) tt)

  pub run_stopped : (e : RunError) (u : Choosing) → Stops e u Ran → Stopped u (refusal_of e)
  run_stopped (CountError name line) u h = ends _ u (not_work (Count name line) (λ k. k)) h
  run_stopped (UnclosedError name line) u h = ends _ u (not_work (Unclosed name line) (λ k. k)) h
  run_stopped (PasteError left right line) u h = ends _ u (not_work (Paste left right line) (λ k. k)) h
  run_stopped (DeepError line) u h = ends _ u (not_work (Deep line) (λ k. k)) h
  run_stopped WorkError u h = ended_is _ u h
  run_stopped PresumedError u h = ended_is _ u h
  run_stopped Memory u h = tt

-- the same run, with its end in other words
pub ended_with : (n : Numbered Expanded) (h k : Option HeaderName) (taken took : List (ℕ × ℕ)) (met now later : List (List ℕ)) →
    EndsWith n h taken met now → k ≡ h → took ≡ taken → later ≡ now → EndsWith n k took met later
ended_with n h k taken took met now later e header numbers names =
    record { names = e.names ∙ sym header; took = e.took ∙ sym numbers; meets = names ∙ e.meets; whole = e.whole }
