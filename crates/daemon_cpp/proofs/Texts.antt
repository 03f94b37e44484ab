-- Runs of text, expanded and laid out.
use Rattle.std.proofs.Common.{◌≡◌, ℕ, ◌<◌, ◌≤◌, List, [], ◌∷◌, ◌++◌, map, length, None, Result, Ok, Err, refl, ap, sym, ◌∙◌, arith, length-append}
use Rattle.std.proofs.lemmas.Bool.{le-leb}
use Rattle.pp_tokens.specs.declared.token.Token.{Token}
use Rattle.macro_expand.specs.Asking.{Failure}
use Rattle.macro_defs.specs.Table.{TableEntries, lookup}
use Rattle.macro_expand.specs.declared.answers.Presumed.{Presumed}
use Rattle.macro_expand.specs.declared.outcome.Mode.{Mode}
use Rattle.macro_expand.specs.declared.outcome.Mode.TheVariants as mode
use Rattle.macro_expand.specs.declared.outcome.Work.{Work as WorkLeft}
use Rattle.macro_expand.specs.declared.stream.Standing.TheVariants.{Going}
use Rattle.macro_expand.specs.Expansion.{Expanded, Table, expanded_by}
use Rattle.macro_expand.specs.Replacement.{Marked, unmarked}
use Rattle.macro_expand.specs.Seen as seen
use Rattle.macro_expand.specs.Seen.{marked_of, kept_plain, place_of, ReportsResult}
use Rattle.macro_expand.specs.declared.outcome.ExpandError.{ExpandError}
use Rattle.macro_expand.specs.declared.outcome.ExpandError.TheVariants as expand_error
use Rattle.macro_expand.specs.Stream.{Given, Stream, given, given_before, to_come, GivesNext}
use Rattle.macro_expand.proofs.PendingLemmas.{plain_unmarked}
use Rattle.macro_expand.proofs.StreamLemmas.{given_before-nothing}
use Rattle.base_types.specs.Limits.{text_limit}
use Rattle.cpp_output.specs.Layout.{Event, put, written}
use Rattle.cpp_output.specs.Laid.{Laid, after_event, after_events}
use Rattle.tree_model.specs.Paths.{Path}
use Rattle.daemon_cpp.specs.declared.kept.Kept.{Kept}
use Rattle.daemon_cpp.specs.declared.kept.Places.{Places}
use Rattle.daemon_cpp.specs.Prep as prep
use Rattle.daemon_cpp.specs.Prep.{Here, State, Go, Gives, limited, tokens_of, expanded_in, line_expanded, expand_line, text_expanded, text_step}
use Rattle.daemon_cpp.specs.parts.Showing.{Shows, here_seen, Leads, Goes, laid_from, IsTooLong, IsOkay}

-- ---- an output that grows ----

grows-one : (o : Laid) (e : Event) → length o.text ≤ length (after_event o e).text
unfolding after_event
grows-one o e = omega (arith, length-append o.text (written o.at o.last e))

pub grows : (o : Laid) (ts : List Token) → length o.text ≤ length (after_events o (map put ts)).text
unfolding after_events
grows o [] = omega arith
grows o (t ∷ ts) = omega (arith, grows-one o (put t), grows (after_event o (put t)) ts)

-- where the front doesn't fit, the whole doesn't
pub too-long : (o : Laid) (r : Result Given Failure) → IsOkay r → text_limit < length o.text → IsTooLong (laid_from o r)
too-long o (Ok g) okay long = omega (arith, long, grows o g.tokens)
too-long o (Err f) okay long = absurd okay

-- an error of an expansion is one of the run that it lays out
pub reports_laid : (e : ExpandError) (o : Laid) (r : Result Given Failure) → ReportsResult e r → ReportsResult e (laid_from o r)
reports_laid (expand_error.Count name line) o r is = ap (laid_from o) is
reports_laid (expand_error.Unclosed name line) o r is = ap (laid_from o) is
reports_laid (expand_error.Paste left right line) o r is = ap (laid_from o) is
reports_laid (expand_error.Deep line) o r is = ap (laid_from o) is
reports_laid expand_error.Work o r is = ap (laid_from o) is
reports_laid expand_error.Memory o r is = tt

after-both : (o : Laid) (ts us : List Token) → after_events o (map put (ts ++ us)) ≡ after_events (after_events o (map put ts)) (map put us)
unfolding after_events
after-both o [] us = refl
after-both o (t ∷ ts) us = after-both (after_event o (put t)) ts us

laid-before : (o : Laid) (ts : List Token) (r : Result Given Failure) → laid_from o (given_before ts r) ≡ laid_from (after_events o (map put ts)) r
laid-before o ts (Ok g) = ap (λ (l : Laid). let laid : Result (Laid × ℕ) Failure = Ok (l, g.units) in laid) (after-both o ts g.tokens)
laid-before o ts (Err f) = refl

-- tokens more that were laid out
pub lays-turn : (o : Laid) (old new : Stream) (units left : ℕ) (ts : List Token) → to_come old units ≡ given_before ts (to_come new left) →
    laid_from o (to_come old units) ≡ laid_from (after_events o (map put ts)) (to_come new left)
lays-turn o old new units left ts gives = ap (laid_from o) gives ∙ laid-before o ts (to_come new left)

-- no token more
pub lays-end : (o : Laid) (old new : Stream) (units left : ℕ) → GivesNext None old units new left → laid_from o (to_come old units) ≡ Ok (o, left)
unfolding after_events
lays-end o old new units left gives = ap (laid_from o) gives

-- before the first token, all are still to come
pub lays-init : (o : Laid) (table : TableEntries) (here : Presumed) (mode : Mode) (units : ℕ) (ts : List Token) →
    laid_from o (given (expanded_by (lookup table) (place_of here) mode 0 units (map unmarked ts)))
    ≡ laid_from o (to_come (record { table = table; here = here; mode = mode; ready = []; pending = map kept_plain ts; standing = Going }) units)
lays-init o table here mode units ts =
    ap (λ (l : List Marked). laid_from o (given (expanded_by (lookup table) (place_of here) mode 0 units l))) (sym (plain_unmarked ts))
    ∙ ap (laid_from o) (sym (given_before-nothing (given (expanded_by (lookup table) (place_of here) mode 0 units (map marked_of (map kept_plain ts))))))

-- ---- what is shown of a state ----

-- the expansion that a state asks for is that of what is kept
pub shown-expansion : (kept : Kept) (main : Path) (places : Places) (state : State) (mode : Mode) (tokens : List Token) → Shows kept main (here_seen places) state →
    expanded_in mode tokens state ≡ expanded_by (lookup kept.macros) (place_of places.presumed.now) mode 0 kept.work.left (map unmarked tokens)
shown-expansion kept main places state mode tokens shows =
    ap (λ (m : Table). expanded_by m (prep.place_here state.here) mode 0 state.left (map unmarked tokens)) shows.macros
    ∙ ap (λ (h : Here). expanded_by (lookup kept.macros) (prep.place_here h) mode 0 state.left (map unmarked tokens)) shows.here
    ∙ ap (λ (n : ℕ). expanded_by (lookup kept.macros) (place_of places.presumed.now) mode 0 n (map unmarked tokens)) shows.left

-- ---- lines of directives ----

line-gives : (at : ℕ) (r : Result Expanded Failure) (state : State) (ts : List Token) (left : ℕ) → seen.GivesTokens r ts left →
    line_expanded at r state ≡ Gives ts (record state { left = left })
line-gives at (Ok e) state ts left gives =
    ap (λ (n : ℕ). Gives (tokens_of e) (record state { left = n })) gives.1 ∙ ap (λ (us : List Token). Gives us (record state { left = left })) gives.0
line-gives at (Err f) state ts left gives = absurd gives

-- tokens that were expanded
pub line-leads : (old : Kept) (work : WorkLeft) (places : Places) (at : ℕ) (mode : Mode) (tokens list : List Token) →
    seen.GivesTokens (expanded_by (lookup old.macros) (place_of places.presumed.now) mode 0 old.work.left (map unmarked tokens)) list work.left →
    Leads old (record old { work = work }) places.source.now (here_seen places) (λ state. expand_line at mode tokens state) (Ok list)
line-leads old work places at mode tokens list gives state shows = (
  record state { left = work.left },
  (
    ap (λ (r : Result Expanded Failure). line_expanded at r state) (shown-expansion old places.source.now places state mode tokens shows)
        ∙ line-gives at (expanded_by (lookup old.macros) (place_of places.presumed.now) mode 0 old.work.left (map unmarked tokens)) state list work.left gives,
    record {
      source = shows.source;
      output = shows.output;
      within = shows.within;
      left = refl;
      opened = shows.opened;
      macros = shows.macros;
      once = shows.once;
      here = shows.here;
    },
  ),
)

-- ---- runs ----

-- a run that was laid out
run-laid : (r : Result Expanded Failure) (state : State) (output : Laid) (left : ℕ) → laid_from state.output (given r) ≡ Ok (output, left) →
    length output.text ≤ text_limit → text_expanded r state ≡ Go (record state { output = output; left = left })
run-laid (Err f) state output left same fits = absurd (cc)
run-laid (Ok e) state output left same fits =
    let pair : (after_events state.output (map put (tokens_of e)), e.units) ≡ (output, left) = cc in
    ap (λ (l : Laid). limited (record state { output = l; left = e.units })) (ap (λ (p : Laid × ℕ). p.0) pair)
    ∙ ap (λ (n : ℕ). limited (record state { output = output; left = n })) (ap (λ (p : Laid × ℕ). p.1) pair)
    ∙ fitting (record state { output = output; left = left }) fits
  where
    fitting : (s : State) → length s.output.text ≤ text_limit → limited s ≡ Go s
    fitting s h = rw (le-leb (length s.output.text) text_limit h) refl

pub run-goes : (old : Kept) (layout : Laid) (work : WorkLeft) (places : Places) (tokens : List Token) →
    laid_from old.layout (given (expanded_by (lookup old.macros) (place_of places.presumed.now) mode.Text 0 old.work.left (map unmarked tokens))) ≡ Ok (layout, work.left) →
    (length old.layout.text ≤ text_limit → length layout.text ≤ text_limit) →
    Goes old (record old { layout = layout; work = work }) places.source.now (here_seen places) {A = Unit {0}} (λ state. text_step tokens state) (Ok tt)
run-goes old layout work places tokens laid within state shows = (
  record state { output = layout; left = work.left },
  (
    ap (λ (r : Result Expanded Failure). text_expanded r state) (shown-expansion old places.source.now places state mode.Text tokens shows)
        ∙ run-laid (expanded_by (lookup old.macros) (place_of places.presumed.now) mode.Text 0 old.work.left (map unmarked tokens)) state layout work.left
        (ap (λ (o : Laid). laid_from o (given (expanded_by (lookup old.macros) (place_of places.presumed.now) mode.Text 0 old.work.left (map unmarked tokens)))) shows.output ∙ laid)
        (within shows.within),
    record {
      source = shows.source;
      output = refl;
      within = within shows.within;
      left = refl;
      opened = shows.opened;
      macros = shows.macros;
      once = shows.once;
      here = shows.here;
    },
  ),
)
