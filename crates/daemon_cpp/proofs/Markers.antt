-- Output of one event, as what is kept shows it.
use Rattle.std.proofs.Common.{◌≡◌, ◌≤◌, ◌<◌, ◌∷◌, [], length, Ok, Err, refl, sym, ◌∙◌, ap, subst}
use Rattle.base_types.specs.Limits.{text_limit}
use Rattle.cpp_output.specs.Layout.{Event}
use Rattle.cpp_output.specs.Laid.{Laid, after_event, after_events}
use Rattle.tree_model.specs.Paths.{Path, spelled}
use Rattle.daemon_cpp.specs.declared.kept.Kept.{Kept}
use Rattle.daemon_cpp.specs.declared.stop.Stop.{Stop}
use Rattle.daemon_cpp.specs.declared.stop.Stop.TheVariants as stop
use Rattle.daemon_cpp.specs.Diagnostics.{TextLimit, diagnostic_text}
use Rattle.daemon_cpp.specs.Prep.{Here, State, PrepStep, say}
use Rattle.daemon_cpp.specs.parts.Showing.{Shows, StopsWith, Refuses, Goes}
use Rattle.daemon_cpp.specs.parts.Files.{Turns}
use Rattle.daemon_cpp.proofs.Limits.{within, say-one, say-full}

-- a state with another output, and in another file
laid-shows : (old : Kept) (output : Laid) (main : Path) (from to : Here) (state : State) → Shows old main from state → length output.text ≤ text_limit →
    Shows (record old { layout = output }) main to (record state { output = output; here = to })
laid-shows old output main from to state shows fits = record {
  source = shows.source;
  output = refl;
  within = fits;
  left = shows.left;
  opened = shows.opened;
  macros = shows.macros;
  once = shows.once;
  here = refl;
}

-- no event
pub goes-none : {A : Type 0} (old : Kept) (main : Path) (file : Here) (x : A) → Goes old old main file (λ state. say [] state) (Ok x)
unfolding after_events
goes-none old main file x = λ state shows. (state, (within state (subst (λ (o : Laid). length o.text ≤ text_limit) (sym shows.output) shows.within), shows))

-- one event, behind which another file may be read
pub turns-one : {A : Type 0} (old : Kept) (output : Laid) (main : Path) (from to : Here) (step : State → PrepStep) (event : Event) (x : A) →
    ((state : State) → Shows old main from state → step state ≡ say (event ∷ []) (record state { here = to })) →
    output ≡ after_event old.layout event → length output.text ≤ text_limit → Turns old (record old { layout = output }) main from to step (Ok x)
turns-one old output main from to step event x says grown fits = λ state shows. (
  record state { output = output; here = to },
  (says state shows ∙ say-one event old.layout output (record state { here = to }) shows.output grown fits, laid-shows old output main from to state shows fits),
)

-- one that doesn't fit
pub turns-full : (A : Type 0) (old new : Kept) (main : Path) (from to : Here) (step : State → PrepStep) (event : Event) (e : Stop) →
    ((state : State) → Shows old main from state → step state ≡ say (event ∷ []) (record state { here = to })) →
    text_limit < length (after_event old.layout event).text → new.opened ≡ old.opened → Refuses (record { place = spelled main; at = 0; complaint = TextLimit }) e →
    Turns {A = A} old new main from to step (Err e)
turns-full A old new main from to step event (stop.Ended words) says long same told = λ state shows.
    subst (λ (s : PrepStep). StopsWith words new.opened s) (sym (says state shows ∙ say-full event old.layout (record state { here = to }) shows.output long))
    (told ∙ ap (λ (p : Path). diagnostic_text (record { place = spelled p; at = 0; complaint = TextLimit })) (sym shows.source), shows.opened ∙ sym same)
turns-full A old new main from to step event stop.Fault says long same told = absurd told
turns-full A old new main from to step event stop.Memory says long same told = tt

-- the same in the file that is read
pub goes-one : {A : Type 0} (old : Kept) (output : Laid) (main : Path) (file : Here) (event : Event) (x : A) →
    output ≡ after_event old.layout event → length output.text ≤ text_limit → Goes old (record old { layout = output }) main file (λ state. say (event ∷ []) state) (Ok x)
goes-one old output main file event x grown fits = λ state shows.
    let one = turns-one old output main file file (λ s. say (event ∷ []) s) event x
    (λ s seen. ap (λ (h : Here). say (event ∷ []) (record s { here = h })) seen.here) grown fits state shows in
    one

pub goes-full : (A : Type 0) (old new : Kept) (main : Path) (file : Here) (event : Event) (e : Stop) →
    text_limit < length (after_event old.layout event).text → new.opened ≡ old.opened → Refuses (record { place = spelled main; at = 0; complaint = TextLimit }) e →
    Goes old new main file {A = A} (λ state. say (event ∷ []) state) (Err e)
goes-full A old new main file event (stop.Ended words) long same told =
    turns-full A old new main file file (λ s. say (event ∷ []) s) event (stop.Ended words) (λ s seen. ap (λ (h : Here). say (event ∷ []) (record s { here = h })) seen.here) long same told
goes-full A old new main file event stop.Fault long same told = absurd told
goes-full A old new main file event stop.Memory long same told = tt
