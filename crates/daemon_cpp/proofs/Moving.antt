-- What the pieces of a file lead to, by what is kept before and behind them.
use Rattle.std.proofs.Common.{◌≡◌, ◌≤◌, ◌<◌, ℕ, Bool, true, false, ◌||◌, List, [], ◌∷◌, ◌++◌, length, Result, Ok, Err, refl, sym, ◌∙◌, ap, subst}
use Rattle.std.specs.List.{list_any}
use Rattle.std.proofs.lemmas.Bool.{le-leb, lt-leb}
use Rattle.std.proofs.lemmas.List.Folds.{list_any-append}
use Rattle.pp_tokens.specs.declared.Token.{Token}
use Rattle.directive_scan.specs.declared.Directive.{Directive}
use Rattle.directive_scan.specs.declared.Piece.{Piece}
use Rattle.base_types.specs.Limits.{text_limit}
use Rattle.cpp_output.specs.Layout.{Event}
use Rattle.cpp_output.specs.Laid.{Laid, after_event, after_events}
use Rattle.tree_model.specs.Paths.{Path, spelled, is_same_path}
use Rattle.daemon_cpp.specs.declared.kept.Kept.{Kept}
use Rattle.daemon_cpp.specs.declared.line.NewLine.{NewLine}
use Rattle.daemon_cpp.specs.declared.pieces.Move.{Move}
use Rattle.daemon_cpp.specs.declared.pieces.Move.TheVariants.{Onward, Renumber}
use Rattle.daemon_cpp.specs.declared.stop.Stop.{Stop}
use Rattle.daemon_cpp.specs.declared.stop.Stop.TheVariants as stop
use Rattle.daemon_cpp.specs.Diagnostics.{Diagnostic, TextLimit}
use Rattle.daemon_cpp.specs.Prep.{World, Here, State, PrepStep, Go, Stop as Stopped, Entering, with_value, of_job, limited, say, line_read, line_set, line_step, directive_step, piece_step}
use Rattle.daemon_cpp.specs.parts.Showing.{Shows, StopsWith, Refuses, Leads, Goes, Moves, moves_onward}
use Rattle.daemon_cpp.proofs.Steps.{of-job}

-- a step that is done leads to the next piece
pub moves-onward : {A : Type 0} (old new : Kept) (main : Path) (file : Here) (step : State → PrepStep) (done : Result A Stop) (r : Result Move Stop) →
    r ≡ moves_onward done → Goes old new main file step done → Moves old new main file (λ entering state. step state) r
moves-onward {A} old new main file step done r is goes =
    subst (λ (m : Result Move Stop). Moves old new main file (λ entering state. step state) m) (sym is) (go done goes)
  where
    go : (d : Result A Stop) → Goes old new main file step d → Moves old new main file (λ entering state. step state) (moves_onward d)
    go (Ok x) told = λ entering state shows. told state shows
    go (Err (stop.Ended words)) told = λ entering state shows. told state shows
    go (Err stop.Fault) told = tt
    go (Err stop.Memory) told = tt

-- another name of a directive, and of a piece
pub directive-moves : (world : World) (old new : Kept) (main : Path) (file : Here) (at : ℕ) (what same : Directive) (r : Result Move Stop) → what ≡ same →
    Moves old new main file (λ entering state. directive_step world entering at same state) r → Moves old new main file (λ entering state. directive_step world entering at what state) r
directive-moves world old new main file at what same r is moves =
    subst (λ (w : Directive). Moves old new main file (λ entering state. directive_step world entering at w state) r) (sym is) moves

pub piece-moves : (world : World) (old new : Kept) (main : Path) (file : Here) (piece same : Piece) (r : Result Move Stop) → piece ≡ same →
    Moves old new main file (λ entering state. piece_step world entering same state) r → Moves old new main file (λ entering state. piece_step world entering piece state) r
piece-moves world old new main file piece same r is moves =
    subst (λ (p : Piece). Moves old new main file (λ entering state. piece_step world entering p state) r) (sym is) moves

-- a diagnostic at once, where nothing that is told was written
pub moves-refuse : (old new : Kept) (main : Path) (file : Here) (f : Entering → State → PrepStep) (d : Diagnostic) (e : Stop) → new.opened ≡ old.opened →
    ((entering : Entering) (state : State) → Shows old main file state → (after : State) × ((f entering state ≡ Stopped d after) × (after.opened ≡ state.opened))) →
    Refuses d e → Moves old new main file f (Err e)
moves-refuse old new main file f d (stop.Ended words) opened same told = λ entering state shows.
    let one = same entering state shows in
    subst (λ s. StopsWith words new.opened s) (sym one.1.0) (told, one.1.1 ∙ shows.opened ∙ sym opened)
moves-refuse old new main file f d stop.Fault opened same told = absurd told
moves-refuse old new main file f d stop.Memory opened same told = tt

-- a line directive that was read
pub moves-renumbered : (old new : Kept) (main : Path) (file : Here) (at : ℕ) (tokens : List Token) (numbers : NewLine) →
    Leads old new main file (λ state. line_read at tokens state) (Ok numbers) →
    Moves old new main file (λ entering state. line_step at tokens state) (Ok (Renumber at numbers))
moves-renumbered old new main file at tokens numbers read = λ entering state shows.
    let one = read state shows in
    (one.0, (ap (with_value (λ n after. line_set at n after)) one.1.0, one.1.1))

-- a file that is marked
pub moves-marked : (kept : Kept) (marks : List Path) (main : Path) (file : Here) →
    ((other : Path) → list_any (is_same_path other) marks ≡ (is_same_path other file.real || list_any (is_same_path other) kept.once)) →
    Moves kept (record kept { once = marks }) main file (λ entering state. Go (record state { once = state.once ++ state.here.real ∷ [] })) (Ok Onward)
moves-marked kept marks main file marked = λ entering state shows. (
  record state { once = state.once ++ state.here.real ∷ [] },
  (
    refl,
    record {
      source = shows.source;
      output = shows.output;
      within = shows.within;
      left = shows.left;
      opened = shows.opened;
      macros = shows.macros;
      once = λ path.
          list_any-append (is_same_path path) state.once (state.here.real ∷ [])
          ∙ ap (λ (b : Bool). b || list_any (is_same_path path) (state.here.real ∷ [])) (shows.once path)
          ∙ ap (λ (h : Here). list_any (is_same_path path) kept.once || list_any (is_same_path path) (h.real ∷ [])) shows.here
          ∙ swapped (list_any (is_same_path path) kept.once) (is_same_path path file.real)
          ∙ sym (marked path);
      here = shows.here;
    },
  ),
)
  where
    swapped : (a b : Bool) → (a || (b || false)) ≡ (b || a)
    swapped true true = refl
    swapped true false = refl
    swapped false true = refl
    swapped false false = refl

-- an event that fits
pub moves-laid : (kept : Kept) (after : Laid) (main : Path) (file : Here) (event : Event) → after ≡ after_event kept.layout event → length after.text ≤ text_limit →
    Moves kept (record kept { layout = after }) main file (λ entering state. say (event ∷ []) state) (Ok Onward)
unfolding after_events
moves-laid kept after main file event grown fits = λ entering state shows. (
  record state { output = after },
  (
    ap (λ (o : Laid). limited (record state { output = after_event o event })) shows.output
        ∙ ap (λ (o : Laid). limited (record state { output = o })) (sym grown)
        ∙ within (record state { output = after }) fits,
    record {
      source = shows.source;
      output = refl;
      within = fits;
      left = shows.left;
      opened = shows.opened;
      macros = shows.macros;
      once = shows.once;
      here = shows.here;
    },
  ),
)
  where
    within : (s : State) → length s.output.text ≤ text_limit → limited s ≡ Go s
    within s short = rw (le-leb (length s.output.text) text_limit short) refl

-- and one that doesn't
pub moves-full : (kept : Kept) (after : Laid) (main : Path) (file : Here) (event : Event) (e : Stop) → text_limit < length (after_event kept.layout event).text →
    Refuses (record { place = spelled main; at = 0; complaint = TextLimit }) e →
    Moves kept (record kept { layout = after }) main file (λ entering state. say (event ∷ []) state) (Err e)
unfolding after_events
moves-full kept after main file event e long told =
    moves-refuse kept (record kept { layout = after }) main file (λ entering state. say (event ∷ []) state) (record { place = spelled main; at = 0; complaint = TextLimit }) e refl
    (λ entering state shows. (
      record state { output = after_event kept.layout event },
      (
        ap (λ (o : Laid). limited (record state { output = after_event o event })) shows.output
            ∙ past (record state { output = after_event kept.layout event }) long
            ∙ ap (λ (d : Diagnostic). Stopped d (record state { output = after_event kept.layout event })) (of-job kept main file TextLimit state shows),
        refl,
      ),
    ))
    told
  where
    past : (s : State) → text_limit < length s.output.text → limited s ≡ Stopped (of_job TextLimit s) s
    past s more = rw (lt-leb (length s.output.text) text_limit more) refl
