-- What is left to read of the files around the one that is read, step by step.
use Rattle.std.proofs.Common.{◌≡◌, ◌<◌, ◌≤◌, ◌+◌, ◌-◌, ℕ, zero, suc, List, [], ◌∷◌, ◌++◌, length, refl, sym, ◌∙◌, ap, arith}
use Rattle.base_types.specs.Limits.{include_depth_limit}
use Rattle.cpp_output.specs.Layout.{enter}
use Rattle.tree_model.specs.Paths.{Text, Path}
use Rattle.tree_model.specs.Shown.{presumed_name}
use Rattle.search_path.specs.Search.{Hit}
use Rattle.daemon_cpp.specs.declared.outcome.Outcome.TheVariants as outcome
use Rattle.daemon_cpp.specs.Diagnostics.{Diagnostic, TooNested}
use Rattle.daemon_cpp.specs.Prep.{World, State, PrepStep, Go, Stop as Stopped, and_then, complain, open_file, enter_file, back_in}
use Rattle.daemon_cpp.specs.parts.Reading.{Frame, run_flat, reading, entering_at, frames_resumed}
use Rattle.daemon_cpp.specs.parts.Showing.{StopsWith}
use Rattle.daemon_cpp.specs.parts.Files.{After, told_of, ended_told, told_behind, run_rest}

-- steps one after another
pub then-go : (step : PrepStep) → and_then (λ after. Go after) step ≡ step
then-go (Go state) = refl
then-go (Stopped diagnostic state) = refl

pub then-then : (first next : State → PrepStep) (step : PrepStep) → and_then next (and_then first step) ≡ and_then (λ state. and_then next (first state)) step
then-then first next (Go state) = refl
then-then first next (Stopped diagnostic state) = refl

-- an end in the innermost file ends all
ended_within : (world : World) (level : ℕ) (frames : List Frame) (d : Diagnostic) (s : State) → frames_resumed world level frames (Stopped d s) ≡ Stopped d s
unfolding frames_resumed
ended_within world level [] d s = refl
ended_within world level (frame ∷ inner) d s =
    ap (λ (step : PrepStep). and_then (λ after. run_flat world (entering_at world level) reading frame.rest after) (and_then (λ after. back_in frame.here frame.at after) step)) (ended_within world (suc level) inner d s)

end-told : (words : Text) (opened : List Path) (d : Diagnostic) (s : State) → StopsWith words opened (Stopped d s) → ended_told words opened ≡ told_of (Stopped d s)
end-told words opened d s ends =
    ap (λ (w : Text). record { outcome = outcome.Diag w; opened = opened }) ends.0 ∙ ap (λ (ps : List Path). record { outcome = (told_of (Stopped d s)).outcome; opened = ps }) (sym ends.1)

pub stopped : (world : World) (behind : After) (frames : List Frame) (words : Text) (opened : List Path) (step : PrepStep) → StopsWith words opened step → ended_told words opened ≡ told_behind world behind frames step
stopped world behind frames words opened (Go s) ends = absurd ends
stopped world behind frames words opened (Stopped d s) ends =
    end-told words opened d s ends ∙ sym (ap (λ (step : PrepStep). told_of (and_then behind step)) (ended_within world 0 frames d s))

pub stopped-at-once : (words : Text) (opened : List Path) (step : PrepStep) → StopsWith words opened step → ended_told words opened ≡ told_of step
stopped-at-once words opened (Go s) ends = absurd ends
stopped-at-once words opened (Stopped d s) ends = end-told words opened d s ends

-- one file more around the one that is read
frames_resumed-append : (world : World) (level depth : ℕ) (frames : List Frame) (frame : Frame) (step : PrepStep) → level + length frames ≡ depth → frames_resumed world level (frames ++ frame ∷ []) step ≡ frames_resumed world level frames (and_then (λ after. run_flat world (entering_at world depth) reading frame.rest after) (and_then (λ after. back_in frame.here frame.at after) step))
unfolding frames_resumed
frames_resumed-append world level depth [] frame step is =
    let same : level ≡ depth = omega arith in
    ap (λ (n : ℕ). and_then (λ after. run_flat world (entering_at world n) reading frame.rest after) (and_then (λ after. back_in frame.here frame.at after) step)) same
frames_resumed-append world level depth (outer ∷ inner) frame step is =
    let deeper : suc level + length inner ≡ depth = omega arith in
    ap (λ (s : PrepStep). and_then (λ after. run_flat world (entering_at world level) reading outer.rest after) (and_then (λ after. back_in outer.here outer.at after) s)) (frames_resumed-append world (suc level) depth inner frame step deeper)

pub behind-frame : (world : World) (behind : After) (frames : List Frame) (frame : Frame) (step : PrepStep) →
    told_behind world behind (frames ++ frame ∷ []) step ≡ told_behind world behind frames (and_then (λ after. run_rest world frames frame.rest after) (and_then (λ after. back_in frame.here frame.at after) step))
behind-frame world behind frames frame step =
    let same : 0 + length frames ≡ length frames = omega arith in
    ap (λ (s : PrepStep). told_of (and_then behind s)) (frames_resumed-append world 0 (length frames) frames frame step same)

-- entering a file where fewer than 200 are around the one that is read, and where there are as many
pub enters : (world : World) (level at : ℕ) (hit : Hit) (state : State) → level < 200 → entering_at world level at hit state ≡ and_then (λ after. back_in state.here at after) (open_file world (entering_at world (suc level)) (enter (presumed_name hit.0.place) ∷ []) hit state)
unfolding enter_file
enters world level at hit state below =
    let deeper : include_depth_limit - level ≡ suc (include_depth_limit - suc level) = omega arith in
    ap (λ (n : ℕ). enter_file world n at hit state) deeper

pub too-nested : (world : World) (level at : ℕ) (hit : Hit) (state : State) → 200 ≤ level → entering_at world level at hit state ≡ complain at TooNested state
unfolding enter_file
too-nested world level at hit state past =
    let none : include_depth_limit - level ≡ zero = omega arith in
    ap (λ (n : ℕ). enter_file world n at hit state) none

-- the end of a file that no other is around
pub at-end : (world : World) (behind : After) (step : PrepStep) → told_behind world behind [] step ≡ told_of (and_then behind step)
unfolding frames_resumed
at-end world behind step = refl

pub none-left : (world : World) (frames : List Frame) (state : State) → run_rest world frames [] state ≡ Go state
unfolding run_flat
none-left world frames state = refl
