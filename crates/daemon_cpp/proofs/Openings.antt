-- What opening a file leads to, part by part.
use Rattle.std.proofs.Common.{◌≡◌, ◌-◌, ◌++◌, ◌∷◌, [], ℕ, List, length, None, Some, Result, Ok, Err, Bool, true, false, cond, refl, sym, ◌∙◌, ap, subst}
use Rattle.std.specs.Prelude.{nat_le, ◌↔◌}
use Rattle.pp_tokens.specs.Lines.{lexed, LexedFile}
use Rattle.cpp_output.specs.Layout.{Event}
use Rattle.directive_scan.specs.declared.Piece.{Piece}
use Rattle.directive_scan.specs.declared.Malformed.{Malformed}
use Rattle.directive_scan.specs.declared.Malformed.TheVariants as malformed
use Rattle.directive_scan.specs.Groups.{role_of, Group, group_pieces, Outline, whole, HasOutline, outline, malformed_by}
use Rattle.tree_model.specs.Bodies.{body_within}
use Rattle.base_types.specs.Limits.{body_limit}
use Rattle.tree_model.specs.Paths.{Text, Path, spelled}
use Rattle.search_path.specs.Search.{Hit}
use Rattle.daemon_cpp.specs.declared.kept.Kept.{Kept}
use Rattle.daemon_cpp.specs.declared.stop.Stop.{Stop}
use Rattle.daemon_cpp.specs.declared.stop.Stop.TheVariants as stop
use Rattle.daemon_cpp.specs.Diagnostics.{Diagnostic, TooLarge, WorkLimit}
use Rattle.daemon_cpp.specs.Prep.{World, Here, Entering, State, PrepStep, Go, Stop as Stopped, and_then, say, here_at, complain, complain_of_job, malformed_step, run_group, run_outline, run_file, opening_cost, open_file}
use Rattle.daemon_cpp.specs.parts.Reading.{run_flat, reading, run_body, malformed_told, work_after}
use Rattle.daemon_cpp.specs.parts.Showing.{Shows, StopsWith, Refuses, Goes, Opens, BeginsFile, TellsNothing}
use Rattle.daemon_cpp.proofs.Steps.{stops-on}
use Rattle.daemon_cpp.proofs.Flat.{read-file}

-- another way to say what is opened
pub begins-same : (old new : Kept) (main : Path) (file : Here) (world : World) (f g : Entering → State → PrepStep) (r : Result (List Piece) Stop) →
    ((entering : Entering) (state : State) → Shows old main file state → g entering state ≡ f entering state) → BeginsFile old new main file world f r → BeginsFile old new main file world g r
begins-same old new main file world f g (Ok pieces) same begins = λ entering state shows.
    let one = begins entering state shows in
    (one.0, (same entering state shows ∙ one.1.0, one.1.1))
begins-same old new main file world f g (Err (stop.Ended words)) same begins = λ entering state shows.
    subst (λ (s : PrepStep). StopsWith words new.opened s) (sym (same entering state shows)) (begins entering state shows)
begins-same old new main file world f g (Err stop.Fault) same begins = tt
begins-same old new main file world f g (Err stop.Memory) same begins = tt

-- a diagnostic at once
pub begins-refuse : (old : Kept) (main : Path) (file : Here) (world : World) (f : Entering → State → PrepStep) (d : Diagnostic) (e : Stop) →
    ((entering : Entering) (state : State) → Shows old main file state → f entering state ≡ Stopped d state) → Refuses d e → BeginsFile old old main file world f (Err e)
begins-refuse old main file world f d (stop.Ended words) same told = λ entering state shows.
    subst (λ (s : PrepStep). StopsWith words old.opened s) (sym (same entering state shows)) (told, shows.opened)
begins-refuse old main file world f d stop.Fault same told = absurd told
begins-refuse old main file world f d stop.Memory same told = tt

-- events in front of the pieces
pub begins-announced : {A : Type 0} (old new : Kept) (main : Path) (file : Here) (world : World) (events : List Event) (pieces : List Piece) (x : A) → Goes old new main file (λ state. say events state) (Ok x) →
    BeginsFile old new main file world (λ entering state. and_then (λ after. run_flat world entering reading pieces after) (say events state)) (Ok pieces)
begins-announced old new main file world events pieces x goes = λ entering state shows.
    let one = goes state shows in
    (one.0, (ap (and_then (λ after. run_flat world entering reading pieces after)) one.1.0, one.1.1))

pub begins-full : (A : Type 0) (old new : Kept) (main : Path) (file : Here) (world : World) (events : List Event) (pieces : List Piece) (e : Stop) → Goes old new main file {A = A} (λ state. say events state) (Err e) →
    BeginsFile old new main file world (λ entering state. and_then (λ after. run_flat world entering reading pieces after) (say events state)) (Err e)
begins-full A old new main file world events pieces (stop.Ended words) goes = λ entering state shows.
    stops-on (λ after. run_flat world entering reading pieces after) words new.opened (say events state) (goes state shows)
begins-full A old new main file world events pieces stop.Fault goes = tt
begins-full A old new main file world events pieces stop.Memory goes = tt

-- what is wrong with the conditionals of the file that is read
pub malformed-here : (world : World) (entering : Entering) (what : Malformed) (state : State) → malformed_step world entering (Some what) state ≡ Stopped (malformed_told state.here.place what) state
malformed-here world entering (malformed.WithoutIf name at) state = refl
malformed-here world entering (malformed.AfterElse name at) state = refl
malformed-here world entering (malformed.Unended at) state = refl

then-same : (f g : State → PrepStep) → ((s : State) → f s ≡ g s) → (step : PrepStep) → and_then f step ≡ and_then g step
then-same f g same (Go s) = same s
then-same f g same (Stopped d s) = refl

-- where nothing is malformed, the groups of a file are run as its pieces
pub run-outline : (world : World) (entering : Entering) (events : List Event) (pieces : List Piece) (s : State) → (malformed_by (outline role_of pieces) ≡ None) ↔ ((g : Group) × HasOutline role_of pieces (whole g)) →
    ((o : Outline) → HasOutline role_of pieces o → o ≡ outline role_of pieces) → malformed_by (outline role_of pieces) ≡ None →
    run_outline world entering events (outline role_of pieces) s ≡ and_then (λ after. run_flat world entering reading pieces after) (say events s)
run-outline world entering events pieces s told only fine = of_group (told.0 fine)
  where
    of_group : (g : Group) × HasOutline role_of pieces (whole g) → run_outline world entering events (outline role_of pieces) s ≡ and_then (λ after. run_flat world entering reading pieces after) (say events s)
    of_group (g, (is, same)) =
        ap (λ (o : Outline). run_outline world entering events o s) (sym (only (whole g) (is, same)))
        ∙ then-same (λ after. run_group world entering g after) (λ after. run_flat world entering reading (group_pieces g) after) (λ after. sym (read-file world entering g is after)) (say events s)
        ∙ ap (λ (ps : List Piece). and_then (λ after. run_flat world entering reading ps after) (say events s)) same

-- ---- the work of a file ----

costly : (b : Bool) (left : ℕ) → None ≡ cond b (Some left) None → b ≡ false
costly true left is = absurd (cc)
costly false left is = refl

payable : (b : Bool) (left rest : ℕ) → Some rest ≡ cond b (Some left) None → (b ≡ true) × (rest ≡ left)
payable true left rest is = (refl, cc)
payable false left rest is = absurd (cc)

pub no-work : (world : World) (entering : Entering) (events : List Event) (file : LexedFile) (state : State) → None ≡ work_after (opening_cost world entering file) state.left → run_body world entering events file state ≡ complain_of_job WorkLimit state
no-work world entering events file state none =
    let short : nat_le (opening_cost world entering file) state.left ≡ false = costly _ (state.left - opening_cost world entering file) none in
    rw short refl

pub work-paid : (world : World) (entering : Entering) (events : List Event) (file : LexedFile) (state : State) (rest : ℕ) → Some rest ≡ work_after (opening_cost world entering file) state.left →
    run_body world entering events file state ≡ run_file world entering events file file.unended (record state { left = rest })
work-paid world entering events file state rest some =
    let paid = payable (nat_le (opening_cost world entering file) state.left) (state.left - opening_cost world entering file) rest some in
    rw paid.0 (ap (λ (n : ℕ). run_file world entering events file file.unended (record state { left = n })) (sym paid.1))

-- a file goes on with the work that is left
pub begins-paid : (old new : Kept) (rest : ℕ) (main : Path) (file : Here) (world : World) (events : List Event) (tokens : LexedFile) (r : Result (List Piece) Stop) →
    ((entering : Entering) → Some rest ≡ work_after (opening_cost world entering tokens) old.work.left) →
    BeginsFile (record old { work = record { left = rest } }) new main file world (λ entering state. run_file world entering events tokens tokens.unended state) r →
    BeginsFile old new main file world (λ entering state. run_body world entering events tokens state) r
begins-paid old new rest main file world events tokens r some begins = by r begins
  where
    paid-state : (state : State) → Shows old main file state → Shows (record old { work = record { left = rest } }) main file (record state { left = rest })
    paid-state state shows = record {
      source = shows.source;
      output = shows.output;
      within = shows.within;
      left = refl;
      opened = shows.opened;
      macros = shows.macros;
      once = shows.once;
      here = shows.here;
    }

    same : (entering : Entering) (state : State) → Shows old main file state → run_body world entering events tokens state ≡ run_file world entering events tokens tokens.unended (record state { left = rest })
    same entering state shows = work-paid world entering events tokens state rest (some entering ∙ ap (work_after (opening_cost world entering tokens)) (sym shows.left))

    by : (r : Result (List Piece) Stop) → BeginsFile (record old { work = record { left = rest } }) new main file world (λ entering state. run_file world entering events tokens tokens.unended state) r →
        BeginsFile old new main file world (λ entering state. run_body world entering events tokens state) r
    by (Ok pieces) begins = λ entering state shows.
        let one = begins entering (record state { left = rest }) (paid-state state shows) in
        (one.0, (same entering state shows ∙ one.1.0, one.1.1))
    by (Err (stop.Ended words)) begins = λ entering state shows.
        subst (λ (s : PrepStep). StopsWith words new.opened s) (sym (same entering state shows)) (begins entering (record state { left = rest }) (paid-state state shows))
    by (Err stop.Fault) begins = tt
    by (Err stop.Memory) begins = tt

-- ---- a file by its size ----

large : (b : Bool) (body : Text) → None ≡ cond b (Some body) None → b ≡ false
large true body is = absurd (cc)
large false body is = refl

small : (b : Bool) (body got : Text) → Some got ≡ cond b (Some body) None → (b ≡ true) × (got ≡ body)
small true body got is = (refl, cc)
small false body got is = absurd (cc)

-- the state in a file that is noted as opened
abbrev pub noted : Hit → State → State
noted hit state = record state { here = here_at hit; opened = state.opened ++ hit.0.place ∷ [] }

pub noted-shows : (old : Kept) (main : Path) (file : Here) (hit : Hit) (state : State) → Shows old main file state → Shows (record old { opened = old.opened ++ hit.0.place ∷ [] }) main (here_at hit) (noted hit state)
noted-shows old main file hit state shows = record {
  source = shows.source;
  output = shows.output;
  within = shows.within;
  left = shows.left;
  opened = ap (λ (ps : List Path). ps ++ hit.0.place ∷ []) shows.opened;
  macros = shows.macros;
  once = shows.once;
  here = refl;
}

pub too-large : (world : World) (entering : Entering) (events : List Event) (hit : Hit) (s : State) → None ≡ body_within (world.body hit.1.real) → open_file world entering events hit s ≡ complain 0 TooLarge (noted hit s)
unfolding open_file
too-large world entering events hit s is =
    let size : nat_le (length (world.body hit.1.real)) body_limit ≡ false = large (nat_le (length (world.body hit.1.real)) body_limit) (world.body hit.1.real) is in
    rw size refl

pub of-size : (world : World) (entering : Entering) (events : List Event) (hit : Hit) (s : State) (body : Text) → Some body ≡ body_within (world.body hit.1.real) →
    open_file world entering events hit s ≡ run_body world entering events (lexed world.trigraphs body) (noted hit s)
unfolding open_file
of-size world entering events hit s body is =
    let both = small (nat_le (length (world.body hit.1.real)) body_limit) (world.body hit.1.real) body is in
    let size : nat_le (length (world.body hit.1.real)) body_limit ≡ true = both.0 in
    rw size (ap (λ (b : Text). run_body world entering events (lexed world.trigraphs b) (noted hit s)) (sym both.1))

-- a file that is too large
pub opens-large : (old : Kept) (main : Path) (world : World) (hit : Hit) (events : List Event) (e : Stop) → None ≡ body_within (world.body hit.1.real) →
    Refuses (record { place = spelled hit.0.place; at = 0; complaint = TooLarge }) e →
    Opens old (record old { opened = old.opened ++ hit.0.place ∷ [] }) main world hit (λ entering state. open_file world entering events hit state) (Err e)
opens-large old main world hit events (stop.Ended words) is told = λ entering file state shows.
    subst (λ (s : PrepStep). StopsWith words (old.opened ++ hit.0.place ∷ []) s) (sym (too-large world entering events hit state is)) (told, (noted-shows old main file hit state shows).opened)
opens-large old main world hit events stop.Fault is told = absurd told
opens-large old main world hit events stop.Memory is told = tt

-- one that isn't
pub opens-body : (old new : Kept) (main : Path) (world : World) (hit : Hit) (events : List Event) (body : Text) (r : Result (List Piece) Stop) → Some body ≡ body_within (world.body hit.1.real) →
    BeginsFile (record old { opened = old.opened ++ hit.0.place ∷ [] }) new main (here_at hit) world (λ entering state. run_body world entering events (lexed world.trigraphs body) state) r →
    Opens old new main world hit (λ entering state. open_file world entering events hit state) r
opens-body old new main world hit events body (Ok pieces) is begins = λ entering file state shows.
    let one = begins entering (noted hit state) (noted-shows old main file hit state shows) in
    (one.0, (of-size world entering events hit state body is ∙ one.1.0, one.1.1))
opens-body old new main world hit events body (Err (stop.Ended words)) is begins = λ entering file state shows.
    subst (λ (s : PrepStep). StopsWith words new.opened s) (sym (of-size world entering events hit state body is)) (begins entering (noted hit state) (noted-shows old main file hit state shows))
opens-body old new main world hit events body (Err stop.Fault) is begins = tt
opens-body old new main world hit events body (Err stop.Memory) is begins = tt

-- where a tree tells nothing
pub opens-nothing : (old new : Kept) (main : Path) (world : World) (hit : Hit) (step : Entering → State → PrepStep) (e : Stop) → TellsNothing e → Opens old new main world hit step (Err e)
opens-nothing old new main world hit step (stop.Ended words) silent = absurd silent
opens-nothing old new main world hit step stop.Fault silent = tt
opens-nothing old new main world hit step stop.Memory silent = tt
