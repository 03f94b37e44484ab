-- What is left to read, as the code keeps it, through each of its steps.
use Rattle.std.proofs.Common.{Vec, Global, length-append, ◌≡◌, ◌<◌, ◌≤◌, ◌+◌, ℕ, suc, Bool, true, false, List, [], ◌∷◌, ◌++◌, length, map, get_or, drop, Option, None, Some, Result, Ok, Err, refl, sym, ◌∙◌, ap, subst, arith}
use Rattle.std.proofs.lemmas.List.{drop_more, drop_all, length-drop, length-map, map-append}
use Rattle.std.proofs.lemmas.List.Sums.{sum_by_push}
use Rattle.base_types.specs.Limits.{include_depth_limit}
use Rattle.directive_scan.specs.declared.Piece.{Piece}
use Rattle.directive_scan.specs.Groups.{Role, role_of, single, opening}
use Rattle.cpp_output.specs.Layout.{enter}
use Rattle.tree_model.specs.Paths.{Text, Path, spelled}
use Rattle.tree_model.specs.Shown.{presumed_name}
use Rattle.search_path.specs.Search.{Hit}
use Rattle.search_path.specs.Asks.{forced_ask}
use Rattle.daemon_cpp.specs.declared.kept.Kept.{Kept}
use Rattle.daemon_cpp.specs.declared.lexed_files.LexedFiles.{LexedFiles}
use Rattle.daemon_cpp.specs.declared.stop.Stop.{Stop}
use Rattle.daemon_cpp.specs.declared.stop.Stop.TheVariants as stop
use Rattle.daemon_cpp.specs.declared.pieces.Move.{Move}
use Rattle.daemon_cpp.specs.declared.pieces.Move.TheVariants.{Onward, Enter, Renumber}
use Rattle.daemon_cpp.specs.declared.cpp.Told.{Told}
use Rattle.daemon_cpp.specs.declared.cpp.OpenFile.{OpenFile}
use Rattle.daemon_cpp.specs.declared.cpp.Left.{Left}
use Rattle.daemon_cpp.specs.declared.cpp.Reader.{Reader}
use Rattle.daemon_cpp.specs.Diagnostics.{TooNested, diagnostic_text}
use Rattle.daemon_cpp.specs.Prep.{World, Here, Entering, State, PrepStep, Go, Stop as Stopped, and_then, with_value, piece_step, piece_test, found_file, complain, open_file, enter_file, back_in, run_forced, open_source, here_at}
use Rattle.daemon_cpp.specs.parts.Reading.{Frame, run_flat, staged, stage_of, reading, seeking, entering_at}
use Rattle.daemon_cpp.specs.parts.KnownTexts.{KnowsTexts}
use Rattle.daemon_cpp.specs.parts.Showing.{Shows, StopsWith, Refuses, Leads, Moves, Seeks, Includes, Opens}
use Rattle.daemon_cpp.specs.parts.Files.{After, here_of, pieces_left, frame_of, frames_of, told_of, told_behind, run_rest, RestLeadsTo, StepsTo, EntersTo, ComesTo, opened_file, GoesInto, Brings, IsEnd, Turns, AllRead, work_ahead, source_behind, behind_piece, MoveLeadsTo, NamedTo, InsideTo}
use Rattle.daemon_cpp.proofs.Steps.{stops-on, ends-step}
use Rattle.daemon_cpp.proofs.Skipping.{filler}
use Rattle.daemon_cpp.proofs.Flat.{at-role}
use Rattle.daemon_cpp.proofs.Frames.{then-go, then-then, stopped, stopped-at-once, behind-frame, enters, too-nested, at-end, none-left}

-- ---- steps one after another ----

pub brings-then : {A B : Type 0} (before : Told → Type 0) (mid last : Reader) (between : A → Told → Type 0) (after : B → Told → Type 0) (x : A) (r : Result B Stop) →
    Brings before mid between (Ok x) → Brings (between x) last after r → Brings before last after r
brings-then before mid last between after x (Ok y) first next = λ whole is. next whole (first whole is)
brings-then before mid last between after x (Err (stop.Ended words)) first next = λ whole is. next whole (first whole is)
brings-then before mid last between after x (Err stop.Fault) first next = tt
brings-then before mid last between after x (Err stop.Memory) first next = tt

pub brings-stop : {A B : Type 0} (before : Told → Type 0) (reader : Reader) (between : A → Told → Type 0) (after : B → Told → Type 0) (e : Stop) →
    Brings before reader between (Err e) → Brings before reader after (Err e)
brings-stop before reader between after (stop.Ended words) first = first
brings-stop before reader between after stop.Fault first = tt
brings-stop before reader between after stop.Memory first = tt

pub brings-end : {A : Type 0} (world : World) (before : Told → Type 0) (reader : Reader) (r : Result A Stop) (whole : Told) → before whole → Brings before reader (λ done. ComesTo world (λ state. Go state) reader) r → IsEnd world reader whole r
brings-end world before reader (Ok x) whole is brings = brings whole is
brings-end world before reader (Err (stop.Ended words)) whole is brings = brings whole is
brings-end world before reader (Err stop.Fault) whole is brings = tt
brings-end world before reader (Err stop.Memory) whole is brings = tt

pub brings-before : {A : Type 0} (first before : Told → Type 0) (reader : Reader) (after : A → Told → Type 0) (r : Result A Stop) →
    ((whole : Told) → first whole → before whole) → Brings before reader after r → Brings first reader after r
brings-before first before reader after (Ok x) to brings = λ whole is. brings whole (to whole is)
brings-before first before reader after (Err (stop.Ended words)) to brings = λ whole is. brings whole (to whole is)
brings-before first before reader after (Err stop.Fault) to brings = tt
brings-before first before reader after (Err stop.Memory) to brings = tt

-- ---- a piece ----

pub rest-at : (file : OpenFile) (piece : Piece) → piece ≡ get_or file.pieces file.next piece → file.next < length file.pieces → pieces_left file ≡ piece ∷ drop (file.next + 1) file.pieces
rest-at file piece is below = drop_more file.pieces file.next piece below ∙ ap (λ (p : Piece). p ∷ drop (file.next + 1) file.pieces) (sym is)

single-first : (world : World) (frames : List Frame) (file : OpenFile) (piece : Piece) (state : State) → piece ≡ get_or file.pieces file.next piece → file.next < length file.pieces → role_of piece ≡ single →
    run_rest world frames (pieces_left file) state ≡ and_then (λ after. run_rest world frames (drop (file.next + 1) file.pieces) after) (piece_step world (entering_at world (length frames)) piece state)
single-first world frames file piece state is below role =
    ap (λ (ps : List Piece). run_rest world frames ps state) (rest-at file piece is below)
    ∙ at-role world (entering_at world (length frames)) piece (drop (file.next + 1) file.pieces) state reading single role

-- a piece that stands by itself
module _ (world : World) (behind : After) (reader : Reader) (new : Kept) (piece : Piece) (is : piece ≡ get_or reader.file.pieces reader.file.next piece) (below : reader.file.next < length reader.file.pieces) (role : role_of piece ≡ single) where
  read-first : (whole : Told) (left : RestLeadsTo world behind reader whole) →
      told_behind world behind (frames_of reader) (and_then (λ after. run_rest world (frames_of reader) (drop (reader.file.next + 1) reader.file.pieces) after) (piece_step world (entering_at world (length (frames_of reader))) piece left.state)) ≡ whole
  read-first whole left =
      sym (ap (λ (step : PrepStep). told_behind world behind (frames_of reader) step) (single-first world (frames_of reader) reader.file piece left.state is below role)) ∙ left.same

  pub piece-brings : (r : Result Move Stop) → Moves reader.kept new reader.source (here_of reader.file) (λ entering state. piece_step world entering piece state) r →
      Brings (RestLeadsTo world behind reader) (behind_piece reader new) (λ move whole. MoveLeadsTo world behind (behind_piece reader new) move whole) r
  piece-brings (Ok Onward) moves = λ whole left.
      let one = moves (entering_at world (length (frames_of reader))) left.state left.shows in
      record {
        state = one.0;
        shows = one.1.1;
        knows = left.knows;
        same = sym (ap (λ (step : PrepStep). told_behind world behind (frames_of reader) (and_then (λ after. run_rest world (frames_of reader) (drop (reader.file.next + 1) reader.file.pieces) after) step)) one.1.0) ∙ read-first whole left;
      }
  piece-brings (Ok (Enter at inner)) moves = λ whole left.
      let one = moves (entering_at world (length (frames_of reader))) left.state left.shows in
      record {
        state = one.0;
        shows = one.1.1;
        knows = left.knows;
        same = sym (ap (λ (step : PrepStep). told_behind world behind (frames_of reader) (and_then (λ after. run_rest world (frames_of reader) (drop (reader.file.next + 1) reader.file.pieces) after) step)) one.1.0) ∙ read-first whole left;
      }
  piece-brings (Ok (Renumber at numbers)) moves = λ whole left.
      let one = moves (entering_at world (length (frames_of reader))) left.state left.shows in
      record {
        state = one.0;
        shows = one.1.1;
        knows = left.knows;
        same = sym (ap (λ (step : PrepStep). told_behind world behind (frames_of reader) (and_then (λ after. run_rest world (frames_of reader) (drop (reader.file.next + 1) reader.file.pieces) after) step)) one.1.0) ∙ read-first whole left;
      }
  piece-brings (Err (stop.Ended words)) moves = λ whole left.
      stopped world behind (frames_of reader) words new.opened (and_then (λ after. run_rest world (frames_of reader) (drop (reader.file.next + 1) reader.file.pieces) after) (piece_step world (entering_at world (length (frames_of reader))) piece left.state))
      (stops-on (λ after. run_rest world (frames_of reader) (drop (reader.file.next + 1) reader.file.pieces) after) words new.opened (piece_step world (entering_at world (length (frames_of reader))) piece left.state) (moves (entering_at world (length (frames_of reader))) left.state left.shows))
      ∙ read-first whole left
  piece-brings (Err stop.Fault) moves = tt
  piece-brings (Err stop.Memory) moves = tt

-- a step between two files
pub turns-brings : {A : Type 0} (world : World) (behind : After) (reader after : Reader) (from : Here) (step : State → PrepStep) (r : Result A Stop) →
    after.source ≡ reader.source → after.lexed ≡ reader.lexed → after.around ≡ reader.around → pieces_left after.file ≡ pieces_left reader.file →
    Turns reader.kept after.kept reader.source from (here_of after.file) step r → Brings (StepsTo world behind reader from step) after (λ done. RestLeadsTo world behind after) r
turns-brings world behind reader after from step (Ok x) source lexed around rest turns = λ whole steps.
    let one = turns steps.state steps.shows in
    record {
      state = one.0;
      shows = subst (λ (p : Path). Shows after.kept p (here_of after.file) one.0) (sym source) one.1.1;
      knows = subst (λ (f : LexedFiles). KnowsTexts world f) (sym lexed) steps.knows;
      same =
          ap (λ (rest : List Piece). told_behind world behind (frames_of after) (run_rest world (frames_of after) rest one.0)) rest
          ∙ ap (λ (left : Vec Left Global). told_behind world behind (map frame_of left.items) (run_rest world (map frame_of left.items) (pieces_left reader.file) one.0)) around
          ∙ sym (ap (λ (s : PrepStep). told_behind world behind (frames_of reader) (and_then (λ after. run_rest world (frames_of reader) (pieces_left reader.file) after) s)) one.1.0)
          ∙ steps.same;
    }
turns-brings world behind reader after from step (Err (stop.Ended words)) source lexed around rest turns = λ whole steps.
    stopped world behind (frames_of reader) words after.kept.opened (and_then (λ after. run_rest world (frames_of reader) (pieces_left reader.file) after) (step steps.state))
    (stops-on (λ after. run_rest world (frames_of reader) (pieces_left reader.file) after) words after.kept.opened (step steps.state) (turns steps.state steps.shows))
    ∙ steps.same
turns-brings world behind reader after from step (Err stop.Fault) source lexed around rest turns = tt
turns-brings world behind reader after from step (Err stop.Memory) source lexed around rest turns = tt

-- ---- conditionals ----

-- the file goes on at another piece
pub goes-on-at : (world : World) (behind : After) (reader : Reader) (n : ℕ) →
    ((entering : Entering) (state : State) → run_flat world entering reading (pieces_left reader.file) state ≡ run_flat world entering reading (drop n reader.file.pieces) state) →
    (whole : Told) → RestLeadsTo world behind reader whole → RestLeadsTo world behind (record reader { file = record reader.file { next = n } }) whole
goes-on-at world behind reader n same whole left = record {
  state = left.state;
  shows = left.shows;
  knows = left.knows;
  same = sym (ap (λ (step : PrepStep). told_behind world behind (frames_of reader) step) (same (entering_at world (length (frames_of reader))) left.state)) ∙ left.same;
}

pub seeks-brings : (world : World) (behind : After) (reader : Reader) (new : Kept) (r : Result ℕ Stop) →
    Seeks reader.kept new reader.source (here_of reader.file) world reader.file.pieces (λ entering state. run_flat world entering reading (pieces_left reader.file) state) r →
    Brings (RestLeadsTo world behind reader) (record reader { kept = new }) (λ n whole. RestLeadsTo world behind (record reader { kept = new; file = record reader.file { next = n } }) whole) r
seeks-brings world behind reader new (Ok n) seeks = λ whole left.
    let one = seeks (entering_at world (length (frames_of reader))) left.state left.shows in
    record {
      state = one.0;
      shows = one.1.1;
      knows = left.knows;
      same = sym (ap (λ (step : PrepStep). told_behind world behind (frames_of reader) step) one.1.0) ∙ left.same;
    }
seeks-brings world behind reader new (Err (stop.Ended words)) seeks = λ whole left.
    stopped world behind (frames_of reader) words new.opened (run_rest world (frames_of reader) (pieces_left reader.file) left.state) (seeks (entering_at world (length (frames_of reader))) left.state left.shows) ∙ left.same
seeks-brings world behind reader new (Err stop.Fault) seeks = tt
seeks-brings world behind reader new (Err stop.Memory) seeks = tt

-- the line that opens a conditional
module _ (main : Path) (file : Here) (world : World) (pieces : List Piece) (line : ℕ) (p : Piece) (is : p ≡ get_or pieces line p) (below : line < length pieces) (role : role_of p ≡ opening) where
  opening-first : (entering : Entering) (state : State) →
      run_flat world entering reading (drop line pieces) state ≡ with_value (λ holds after. run_flat world entering (stage_of holds) (drop (line + 1) pieces) after) (piece_test world p state)
  opening-first entering state =
      ap (λ (ps : List Piece). run_flat world entering reading ps state) (drop_more pieces line p below ∙ ap (λ (q : Piece). q ∷ drop (line + 1) pieces) (sym is))
      ∙ at-role world entering p (drop (line + 1) pieces) state reading opening role

  pub opening-holds : (old new : Kept) → Leads old new main file (λ state. piece_test world p state) (Ok true) →
      Seeks old new main file world pieces (λ entering state. run_flat world entering reading (drop line pieces) state) (Ok (line + 1))
  opening-holds old new leads = λ entering state shows.
      let one = leads state shows in
      (one.0, (opening-first entering state ∙ ap (with_value (λ holds after. run_flat world entering (stage_of holds) (drop (line + 1) pieces) after)) one.1.0, one.1.1))

  pub opening-stops : (old new : Kept) (e : Stop) → Leads old new main file {A = Bool} (λ state. piece_test world p state) (Err e) →
      Seeks old new main file world pieces (λ entering state. run_flat world entering reading (drop line pieces) state) (Err e)
  opening-stops old new (stop.Ended words) leads = λ entering state shows.
      subst (λ (s : PrepStep). StopsWith words new.opened s) (sym (opening-first entering state))
      (ends-step (λ holds after. run_flat world entering (stage_of holds) (drop (line + 1) pieces) after) words new.opened (piece_test world p state) (leads state shows))
  opening-stops old new stop.Fault leads = tt
  opening-stops old new stop.Memory leads = tt

  pub opening-seeks : (old mid new : Kept) (r : Result ℕ Stop) → Leads old mid main file (λ state. piece_test world p state) (Ok false) →
      Seeks mid new main file world pieces (λ entering state. run_flat world entering (seeking 0) (drop (line + 1) pieces) state) r →
      Seeks old new main file world pieces (λ entering state. run_flat world entering reading (drop line pieces) state) r
  opening-seeks old mid new (Ok n) leads seeks = λ entering state shows.
      let one = leads state shows in
      let two = seeks entering one.0 one.1.1 in
      (two.0, (opening-first entering state ∙ ap (with_value (λ holds after. run_flat world entering (stage_of holds) (drop (line + 1) pieces) after)) one.1.0 ∙ two.1.0, two.1.1))
  opening-seeks old mid new (Err (stop.Ended words)) leads seeks = λ entering state shows.
      let one = leads state shows in
      subst (λ (s : PrepStep). StopsWith words new.opened s) (sym (opening-first entering state ∙ ap (with_value (λ holds after. run_flat world entering (stage_of holds) (drop (line + 1) pieces) after)) one.1.0))
      (seeks entering one.0 one.1.1)
  opening-seeks old mid new (Err stop.Fault) leads seeks = tt
  opening-seeks old mid new (Err stop.Memory) leads seeks = tt

-- a line that ends a group that was read
pub branch-first : (world : World) (entering : Entering) (pieces : List Piece) (line : ℕ) (r : Role) (state : State) → line < length pieces → ((p : Piece) → role_of (get_or pieces line p) ≡ r) →
    run_flat world entering reading (drop line pieces) state ≡ staged world entering (λ next after. run_flat world entering next (drop (line + 1) pieces) after) (get_or pieces line filler) state reading r
branch-first world entering pieces line r state below role =
    ap (λ (ps : List Piece). run_flat world entering reading ps state) (drop_more pieces line filler below)
    ∙ at-role world entering (get_or pieces line filler) (drop (line + 1) pieces) state reading r (role filler)

-- ---- an include ----

pub too-deep : {A : Type 0} (world : World) (behind : After) (reader : Reader) (at : ℕ) (inner : Hit) (after : A → Told → Type 0) (e : Stop) → 200 ≤ length reader.around.items →
    Refuses (record { place = spelled reader.file.visit.place; at = at; complaint = TooNested }) e → Brings (EntersTo world behind reader at inner) reader after (Err e)
too-deep world behind reader at inner after (stop.Ended words) deep told = λ whole enters_to.
    let past : 200 ≤ length (frames_of reader) = omega (arith, deep, length-map reader.around.items frame_of) in
    let nested = too-nested world (length (frames_of reader)) at inner enters_to.state past in
    stopped world behind (frames_of reader) words reader.kept.opened (and_then (λ s. run_rest world (frames_of reader) (pieces_left reader.file) s) (complain at TooNested enters_to.state))
    (told ∙ ap (λ (h : Here). diagnostic_text (record { place = spelled h.place; at = at; complaint = TooNested })) (sym enters_to.shows.here), enters_to.shows.opened)
    ∙ sym (ap (λ (step : PrepStep). told_behind world behind (frames_of reader) (and_then (λ s. run_rest world (frames_of reader) (pieces_left reader.file) s) step)) nested)
    ∙ enters_to.same
too-deep world behind reader at inner after stop.Fault deep told = absurd told
too-deep world behind reader at inner after stop.Memory deep told = tt

-- the step that enters a file, level by level
enter-step : (world : World) (behind : After) (reader : Reader) (at : ℕ) (inner : Hit) (whole : Told) → length reader.around.items < 200 → (enters_to : EntersTo world behind reader at inner whole) →
    told_behind world behind (frames_of reader) (and_then (λ s. run_rest world (frames_of reader) (pieces_left reader.file) s) (and_then (λ s. back_in (here_of reader.file) at s)
    (open_file world (entering_at world (suc (length (frames_of reader)))) (enter (presumed_name inner.0.place) ∷ []) inner enters_to.state))) ≡ whole
enter-step world behind reader at inner whole shallow enters_to =
    let below : length (frames_of reader) < 200 = omega (arith, shallow, length-map reader.around.items frame_of) in
    let opens = open_file world (entering_at world (suc (length (frames_of reader)))) (enter (presumed_name inner.0.place) ∷ []) inner enters_to.state in
    let behind_step = λ (step : PrepStep). told_behind world behind (frames_of reader) (and_then (λ s. run_rest world (frames_of reader) (pieces_left reader.file) s) step) in
    sym (ap (λ (h : Here). behind_step (and_then (λ s. back_in h at s) opens)) enters_to.shows.here)
    ∙ sym (ap behind_step (enters world (length (frames_of reader)) at inner enters_to.state below))
    ∙ enters_to.same

-- a reader that has gone into a file
inside : (world : World) (behind : After) (reader after : Reader) (at : ℕ) (inner : Hit) (pieces : List Piece) (state : State) (whole : Told) →
    GoesInto reader (opened_file inner pieces) at after → Shows reader.kept reader.source (here_at inner) state → KnowsTexts world reader.lexed →
    told_behind world behind (frames_of reader) (and_then (λ s. run_rest world (frames_of reader) (pieces_left reader.file) s) (and_then (λ s. back_in (here_of reader.file) at s) (run_flat world (entering_at world (suc (length (frames_of reader)))) reading pieces state))) ≡ whole →
    RestLeadsTo world behind after whole
inside world behind reader after at inner pieces state whole goes shows knows same =
    let left : Left = record { file = reader.file; at = at } in
    let frames : frames_of after ≡ frames_of reader ++ frame_of left ∷ [] = ap (map frame_of) goes.around ∙ map-append frame_of reader.around.items (left ∷ []) in
    let longer : length (frames_of reader ++ frame_of left ∷ []) ≡ suc (length (frames_of reader)) = omega (arith, length-append (frames_of reader) (frame_of left ∷ [])) in
    record {
      state = state;
      shows =
          subst (λ (h : Here). Shows after.kept after.source h state) (ap here_of (sym goes.file_is))
          (subst (λ (p : Path). Shows after.kept p (here_at inner) state) (sym goes.source) (subst (λ (k : Kept). Shows k reader.source (here_at inner) state) (sym goes.kept) shows));
      knows = subst (λ (f : LexedFiles). KnowsTexts world f) (sym goes.lexed) knows;
      same =
          ap (λ (file : OpenFile). told_behind world behind (frames_of after) (run_rest world (frames_of after) (pieces_left file) state)) goes.file_is
          ∙ ap (λ (fs : List Frame). told_behind world behind fs (run_rest world fs pieces state)) frames
          ∙ ap (λ (n : ℕ). told_behind world behind (frames_of reader ++ frame_of left ∷ []) (run_flat world (entering_at world n) reading pieces state)) longer
          ∙ behind-frame world behind (frames_of reader) (frame_of left) (run_flat world (entering_at world (suc (length (frames_of reader)))) reading pieces state)
          ∙ same;
    }

-- what is read of a file that is opened, where what was kept of the files before it is known
module _ (world : World) (behind : After) (reader : Reader) (new : Kept) (files : LexedFiles) (at : ℕ) (inner : Hit) (shallow : length reader.around.items < 200) (known : KnowsTexts world reader.lexed → KnowsTexts world files) where
  pub opens-brings : (r : Result (List Piece) Stop) →
      (KnowsTexts world reader.lexed → Opens reader.kept new reader.source world inner (λ entering state. open_file world entering (enter (presumed_name inner.0.place) ∷ []) inner state) r) →
      Brings (EntersTo world behind reader at inner) (record reader { kept = new; lexed = files }) (λ pieces whole. InsideTo world behind (record reader { kept = new; lexed = files }) at inner pieces whole) r
  opens-brings (Ok pieces) opens = λ whole enters_to after goes.
      let one = opens enters_to.knows (entering_at world (suc (length (frames_of reader)))) (here_of reader.file) enters_to.state enters_to.shows in
      inside world behind (record reader { kept = new; lexed = files }) after at inner pieces one.0 whole goes one.1.1 (known enters_to.knows)
      (sym (ap (λ (step : PrepStep). told_behind world behind (frames_of reader) (and_then (λ s. run_rest world (frames_of reader) (pieces_left reader.file) s) (and_then (λ s. back_in (here_of reader.file) at s) step))) one.1.0)
      ∙ enter-step world behind reader at inner whole shallow enters_to)
  opens-brings (Err (stop.Ended words)) opens = λ whole enters_to.
      let opening = open_file world (entering_at world (suc (length (frames_of reader)))) (enter (presumed_name inner.0.place) ∷ []) inner enters_to.state in
      let back = and_then (λ s. back_in (here_of reader.file) at s) opening in
      stopped world behind (frames_of reader) words new.opened (and_then (λ s. run_rest world (frames_of reader) (pieces_left reader.file) s) back)
      (stops-on (λ s. run_rest world (frames_of reader) (pieces_left reader.file) s) words new.opened back
      (stops-on (λ s. back_in (here_of reader.file) at s) words new.opened opening (opens enters_to.knows (entering_at world (suc (length (frames_of reader)))) (here_of reader.file) enters_to.state enters_to.shows)))
      ∙ enter-step world behind reader at inner whole shallow enters_to
  opens-brings (Err stop.Fault) opens = tt
  opens-brings (Err stop.Memory) opens = tt

-- ---- the end of a file ----

pub came-back : (world : World) (behind : After) (reader after : Reader) (outer : Left) (whole : Told) → length reader.file.pieces ≤ reader.file.next → reader.around.items ≡ after.around.items ++ outer ∷ [] →
    after.source ≡ reader.source → after.kept ≡ reader.kept → after.lexed ≡ reader.lexed → after.file ≡ outer.file →
    RestLeadsTo world behind reader whole → StepsTo world behind after (here_of reader.file) (λ state. back_in (here_of outer.file) outer.at state) whole
came-back world behind reader after outer whole ends around_is source kept lexed file left =
    let frames : frames_of reader ≡ frames_of after ++ frame_of outer ∷ [] = ap (map frame_of) around_is ∙ map-append frame_of after.around.items (outer ∷ []) in
    record {
      state = left.state;
      shows = subst (λ (p : Path). Shows after.kept p (here_of reader.file) left.state) (sym source) (subst (λ (k : Kept). Shows k reader.source (here_of reader.file) left.state) (sym kept) left.shows);
      knows = subst (λ (f : LexedFiles). KnowsTexts world f) (sym lexed) left.knows;
      same =
          ap (λ (f : OpenFile). told_behind world behind (frames_of after) (and_then (λ s. run_rest world (frames_of after) (pieces_left f) s) (back_in (here_of outer.file) outer.at left.state))) file
          ∙ sym (behind-frame world behind (frames_of after) (frame_of outer) (Go left.state))
          ∙ sym (ap (λ (fs : List Frame). told_behind world behind fs (Go left.state)) frames)
          ∙ sym (ap (λ (step : PrepStep). told_behind world behind (frames_of reader) step) (none-left world (frames_of reader) left.state))
          ∙ sym (ap (λ (rest : List Piece). told_behind world behind (frames_of reader) (run_rest world (frames_of reader) rest left.state)) (drop_all reader.file.next reader.file.pieces ends))
          ∙ left.same;
    }

-- ---- all files ----

alone-behind : (world : World) (behind : After) (reader : Reader) (state : State) → length reader.file.pieces ≤ reader.file.next → reader.around.items ≡ [] →
    told_behind world behind (frames_of reader) (run_rest world (frames_of reader) (pieces_left reader.file) state) ≡ told_of (behind state)
alone-behind world behind reader state ends alone =
    ap (λ (rest : List Piece). told_behind world behind (frames_of reader) (run_rest world (frames_of reader) rest state)) (drop_all reader.file.next reader.file.pieces ends)
    ∙ ap (λ (step : PrepStep). told_behind world behind (frames_of reader) step) (none-left world (frames_of reader) state)
    ∙ ap (λ (items : List Left). told_behind world behind (map frame_of items) (Go state)) alone
    ∙ at-end world behind (Go state)

pub all-read : (world : World) (behind : After) (reader : Reader) (whole : Told) → AllRead reader → RestLeadsTo world behind reader whole → ComesTo world behind reader whole
all-read world behind reader whole read left = record {
  state = left.state;
  shows = left.shows;
  knows = left.knows;
  same = sym (alone-behind world behind reader left.state read.ended read.alone) ∙ left.same;
}

-- ---- a file of the job's words ----

-- what a name of the job's words does
abbrev pub named_step : World → Text → Entering → State → PrepStep
named_step world name entering state = found_file world entering 0 false name state (world.find (forced_ask name))

-- the files of a name and of the names behind it
named-first : (world : World) (source : Hit) (name : Text) (names : List Text) (state : State) →
    told_of (source_behind world source (name ∷ names) state) ≡ told_of (and_then (λ after. source_behind world source names after) (named_step world name (enter_file world include_depth_limit) state))
unfolding run_forced
named-first world source name names state =
    ap told_of (then-then (λ after. run_forced world (enter_file world include_depth_limit) names after) (λ after. open_source world source after) (named_step world name (enter_file world include_depth_limit) state))

pub named-brings : (world : World) (source : Hit) (name : Text) (names : List Text) (reader : Reader) (new : Kept) (r : Result (Option Hit) Stop) → AllRead reader →
    Includes reader.kept new reader.source (here_of reader.file) 0 (λ entering state. named_step world name entering state) r →
    Brings (ComesTo world (source_behind world source (name ∷ names)) reader) (record reader { kept = new }) (λ found whole. NamedTo world source names (record reader { kept = new }) found whole) r
named-brings world source name names reader new (Ok None) read includes = λ whole comes.
    let one = includes (enter_file world include_depth_limit) comes.state comes.shows in
    record {
      state = one.0;
      shows = one.1.1;
      knows = comes.knows;
      same = sym (ap (λ (step : PrepStep). told_of (and_then (λ after. source_behind world source names after) step)) one.1.0) ∙ sym (named-first world source name names comes.state) ∙ comes.same;
    }
named-brings world source name names reader new (Ok (Some hit)) read includes = λ whole comes.
    let one = includes (enter_file world include_depth_limit) comes.state comes.shows in
    let behind : After = source_behind world source names in
    record {
      state = one.0;
      shows = one.1.1;
      knows = comes.knows;
      same =
          ap (λ (items : List Left). told_behind world behind (map frame_of items) (and_then (λ s. run_rest world (map frame_of items) (pieces_left reader.file) s) (entering_at world (length (map frame_of items)) 0 hit one.0))) read.alone
          ∙ at-end world behind (and_then (λ s. run_rest world [] (pieces_left reader.file) s) (entering_at world 0 0 hit one.0))
          ∙ ap (λ (rest : List Piece). told_of (and_then behind (and_then (λ s. run_rest world [] rest s) (entering_at world 0 0 hit one.0)))) (drop_all reader.file.next reader.file.pieces read.ended)
          ∙ ap (λ (step : PrepStep). told_of (and_then behind step)) (then-nothing world (entering_at world 0 0 hit one.0))
          ∙ sym (ap (λ (step : PrepStep). told_of (and_then behind step)) one.1.0)
          ∙ sym (named-first world source name names comes.state)
          ∙ comes.same;
    }
  where
    then-nothing : (world : World) (step : PrepStep) → and_then (λ s. run_rest world [] [] s) step ≡ step
    then-nothing world (Go state) = none-left world [] state
    then-nothing world (Stopped d state) = refl
named-brings world source name names reader new (Err (stop.Ended words)) read includes = λ whole comes.
    stopped-at-once words new.opened (and_then (λ after. source_behind world source names after) (named_step world name (enter_file world include_depth_limit) comes.state))
    (stops-on (λ after. source_behind world source names after) words new.opened (named_step world name (enter_file world include_depth_limit) comes.state) (includes (enter_file world include_depth_limit) comes.state comes.shows))
    ∙ sym (named-first world source name names comes.state) ∙ comes.same
named-brings world source name names reader new (Err stop.Fault) read includes = tt
named-brings world source name names reader new (Err stop.Memory) read includes = tt

-- the next name of the job's words
pub next-name : (world : World) (source : Hit) (forced : List Text) (i : ℕ) (item name : Text) (reader : Reader) (whole : Told) → i < length forced → item ≡ get_or forced i item → name ≡ item →
    ComesTo world (source_behind world source (drop i forced)) reader whole → ComesTo world (source_behind world source (name ∷ drop (i + 1) forced)) reader whole
next-name world source forced i item name reader whole below at same comes =
    let names : drop i forced ≡ name ∷ drop (i + 1) forced = drop_more forced i item below ∙ ap (λ (n : Text). n ∷ drop (i + 1) forced) (sym (same ∙ at)) in
    record {
      state = comes.state;
      shows = comes.shows;
      knows = comes.knows;
      same = sym (ap (λ (ns : List Text). told_of (source_behind world source ns comes.state)) names) ∙ comes.same;
    }

-- ---- the source ----

source-next : (world : World) (source : Hit) (state : State) → told_of (source_behind world source [] state) ≡ told_of (open_file world (enter_file world include_depth_limit) [] source state)
unfolding run_forced
source-next world source state = refl

module _ (world : World) (source : Hit) (reader : Reader) (new : Kept) (files : LexedFiles) (read : AllRead reader) (known : KnowsTexts world reader.lexed → KnowsTexts world files) where
  pub source-brings : (r : Result (List Piece) Stop) →
      (KnowsTexts world reader.lexed → Opens reader.kept new reader.source world source (λ entering state. open_file world entering [] source state) r) →
      Brings (ComesTo world (source_behind world source []) reader) (record reader { kept = new; lexed = files }) (λ pieces whole. RestLeadsTo world (λ state. Go state) (record reader { kept = new; lexed = files; file = opened_file source pieces }) whole) r
  source-brings (Ok pieces) opens = λ whole comes.
      let one = opens comes.knows (enter_file world include_depth_limit) (here_of reader.file) comes.state comes.shows in
      record {
        state = one.0;
        shows = one.1.1;
        knows = known comes.knows;
        same =
            ap (λ (items : List Left). told_behind world (λ state. Go state) (map frame_of items) (run_rest world (map frame_of items) pieces one.0)) read.alone
            ∙ at-end world (λ state. Go state) (run_rest world [] pieces one.0)
            ∙ ap told_of (then-go (run_rest world [] pieces one.0))
            ∙ sym (ap told_of one.1.0)
            ∙ sym (source-next world source comes.state)
            ∙ comes.same;
      }
  source-brings (Err (stop.Ended words)) opens = λ whole comes.
      stopped-at-once words new.opened (open_file world (enter_file world include_depth_limit) [] source comes.state) (opens comes.knows (enter_file world include_depth_limit) (here_of reader.file) comes.state comes.shows)
      ∙ sym (source-next world source comes.state) ∙ comes.same
  source-brings (Err stop.Fault) opens = tt
  source-brings (Err stop.Memory) opens = tt

-- ---- the work ahead ----

-- with no more work left, at a later piece
pub less-here : (before after : Reader) → after.kept.work.left ≤ before.kept.work.left → after.around ≡ before.around → after.file.pieces ≡ before.file.pieces → before.file.next < after.file.next → before.file.next < length before.file.pieces →
    work_ahead after < work_ahead before
less-here before after spent around pieces later below =
    let shorter : suc (length (drop after.file.next before.file.pieces)) ≤ length (drop before.file.next before.file.pieces) =
    omega (arith, length-drop before.file.next before.file.pieces, length-drop after.file.next before.file.pieces, later, below) in
    rw (around, pieces) (omega (arith, spent, shorter))

-- in a file that was entered
pub less-inside : (before reader after : Reader) (at : ℕ) (inner : Hit) (pieces : List Piece) → length pieces + 1 + (reader.kept.work.left + reader.kept.work.left) ≤ before.kept.work.left + before.kept.work.left →
    reader.file ≡ before.file → reader.around ≡ before.around → GoesInto reader (opened_file inner pieces) at after → work_ahead after < suc (work_ahead before)
less-inside before reader after at inner pieces paid same_file same_around goes =
    let weight : Left → ℕ = λ left. length (pieces_left left.file) + 1 in
    let pushed = sum_by_push weight reader.around.items (record { file = reader.file; at = at }) in
    rw (goes.kept, goes.file_is, goes.around, pushed, same_file, same_around) (omega (arith, paid))
