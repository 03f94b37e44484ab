-- Includes, by what is kept before and behind them.
use Rattle.std.proofs.Common.{◌≡◌, ℕ, Bool, true, false, Option, None, Some, Result, Ok, Err, refl, sym, ◌∙◌, ap, subst}
use Rattle.std.specs.List.{list_any}
use Rattle.directive_scan.specs.declared.HeaderName.{HeaderName}
use Rattle.directive_scan.specs.declared.Target.{Target}
use Rattle.directive_scan.specs.declared.Target.TheVariants.{Plain}
use Rattle.tree_model.specs.Paths.{Text, Path, spelled, is_same_path}
use Rattle.search_path.specs.declared.asking.Ask.{Ask}
use Rattle.search_path.specs.Asks.{header_ask, forced_ask}
use Rattle.search_path.specs.Search.{Hit}
use Rattle.daemon_cpp.specs.declared.kept.Kept.{Kept}
use Rattle.daemon_cpp.specs.declared.stop.Stop.{Stop}
use Rattle.daemon_cpp.specs.declared.stop.Stop.TheVariants as stop
use Rattle.daemon_cpp.specs.Diagnostics.{Diagnostic, Complaint}
use Rattle.daemon_cpp.specs.Prep.{World, Here, State, PrepStep, Stop as Stopped, Reached, Gives, Entering, with_value, visit_of, touch, at_line, header_reached, unless_marked, found_file, include_named}
use Rattle.daemon_cpp.specs.parts.Showing.{Shows, StopsWith, Refuses, Leads, Includes, entered_unless, TellsNothing}
use Rattle.daemon_cpp.proofs.Steps.{leads-gives, ends-step, at-line}

-- a header name as it is written
pub plain-header : (kept : Kept) (main : Path) (file : Here) (at : ℕ) (target : Target) (header copy : HeaderName) → target ≡ Plain header → copy ≡ header →
    Leads kept kept main file (λ state. header_reached at target state) (Ok (Some copy))
plain-header kept main file at target header copy is same =
    leads-gives kept main file (λ state. header_reached at target state) (Some copy)
    (λ state shows. ap (λ (t : Target). header_reached at t state) is ∙ ap (λ (h : HeaderName). Gives (Some h) state) (sym same))

-- another way to say what is included
pub includes-same : (old new : Kept) (main : Path) (file : Here) (at : ℕ) (f g : Entering → State → PrepStep) (r : Result (Option Hit) Stop) →
    ((entering : Entering) (state : State) → Shows old main file state → g entering state ≡ f entering state) →
    Includes old new main file at f r → Includes old new main file at g r
includes-same old new main file at f g (Ok None) same includes = λ entering state shows.
    let one = includes entering state shows in
    (one.0, (same entering state shows ∙ one.1.0, one.1.1))
includes-same old new main file at f g (Ok (Some hit)) same includes = λ entering state shows.
    let one = includes entering state shows in
    (one.0, (same entering state shows ∙ one.1.0, one.1.1))
includes-same old new main file at f g (Err (stop.Ended words)) same includes = λ entering state shows.
    subst (λ s. StopsWith words new.opened s) (sym (same entering state shows)) (includes entering state shows)
includes-same old new main file at f g (Err stop.Fault) same includes = tt
includes-same old new main file at f g (Err stop.Memory) same includes = tt

-- a diagnostic at once
pub includes-refuse : (old : Kept) (main : Path) (file : Here) (at : ℕ) (f : Entering → State → PrepStep) (d : Diagnostic) (e : Stop) →
    ((entering : Entering) (state : State) → Shows old main file state → f entering state ≡ Stopped d state) → Refuses d e → Includes old old main file at f (Err e)
includes-refuse old main file at f d (stop.Ended words) same told = λ entering state shows.
    subst (λ s. StopsWith words old.opened s) (sym (same entering state shows)) (told, shows.opened)
includes-refuse old main file at f d stop.Fault same told = absurd told
includes-refuse old main file at f d stop.Memory same told = tt

-- one at a line of the file that is read
pub includes-complain : (old : Kept) (main : Path) (file : Here) (at : ℕ) (f : Entering → State → PrepStep) (complaint : Complaint) (e : Stop) →
    ((entering : Entering) (state : State) → f entering state ≡ Stopped (at_line at complaint state) state) →
    Refuses (record { place = spelled file.place; at = at; complaint = complaint }) e → Includes old old main file at f (Err e)
includes-complain old main file at f complaint e same told =
    includes-refuse old main file at f (record { place = spelled file.place; at = at; complaint = complaint }) e
    (λ entering state shows. same entering state ∙ ap (λ (d : Diagnostic). Stopped d state) (at-line old main file at complaint state shows))
    told

-- a search that gave no answer
pub includes-silent : (old new : Kept) (main : Path) (file : Here) (at : ℕ) (f : Entering → State → PrepStep) (e : Stop) → TellsNothing e → Includes old new main file at f (Err e)
includes-silent old new main file at f (stop.Ended words) silent = absurd silent
includes-silent old new main file at f stop.Fault silent = tt
includes-silent old new main file at f stop.Memory silent = tt

-- a value, and the include that follows it
pub includes-then : {A : Type 0} (old mid new : Kept) (main : Path) (file : Here) (at : ℕ) (f : State → Reached A) (g : A → Entering → State → PrepStep) (x : A) (r : Result (Option Hit) Stop) →
    Leads old mid main file f (Ok x) → Includes mid new main file at (g x) r →
    Includes old new main file at (λ entering state. with_value (λ y after. g y entering after) (f state)) r
includes-then old mid new main file at f g x (Ok None) first next = λ entering state shows.
    let one = first state shows in
    let two = next entering one.0 one.1.1 in
    (two.0, (ap (with_value (λ y after. g y entering after)) one.1.0 ∙ two.1.0, two.1.1))
includes-then old mid new main file at f g x (Ok (Some hit)) first next = λ entering state shows.
    let one = first state shows in
    let two = next entering one.0 one.1.1 in
    (two.0, (ap (with_value (λ y after. g y entering after)) one.1.0 ∙ two.1.0, two.1.1))
includes-then old mid new main file at f g x (Err (stop.Ended words)) first next = λ entering state shows.
    let one = first state shows in
    subst (λ s. StopsWith words new.opened s) (sym (ap (with_value (λ y after. g y entering after)) one.1.0)) (next entering one.0 one.1.1)
includes-then old mid new main file at f g x (Err stop.Fault) first next = tt
includes-then old mid new main file at f g x (Err stop.Memory) first next = tt

pub includes-stop : {A : Type 0} (old new : Kept) (main : Path) (file : Here) (at : ℕ) (f : State → Reached A) (g : A → Entering → State → PrepStep) (e : Stop) →
    Leads old new main file f (Err e) → Includes old new main file at (λ entering state. with_value (λ y after. g y entering after) (f state)) (Err e)
includes-stop old new main file at f g (stop.Ended words) first = λ entering state shows.
    ends-step (λ y after. g y entering after) words new.opened (f state) (first state shows)
includes-stop old new main file at f g stop.Fault first = tt
includes-stop old new main file at f g stop.Memory first = tt

-- the search of a name isn't seen in what is kept
touched : (kept : Kept) (main : Path) (file : Here) (hit : Hit) (state : State) → Shows kept main file state → Shows kept main file (touch hit.1 state)
touched kept main file hit state shows = record {
  source = shows.source;
  output = shows.output;
  within = shows.within;
  left = shows.left;
  opened = shows.opened;
  macros = shows.macros;
  once = shows.once;
  here = shows.here;
}

-- a file that was found
pub includes-found : (kept : Kept) (main : Path) (file : Here) (at : ℕ) (world : World) (angle : Bool) (name : Text) (found : Option Hit) (hit : Hit) (r : Option Hit) →
    found ≡ Some hit → r ≡ entered_unless (list_any (is_same_path hit.1.real) kept.once) hit →
    Includes kept kept main file at (λ entering state. found_file world entering at angle name state found) (Ok r)
includes-found kept main file at world angle name found hit r is entered =
    subst (λ (o : Option Hit). Includes kept kept main file at (λ entering state. found_file world entering at angle name state found) (Ok o)) (sym entered)
    (includes-same kept kept main file at
    (λ entering state. unless_marked world entering (list_any (is_same_path hit.1.real) kept.once) at hit (touch hit.1 state))
    (λ entering state. found_file world entering at angle name state found)
    (Ok (entered_unless (list_any (is_same_path hit.1.real) kept.once) hit))
    (λ entering state shows. ap (λ (o : Option Hit). found_file world entering at angle name state o) is
    ∙ ap (λ (b : Bool). unless_marked world entering b at hit (touch hit.1 state)) (shows.once hit.1.real))
    (go (list_any (is_same_path hit.1.real) kept.once)))
  where
    go : (marked : Bool) → Includes kept kept main file at (λ entering state. unless_marked world entering marked at hit (touch hit.1 state)) (Ok (entered_unless marked hit))
    go true = λ entering state shows. (touch hit.1 state, (refl, touched kept main file hit state shows))
    go false = λ entering state shows. (touch hit.1 state, (refl, touched kept main file hit state shows))

-- a header name that was searched
pub includes-header : (kept : Kept) (main : Path) (file : Here) (at : ℕ) (world : World) (next : Bool) (header : HeaderName) (name : Text) (ask : Ask) (found : Option Hit) (r : Result (Option Hit) Stop) →
    name ≡ header.name → ask ≡ header_ask (visit_of file) next header.angle name → world.find ask ≡ found →
    Includes kept kept main file at (λ entering state. found_file world entering at header.angle name state found) r →
    Includes kept kept main file at (λ entering state. include_named world entering next at (Some header) state) r
includes-header kept main file at world next header name ask found r spelling is search includes =
    includes-same kept kept main file at
    (λ entering state. found_file world entering at header.angle name state found)
    (λ entering state. include_named world entering next at (Some header) state)
    r
    (λ entering state shows.
    ap (λ (h : Here). found_file world entering at header.angle header.name state (world.find (header_ask (visit_of h) next header.angle header.name))) shows.here
    ∙ ap (λ (n : Text). found_file world entering at header.angle n state (world.find (header_ask (visit_of file) next header.angle n))) (sym spelling)
    ∙ ap (λ (a : Ask). found_file world entering at header.angle name state (world.find a)) (sym is)
    ∙ ap (λ (o : Option Hit). found_file world entering at header.angle name state o) search)
    includes

-- a name that was searched as a forced one
pub includes-forced : (kept : Kept) (main : Path) (file : Here) (world : World) (name : Text) (ask : Ask) (found : Option Hit) (r : Result (Option Hit) Stop) →
    ask ≡ forced_ask name → world.find ask ≡ found →
    Includes kept kept main file 0 (λ entering state. found_file world entering 0 false name state found) r →
    Includes kept kept main file 0 (λ entering state. found_file world entering 0 false name state (world.find (forced_ask name))) r
includes-forced kept main file world name ask found r is search includes =
    includes-same kept kept main file 0
    (λ entering state. found_file world entering 0 false name state found)
    (λ entering state. found_file world entering 0 false name state (world.find (forced_ask name)))
    r
    (λ entering state shows.
    ap (λ (a : Ask). found_file world entering 0 false name state (world.find a)) (sym is)
    ∙ ap (λ (o : Option Hit). found_file world entering 0 false name state o) search)
    includes
