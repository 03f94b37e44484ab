-- Steps one after another, by what is kept before and behind them.
use Rattle.std.proofs.Common.{◌≡◌, ℕ, List, Result, Ok, Err, sym, ◌∙◌, ap, subst}
use Rattle.tree_model.specs.Paths.{Text, Path, spelled}
use Rattle.daemon_cpp.specs.declared.kept.Kept.{Kept}
use Rattle.daemon_cpp.specs.declared.stop.Stop.{Stop}
use Rattle.daemon_cpp.specs.declared.stop.Stop.TheVariants as stop
use Rattle.daemon_cpp.specs.Diagnostics.{Complaint, Diagnostic}
use Rattle.daemon_cpp.specs.Prep.{Here, State, PrepStep, Go, Stop as Stopped, Reached, Gives, Ends, reach, with_value, and_then, at_line, of_job}
use Rattle.daemon_cpp.specs.parts.Showing.{Shows, IsNotReached, StopsWith, Refuses, Leads, Goes}

-- a diagnostic at a line of the file that is read, and at the source as a whole
pub at-line : (kept : Kept) (main : Path) (file : Here) (at : ℕ) (complaint : Complaint) (state : State) → Shows kept main file state →
    at_line at complaint state ≡ record { place = spelled file.place; at = at; complaint = complaint }
at-line kept main file at complaint state shows = ap (λ (h : Here). record { place = spelled h.place; at = at; complaint = complaint }) shows.here

pub of-job : (kept : Kept) (main : Path) (file : Here) (complaint : Complaint) (state : State) → Shows kept main file state →
    of_job complaint state ≡ record { place = spelled main; at = 0; complaint = complaint }
of-job kept main file complaint state shows = ap (λ (p : Path). record { place = spelled p; at = 0; complaint = complaint }) shows.source

-- an end stays an end
pub ends-on : {A B : Type 0} (g : A → State → Reached B) (words : Text) (opened : List Path) (r : Reached A) → IsNotReached words opened r → IsNotReached words opened (reach g r)
ends-on g words opened (Gives x state) ends = absurd ends
ends-on g words opened (Ends d state) ends = ends

pub ends-step : {A : Type 0} (g : A → State → PrepStep) (words : Text) (opened : List Path) (r : Reached A) → IsNotReached words opened r → StopsWith words opened (with_value g r)
ends-step g words opened (Gives x state) ends = absurd ends
ends-step g words opened (Ends d state) ends = ends

pub stops-on : (g : State → PrepStep) (words : Text) (opened : List Path) (step : PrepStep) → StopsWith words opened step → StopsWith words opened (and_then g step)
stops-on g words opened (Go state) ends = absurd ends
stops-on g words opened (Stopped d state) ends = ends

-- ---- values ----

-- a value that is there at once
pub leads-gives : {A : Type 0} (old : Kept) (main : Path) (file : Here) (f : State → Reached A) (x : A) →
    ((state : State) → Shows old main file state → f state ≡ Gives x state) → Leads old old main file f (Ok x)
leads-gives old main file f x same state shows = (state, (same state shows, shows))

-- a diagnostic at once
pub leads-refuse : {A : Type 0} (old : Kept) (main : Path) (file : Here) (f : State → Reached A) (d : Diagnostic) (e : Stop) →
    ((state : State) → Shows old main file state → f state ≡ Ends d state) → Refuses d e → Leads old old main file f (Err e)
leads-refuse old main file f d (stop.Ended words) same told = λ state shows. subst (λ r. IsNotReached words old.opened r) (sym (same state shows)) (told, shows.opened)
leads-refuse old main file f d stop.Fault same told = absurd told
leads-refuse old main file f d stop.Memory same told = tt

-- a value, and what follows it
pub leads-then : {A B : Type 0} (old mid new : Kept) (main : Path) (file : Here) (f : State → Reached A) (g : A → State → Reached B) (x : A) (r : Result B Stop) →
    Leads old mid main file f (Ok x) → Leads mid new main file (g x) r → Leads old new main file (λ state. reach g (f state)) r
leads-then old mid new main file f g x (Ok y) first next = λ state shows.
    let one = first state shows in
    let two = next one.0 one.1.1 in
    (two.0, (ap (reach g) one.1.0 ∙ two.1.0, two.1.1))
leads-then old mid new main file f g x (Err (stop.Ended words)) first next = λ state shows.
    let one = first state shows in
    subst (λ r. IsNotReached words new.opened r) (sym (ap (reach g) one.1.0)) (next one.0 one.1.1)
leads-then old mid new main file f g x (Err stop.Fault) first next = tt
leads-then old mid new main file f g x (Err stop.Memory) first next = tt

-- where a value isn't reached, nothing follows
pub leads-stop : {A B : Type 0} (old new : Kept) (main : Path) (file : Here) (f : State → Reached A) (g : A → State → Reached B) (e : Stop) →
    Leads old new main file f (Err e) → Leads old new main file (λ state. reach g (f state)) (Err e)
leads-stop old new main file f g (stop.Ended words) first = λ state shows. ends-on g words new.opened (f state) (first state shows)
leads-stop old new main file f g stop.Fault first = tt
leads-stop old new main file f g stop.Memory first = tt

-- another way to say what is reached
pub leads-same : {A : Type 0} (old new : Kept) (main : Path) (file : Here) (f g : State → Reached A) (r : Result A Stop) →
    ((state : State) → Shows old main file state → g state ≡ f state) → Leads old new main file f r → Leads old new main file g r
leads-same old new main file f g (Ok x) same leads = λ state shows.
    let one = leads state shows in
    (one.0, (same state shows ∙ one.1.0, one.1.1))
leads-same old new main file f g (Err (stop.Ended words)) same leads = λ state shows. subst (λ r. IsNotReached words new.opened r) (sym (same state shows)) (leads state shows)
leads-same old new main file f g (Err stop.Fault) same leads = tt
leads-same old new main file f g (Err stop.Memory) same leads = tt

-- ---- steps ----

pub goes-refuse : (A : Type 0) (old : Kept) (main : Path) (file : Here) (f : State → PrepStep) (d : Diagnostic) (e : Stop) →
    ((state : State) → Shows old main file state → f state ≡ Stopped d state) → Refuses d e → Goes old old main file {A = A} f (Err e)
goes-refuse A old main file f d (stop.Ended words) same told = λ state shows. subst (λ r. StopsWith words old.opened r) (sym (same state shows)) (told, shows.opened)
goes-refuse A old main file f d stop.Fault same told = absurd told
goes-refuse A old main file f d stop.Memory same told = tt

-- a value, and the step that follows it
pub goes-then : {A B : Type 0} (old mid new : Kept) (main : Path) (file : Here) (f : State → Reached A) (g : A → State → PrepStep) (x : A) (r : Result B Stop) →
    Leads old mid main file f (Ok x) → Goes mid new main file (g x) r → Goes old new main file (λ state. with_value g (f state)) r
goes-then old mid new main file f g x (Ok y) first next = λ state shows.
    let one = first state shows in
    let two = next one.0 one.1.1 in
    (two.0, (ap (with_value g) one.1.0 ∙ two.1.0, two.1.1))
goes-then old mid new main file f g x (Err (stop.Ended words)) first next = λ state shows.
    let one = first state shows in
    subst (λ r. StopsWith words new.opened r) (sym (ap (with_value g) one.1.0)) (next one.0 one.1.1)
goes-then old mid new main file f g x (Err stop.Fault) first next = tt
goes-then old mid new main file f g x (Err stop.Memory) first next = tt

pub goes-stop : {A : Type 0} (B : Type 0) (old new : Kept) (main : Path) (file : Here) (f : State → Reached A) (g : A → State → PrepStep) (e : Stop) →
    Leads old new main file f (Err e) → Goes old new main file {A = B} (λ state. with_value g (f state)) (Err e)
goes-stop B old new main file f g (stop.Ended words) first = λ state shows. ends-step g words new.opened (f state) (first state shows)
goes-stop B old new main file f g stop.Fault first = tt
goes-stop B old new main file f g stop.Memory first = tt
