-- Conditions: what their steps lead to.
use Rattle.std.specs.Prelude.{IfOk, IfErr, is_some, map, codes, ◌++◌}
use Rattle.std.proofs.Common.{◌≡◌, ◌≤◌, length, get_or, arith, ℕ, Bool, false, List, [], ◌∷◌, Option, None, Some, Result, Ok, Err, refl, sym, ◌∙◌, ap, subst, append_assoc}
use Rattle.std.specs.List.{list_any}
use Rattle.std.proofs.lemmas.List.{append-nil}
use Rattle.pp_tokens.specs.declared.Token.{Token}
use Rattle.pp_tokens.specs.Marks.{is_word}
use Rattle.macro_defs.specs.Table.{lookup}
use Rattle.directive_scan.specs.declared.HeaderName.{HeaderName}
use Rattle.directive_scan.specs.declared.Target.{Target}
use Rattle.directive_scan.specs.declared.Directive.{Directive}
use Rattle.directive_scan.specs.declared.Piece.{Piece}
use Rattle.directive_scan.specs.declared.Piece.TheVariants.{Line}
use Rattle.directive_scan.specs.declared.ConditionPart.{ConditionPart}
use Rattle.directive_scan.specs.declared.ConditionPart.TheVariants.{Written, Probe}
use Rattle.directive_scan.specs.Operands.{parts_of}
use Rattle.macro_expand.specs.Asking as failure
use Rattle.macro_expand.specs.Asking.{Failure}
use Rattle.macro_expand.specs.declared.outcome.ExpandError.{ExpandError}
use Rattle.macro_expand.specs.declared.outcome.ExpandError.TheVariants as expand_error
use Rattle.macro_expand.specs.declared.outcome.Mode.TheVariants.{Condition}
use Rattle.macro_expand.specs.declared.outcome.Work.{Work as WorkLeft}
use Rattle.macro_expand.specs.Expansion.{Expanded, expanded_by}
use Rattle.macro_expand.specs.Replacement.{unmarked}
use Rattle.macro_expand.specs.Seen.{place_of, ReportsResult}
use Rattle.macro_expand.specs.Stream.{given}
use Rattle.daemon_cpp.specs.declared.kept.Places.{Places}
use Rattle.daemon_cpp.specs.parts.Controlling.{LineSoFar, at_first, with_tokens, read_from, judged}
use Rattle.daemon_cpp.proofs.Texts.{shown-expansion}
use Rattle.daemon_cpp.proofs.Judged.{whole-said}
use Rattle.search_path.specs.Asks.{header_ask}
use Rattle.search_path.specs.Search.{Hit}
use Rattle.tree_model.specs.Paths.{Text, Path, spelled}
use Rattle.tree_model.specs.declared.walk.Located.{Located}
use Rattle.daemon_cpp.specs.declared.kept.Kept.{Kept}
use Rattle.daemon_cpp.specs.declared.stop.Stop.{Stop}
use Rattle.daemon_cpp.specs.declared.stop.Stop.TheVariants as stop
use Rattle.daemon_cpp.specs.Diagnostics.{Complaint, Diagnostic, WrongCount, UnendedCall, BadPaste, DeepArguments, WorkLimit}
use Rattle.daemon_cpp.specs.Prep.{World, Here, State, Reached, Gives, Ends, reach, refuse, touch, visit_of, is_defined, with_defined, tokens_of, expand_line, line_expanded, failure_at, defined_answered, expanded_condition, answered_condition, probed, probe_named, probe, answer_parts, parts_condition, condition, name_condition, directive_test, piece_test, answer_token}
use Rattle.daemon_cpp.specs.parts.Showing.{Shows, here_seen, failure_told, TellsError, IsNotReached, Leads, Refuses, TellsNothing, part_answered, answers_behind, Continues}
use Rattle.daemon_cpp.proofs.Steps.{at-line, of-job, leads-gives, leads-refuse, leads-then, leads-stop, leads-same}

-- a diagnostic at a line of the file that is read
pub refused-leads : {A : Type 0} (old : Kept) (main : Path) (file : Here) (f : State → Reached A) (at : ℕ) (complaint : Complaint) (e : Stop) →
    ((state : State) → f state ≡ refuse at complaint state) → Refuses (record { place = spelled file.place; at = at; complaint = complaint }) e → Leads old old main file f (Err e)
refused-leads old main file f at complaint e same told =
    leads-refuse old main file f (record { place = spelled file.place; at = at; complaint = complaint }) e
    (λ state shows. same state ∙ ap (λ (d : Diagnostic). Ends d state) (at-line old main file at complaint state shows)) told

-- a value, and what follows it, by the result that has the value
pub then-leads : {A B : Type 0} (old mid new : Kept) (main : Path) (file : Here) (f : State → Reached A) (g : A → State → Reached B) (r : Result A Stop) (x : A) (s : Result B Stop) →
    r ≡ Ok x → Leads old mid main file f r → Leads mid new main file (g x) s → Leads old new main file (λ state. reach g (f state)) s
then-leads old mid new main file f g r x s is first next = leads-then old mid new main file f g x s (subst (λ q. Leads old mid main file f q) is first) next

-- the first token of an ifdef's line
pub first-leads : (kept : Kept) (main : Path) (file : Here) (at : ℕ) (wanted : Bool) (tokens others : List Token) (name : Token) (r : Result Bool Stop) → tokens ≡ name ∷ others →
    ((others : List Token) → Leads kept kept main file (λ state. name_condition at wanted (name ∷ others) state) r) → Leads kept kept main file (λ state. name_condition at wanted tokens state) r
first-leads kept main file at wanted tokens others name r is leads = subst (λ (ts : List Token). Leads kept kept main file (λ state. name_condition at wanted ts state) r) (sym is) (leads others)

-- ---- an operand ----

touched-shows : (kept : Kept) (main : Path) (file : Here) (located : Located) (state : State) → Shows kept main file state → Shows kept main file (touch located state)
touched-shows kept main file located state shows = record {
  source = shows.source;
  output = shows.output;
  within = shows.within;
  left = shows.left;
  opened = shows.opened;
  macros = shows.macros;
  once = shows.once;
  here = shows.here;
}

probed-shows : (kept : Kept) (main : Path) (file : Here) (found : Option Hit) (b : Bool) → b ≡ is_some found → (state : State) → Shows kept main file state →
    (after : State) × ((probed found state ≡ Gives b after) × Shows kept main file after)
probed-shows kept main file None b is state shows = (state, (ap (λ (x : Bool). Gives x state) (sym is), shows))
probed-shows kept main file (Some hit) b is state shows = (touch hit.1 state, (ap (λ (x : Bool). Gives x (touch hit.1 state)) (sym is), touched-shows kept main file hit.1 state shows))

-- whether the file of a header's name is found
pub named-leads : (world : World) (kept : Kept) (main : Path) (file : Here) (at : ℕ) (header : HeaderName) (r : Result Bool Stop) →
    IfOk r (λ found. found ≡ is_some (world.find (header_ask (visit_of file) false header.angle header.name))) → IfErr r TellsNothing →
    Leads kept kept main file (λ state. probe_named world at (Some header) state) r
named-leads world kept main file at header (Ok found) is untold = λ state shows.
    let one = probed-shows kept main file (world.find (header_ask (visit_of file) false header.angle header.name)) found is state shows in
    (one.0, (ap (λ (h : Here). probed (world.find (header_ask (visit_of h) false header.angle header.name)) state) shows.here ∙ one.1.0, one.1.1))
named-leads world kept main file at header (Err (stop.Ended words)) is untold = absurd untold
named-leads world kept main file at header (Err stop.Fault) is untold = tt
named-leads world kept main file at header (Err stop.Memory) is untold = tt

-- ---- the parts of a line ----

-- the answer in the place of a `__has_include`
pub probe-answered : (world : World) (old new : Kept) (main : Path) (file : Here) (at : ℕ) (part : ConditionPart) (name token : Token) (target : Target) (found : Bool) →
    part ≡ Probe name target → token ≡ answer_token name found → Leads old new main file (λ state. probe world at target state) (Ok found) →
    Leads old new main file (λ state. part_answered world at part state) (Ok token)
probe-answered world old new main file at part name token target found part-is token-is leads =
    leads-same old new main file (λ state. reach (λ is_there after. Gives (answer_token name is_there) after) (probe world at target state)) (λ state. part_answered world at part state) (Ok token)
    (λ state shows. ap (λ (p : ConditionPart). part_answered world at p state) part-is)
    (leads-then old new new main file (λ state. probe world at target state) (λ is_there after. Gives (answer_token name is_there) after) found (Ok token) leads
    (leads-gives new main file (λ after. Gives (answer_token name found) after) token (λ state shows. ap (λ (t : Token). Gives t state) (sym token-is))))

written-parts : (world : World) (at : ℕ) (line : List Token) (state : State) → answer_parts world at (map Written line) state ≡ Gives line state
unfolding answer_parts
written-parts world at [] state = refl
written-parts world at (t ∷ ts) state = ap (reach (λ ts after. Gives (t ∷ ts) after)) (written-parts world at ts state)

by-parts : (world : World) (at : ℕ) (tokens : List Token) (parts : Option (List ConditionPart)) (state : State) → parts ≡ parts_of tokens → condition world at tokens state ≡ parts_condition world at parts state
unfolding condition
by-parts world at tokens parts state is = ap (λ (o : Option (List ConditionPart)). parts_condition world at o state) (sym is)

-- a line without `__has_include`
pub probeless-leads : (world : World) (old new : Kept) (main : Path) (file : Here) (at : ℕ) (tokens : List Token) (r : Result Bool Stop) → parts_of tokens ≡ Some (map Written tokens) →
    Leads old new main file (λ state. answered_condition at tokens state) r → Leads old new main file (λ state. condition world at tokens state) r
probeless-leads world old new main file at tokens r is leads =
    leads-same old new main file (λ state. answered_condition at tokens state) (λ state. condition world at tokens state) r
    (λ state shows. by-parts world at tokens (Some (map Written tokens)) state (sym is) ∙ ap (reach (λ ts after. answered_condition at ts after)) (written-parts world at tokens state)) leads

pub parts-lead : (world : World) (old new : Kept) (main : Path) (file : Here) (at : ℕ) (tokens : List Token) (parts : List ConditionPart) (r : Result Bool Stop) → Some parts ≡ parts_of tokens →
    Leads old new main file (λ state. parts_condition world at (Some parts) state) r → Leads old new main file (λ state. condition world at tokens state) r
parts-lead world old new main file at tokens parts r is leads =
    leads-same old new main file (λ state. parts_condition world at (Some parts) state) (λ state. condition world at tokens state) r
    (λ state shows. by-parts world at tokens (Some parts) state is) leads

pub malformed-same : (world : World) (at : ℕ) (tokens : List Token) (state : State) → ◌≡◌ {A = Option (List ConditionPart)} None (parts_of tokens) → condition world at tokens state ≡ parts_condition world at None state
malformed-same world at tokens state is = by-parts world at tokens None state is

-- ---- the parts so far, and those that are left ----

-- one part
answer-before : (world : World) (at : ℕ) (part : ConditionPart) (parts : List ConditionPart) (state : State) →
    answer_parts world at (part ∷ parts) state ≡ reach (λ t after. reach (λ ts more. Gives (t ∷ ts) more) (answer_parts world at parts after)) (part_answered world at part state)
unfolding answer_parts
answer-before world at (Written t) parts state = refl
answer-before world at (Probe t target) parts state = probe-first (probe world at target state) where
  probe-first : (r : Reached Bool) →
      reach (λ is_there after. reach (λ ts more. Gives (answer_token t is_there ∷ ts) more) (answer_parts world at parts after)) r
      ≡ reach (λ u after. reach (λ ts more. Gives (u ∷ ts) more) (answer_parts world at parts after)) (reach (λ is_there after. Gives (answer_token t is_there) after) r)
  probe-first (Gives is_there after) = refl
  probe-first (Ends d after) = refl

joined : (done : List Token) (t : Token) (r : Reached (List Token)) →
    reach (λ ts after. Gives (done ++ ts) after) (reach (λ ts more. Gives (t ∷ ts) more) r) ≡ reach (λ ts after. Gives ((done ++ t ∷ []) ++ ts) after) r
joined done t (Gives ts after) = ap (λ (us : List Token). Gives us after) (sym (append_assoc done (t ∷ []) ts))
joined done t (Ends d after) = refl

-- the first of the parts that are left, and then the others
answers-more : (world : World) (done : List Token) (at : ℕ) (part : ConditionPart) (parts : List ConditionPart) (state : State) →
    answers_behind world done at (part ∷ parts) state ≡ reach (λ t after. answers_behind world (done ++ t ∷ []) at parts after) (part_answered world at part state)
answers-more world done at part parts state =
    ap (reach (λ ts after. Gives (done ++ ts) after)) (answer-before world at part parts state) ∙ in-front (part_answered world at part state) where
      in-front : (r : Reached Token) →
          reach (λ ts after. Gives (done ++ ts) after) (reach (λ t after. reach (λ ts more. Gives (t ∷ ts) more) (answer_parts world at parts after)) r)
          ≡ reach (λ t after. reach (λ ts more. Gives ((done ++ t ∷ []) ++ ts) more) (answer_parts world at parts after)) r
      in-front (Gives t after) = joined done t (answer_parts world at parts after)
      in-front (Ends d after) = refl

-- ---- one after another ----

pub continues-none : {A : Type 0} (old : Kept) (main : Path) (file : Here) (f g : State → Reached A) → ((state : State) → f state ≡ g state) → Continues old old main file f g
continues-none old main file f g same state shows = (state, (same state, shows))

pub continues-then : {A B : Type 0} (old mid new : Kept) (main : Path) (file : Here) (f g h : State → Reached A) (k : State → Reached B) (next : B → State → Reached A) (x : B) →
    Continues old mid main file f g → ((state : State) → g state ≡ reach next (k state)) → Leads mid new main file k (Ok x) → ((state : State) → next x state ≡ h state) →
    Continues old new main file f h
continues-then old mid new main file f g h k next x before same leads onward state shows =
    let one = before state shows in
    let two = leads one.0 one.1.1 in
    (two.0, (one.1.0 ∙ same one.0 ∙ ap (reach next) two.1.0 ∙ onward two.0, two.1.1))

pub continues-stop : {A B : Type 0} (old mid new : Kept) (main : Path) (file : Here) (f g : State → Reached A) (k : State → Reached B) (next : B → State → Reached A) (e : Stop) →
    Continues old mid main file f g → ((state : State) → g state ≡ reach next (k state)) → Leads mid new main file k (Err e) → Leads old new main file f (Err e)
continues-stop old mid new main file f g k next (stop.Ended words) before same leads = λ state shows.
    let one = before state shows in
    let ended = leads-stop mid new main file k next (stop.Ended words) leads one.0 one.1.1 in
    subst (λ r. IsNotReached words new.opened r) (sym (one.1.0 ∙ same one.0)) ended
continues-stop old mid new main file f g k next stop.Fault before same leads = tt
continues-stop old mid new main file f g k next stop.Memory before same leads = tt

pub continues-gives : {A : Type 0} (old new : Kept) (main : Path) (file : Here) (f g : State → Reached A) (x : A) →
    Continues old new main file f g → ((state : State) → g state ≡ Gives x state) → Leads old new main file f (Ok x)
continues-gives old new main file f g x before same state shows =
    let one = before state shows in
    (one.0, (one.1.0 ∙ same one.0, one.1.1))

-- the parts of a line: none is answered, one more is, one isn't, all are
module _ (world : World) (at : ℕ) (main : Path) (file : Here) (all : List ConditionPart) where
  abbrev pub Answers : Kept → Kept → List Token → List ConditionPart → Type 0
  Answers old new done parts = Continues old new main file (λ state. answer_parts world at all state) (λ state. answers_behind world done at parts state)

  pub answers-first : (old : Kept) (done : List Token) → done ≡ [] → Answers old old done all
  answers-first old done none =
      subst (λ (ts : List Token). Answers old old ts all) (sym none)
      (continues-none old main file (λ state. answer_parts world at all state) (λ state. answers_behind world [] at all state) (λ state. nothing (answer_parts world at all state))) where
        nothing : (r : Reached (List Token)) → r ≡ reach (λ ts after. Gives ([] ++ ts) after) r
        nothing (Gives ts after) = refl
        nothing (Ends d after) = refl

  pub answers-next : (old mid new : Kept) (done longer : List Token) (parts others : List ConditionPart) (part : ConditionPart) (t : Token) → parts ≡ part ∷ others → longer ≡ done ++ t ∷ [] →
      Answers old mid done parts → Leads mid new main file (λ state. part_answered world at part state) (Ok t) → Answers old new longer others
  answers-next old mid new done longer parts others part t front is before leads =
      subst (λ (ts : List Token). Answers old new ts others) (sym is)
      (continues-then old mid new main file (λ state. answer_parts world at all state) (λ state. answers_behind world done at (part ∷ others) state) (λ state. answers_behind world (done ++ t ∷ []) at others state)
      (λ state. part_answered world at part state) (λ u after. answers_behind world (done ++ u ∷ []) at others after) t
      (subst (λ (ps : List ConditionPart). Answers old mid done ps) front before) (λ state. answers-more world done at part others state) leads (λ state. refl))

  pub answers-stop : (old mid new : Kept) (done : List Token) (parts others : List ConditionPart) (part : ConditionPart) (e : Stop) (given : List ConditionPart) → parts ≡ part ∷ others → all ≡ given →
      Answers old mid done parts → Leads mid new main file (λ state. part_answered world at part state) (Err e) → Leads old new main file (λ state. answer_parts world at given state) (Err e)
  answers-stop old mid new done parts others part e given front are before leads =
      subst (λ (ps : List ConditionPart). Leads old new main file (λ state. answer_parts world at ps state) (Err e)) are
      (continues-stop old mid new main file (λ state. answer_parts world at all state) (λ state. answers_behind world done at (part ∷ others) state)
      (λ state. part_answered world at part state) (λ u after. answers_behind world (done ++ u ∷ []) at others after) e
      (subst (λ (ps : List ConditionPart). Answers old mid done ps) front before) (λ state. answers-more world done at part others state) leads)

  pub answers-all : (old new : Kept) (done : List Token) (parts given : List ConditionPart) → parts ≡ [] → all ≡ given →
      Answers old new done parts → Leads old new main file (λ state. answer_parts world at given state) (Ok done)
  unfolding answer_parts
  answers-all old new done parts given none are before =
      subst (λ (ps : List ConditionPart). Leads old new main file (λ state. answer_parts world at ps state) (Ok done)) are
      (continues-gives old new main file (λ state. answer_parts world at all state) (λ state. answers_behind world done at [] state) done
      (subst (λ (ps : List ConditionPart). Answers old new done ps) none before) (λ state. ap (λ (ts : List Token). Gives ts state) (append-nil done)))

-- ---- a line of a conditional ----

pub directive-leads : (world : World) (old new : Kept) (main : Path) (file : Here) (at : ℕ) (what seen : Directive) (r : Result Bool Stop) → what ≡ seen →
    Leads old new main file (λ state. directive_test world at seen state) r → Leads old new main file (λ state. directive_test world at what state) r
directive-leads world old new main file at what seen r is leads = subst (λ (d : Directive). Leads old new main file (λ state. directive_test world at d state) r) (sym is) leads

pub line-leads : (world : World) (old new : Kept) (main : Path) (file : Here) (at : ℕ) (what : Directive) (piece : Piece) (r : Result Bool Stop) → piece ≡ Line at what →
    Leads old new main file (λ state. directive_test world at what state) r → Leads old new main file (λ state. piece_test world piece state) r
line-leads world old new main file at what piece r is leads = subst (λ (p : Piece). Leads old new main file (λ state. piece_test world p state) r) (sym is) leads

-- ---- a line that is read as it is expanded ----

-- what is reached in another state, from where it is the same
leads-from : {A : Type 0} (old new : Kept) (main : Path) (file : Here) (f g : State → Reached A) (r : Result A Stop) →
    ((state : State) → Shows old main file state → (after : State) × ((f state ≡ g after) × Shows new main file after)) → Leads new new main file g r → Leads old new main file f r
leads-from old new main file f g (Ok x) same leads = λ state shows.
    let one = same state shows in
    let two = leads one.0 one.1.1 in
    (two.0, (one.1.0 ∙ two.1.0, two.1.1))
leads-from old new main file f g (Err (stop.Ended words)) same leads = λ state shows.
    let one = same state shows in
    subst (λ r. IsNotReached words new.opened r) (sym one.1.0) (leads one.0 one.1.1)
leads-from old new main file f g (Err stop.Fault) same leads = tt
leads-from old new main file f g (Err stop.Memory) same leads = tt

read-gives : (defined : Text → Bool) (at : ℕ) (r : Result Expanded Failure) (state : State) (line : LineSoFar) (left : ℕ) → read_from defined at_first (given r) ≡ Ok (line, left) → is_defined state.macros ≡ defined →
    reach (λ ts after. expanded_condition at ts after) (line_expanded at r state) ≡ judged at line (record state { left = left })
read-gives defined at (Err f) state line left same is = absurd (cc)
read-gives defined at (Ok e) state line left same is =
    let pair : (with_tokens defined (tokens_of e) at_first, e.units) ≡ (line, left) = cc in
    ap (λ (d : Text → Bool). defined_answered at (with_defined d (tokens_of e)) (record state { left = e.units })) is
    ∙ sym (whole-said defined at (record state { left = e.units }) (tokens_of e))
    ∙ ap (λ (p : LineSoFar × ℕ). judged at p.0 (record state { left = p.1 })) pair

-- the line that was read says what its tokens say
pub read-leads : (old : Kept) (work : WorkLeft) (places : Places) (at : ℕ) (tokens : List Token) (line : LineSoFar) (r : Result Bool Stop) →
    read_from (is_defined (lookup old.macros)) at_first (given (expanded_by (lookup old.macros) (place_of places.presumed.now) Condition 0 old.work.left (map unmarked tokens))) ≡ Ok (line, work.left) →
    ((kept : Kept) → Leads kept kept places.source.now (here_seen places) (λ state. judged at line state) r) →
    Leads old (record old { work = work }) places.source.now (here_seen places) (λ state. answered_condition at tokens state) r
read-leads old work places at tokens line r read leads =
    leads-from old (record old { work = work }) places.source.now (here_seen places) (λ state. answered_condition at tokens state) (λ state. judged at line state) r
    (λ state shows. (
      record state { left = work.left },
      (
        ap (λ (q : Result Expanded Failure). reach (λ ts after. expanded_condition at ts after) (line_expanded at q state)) (shown-expansion old places.source.now places state Condition tokens shows)
            ∙ read-gives (is_defined (lookup old.macros)) at (expanded_by (lookup old.macros) (place_of places.presumed.now) Condition 0 old.work.left (map unmarked tokens)) state line work.left read
            (ap (λ m. is_defined m) shows.macros),
        record {
          source = shows.source;
          output = shows.output;
          within = shows.within;
          left = refl;
          opened = shows.opened;
          macros = shows.macros;
          once = shows.once;
          here = shows.here;
        },
      ),
    ))
    (leads (record old { work = work }))

-- ---- a line whose expansion fails ----

given-failure : (r : Result Expanded Failure) (f : Failure) → given r ≡ Err f → r ≡ Err f
given-failure (Ok e) f same = absurd (cc)
given-failure (Err g) f same = cc

failure-shown : (kept : Kept) (main : Path) (file : Here) (at : ℕ) (f : Failure) (state : State) → Shows kept main file state → failure_at at f state ≡ failure_told file.place main at f
failure-shown kept main file at (failure.Count name line) state shows = at-line kept main file at (WrongCount name) state shows
failure-shown kept main file at (failure.Unclosed name line) state shows = at-line kept main file at (UnendedCall name) state shows
failure-shown kept main file at (failure.Paste left right line) state shows = at-line kept main file at (BadPaste left right) state shows
failure-shown kept main file at (failure.Deep line) state shows = at-line kept main file at DeepArguments state shows
failure-shown kept main file at failure.Work state shows = of-job kept main file WorkLimit state shows

-- units that were spent tell nothing of a failure
spent-leads : {A : Type 0} (old : Kept) (work : WorkLeft) (main : Path) (file : Here) (f : State → Reached A) (e : Stop) → Leads old old main file f (Err e) → Leads old (record old { work = work }) main file f (Err e)
spent-leads old work main file f (stop.Ended words) leads = leads
spent-leads old work main file f stop.Fault leads = tt
spent-leads old work main file f stop.Memory leads = tt

memory-leads : {A : Type 0} (old new : Kept) (main : Path) (file : Here) (f : State → Reached A) (e : Stop) → e ≡ stop.Memory → Leads old new main file f (Err e)
memory-leads old new main file f e is = subst (λ (s : Stop). Leads old new main file f (Err s)) (sym is) tt

module _ (old : Kept) (work : WorkLeft) (places : Places) (at : ℕ) (tokens : List Token) where
  failed-leads : (f : Failure) (e : Stop) → given (expanded_by (lookup old.macros) (place_of places.presumed.now) Condition 0 old.work.left (map unmarked tokens)) ≡ Err f →
      Refuses (failure_told places.visit.now.place places.source.now at f) e → Leads old (record old { work = work }) places.source.now (here_seen places) (λ state. answered_condition at tokens state) (Err e)
  failed-leads f e same told =
      leads-stop old (record old { work = work }) places.source.now (here_seen places) (λ state. expand_line at Condition tokens state) (λ ts after. expanded_condition at ts after) e
      (spent-leads old work places.source.now (here_seen places) (λ state. expand_line at Condition tokens state) e
      (leads-refuse old places.source.now (here_seen places) (λ state. expand_line at Condition tokens state) (failure_told places.visit.now.place places.source.now at f) e
      (λ state shows.
      ap (λ (r : Result Expanded Failure). line_expanded at r state)
      (shown-expansion old places.source.now places state Condition tokens shows
      ∙ given-failure (expanded_by (lookup old.macros) (place_of places.presumed.now) Condition 0 old.work.left (map unmarked tokens)) f same)
      ∙ ap (λ (d : Diagnostic). Ends d state) (failure-shown old places.source.now (here_seen places) at f state shows))
      told))

  pub error-leads : (error : ExpandError) (e : Stop) → ReportsResult error (given (expanded_by (lookup old.macros) (place_of places.presumed.now) Condition 0 old.work.left (map unmarked tokens))) →
      TellsError places.visit.now.place places.source.now at error e → Leads old (record old { work = work }) places.source.now (here_seen places) (λ state. answered_condition at tokens state) (Err e)
  error-leads (expand_error.Count name line) e reports told = failed-leads (failure.Count name line) e reports told
  error-leads (expand_error.Unclosed name line) e reports told = failed-leads (failure.Unclosed name line) e reports told
  error-leads (expand_error.Paste left right line) e reports told = failed-leads (failure.Paste left right line) e reports told
  error-leads (expand_error.Deep line) e reports told = failed-leads (failure.Deep line) e reports told
  error-leads expand_error.Work e reports told = failed-leads failure.Work e reports told
  error-leads expand_error.Memory e reports told =
      memory-leads old (record old { work = work }) places.source.now (here_seen places) (λ state. answered_condition at tokens state) e told
