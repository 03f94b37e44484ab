-- What the answer to a client's need changes, and what it keeps.
use Rattle.std.proofs.Common.{arith, ◌≡◌, ◌⊎◌, ℕ, zero, suc, ◌+◌, ◌*◌, ◌-◌, ◌<◌, List, [], ◌∷◌, ◌++◌, length, Option, None, Some, Bool, true, false, cond, nat_eq, nat_lt, refl, sym, ap, ◌∙◌, subst, inl, inr, slice_index}
use Rattle.std.specs.List.{flat_map, count_by}
use Rattle.std.specs.Option.{IfSome, IfNone}
use Rattle.std.proofs.lemmas.Bool.Decides.{eqb_tells, nat_tests}
use Rattle.std.proofs.lemmas.List.{append_assoc, append-nil, get_or-set_same, get_or-set_other}
use Rattle.tree_model.specs.Trees.{FileTree}
use Rattle.job_ends.specs.Record.{Known, known, OfTree}
use Rattle.job_ends.specs.declared.record.Done.{Done}
use Rattle.job_ends.specs.Looks.{SheetCall, sheet_call}
use Rattle.job_ends.specs.Works.{Work}
use Rattle.closure_memo.specs.Memo.{look_of, what_of, found, after_look, publish_of, after_publish}
use Rattle.closure_memo.specs.declared.step.Kept.{Kept}
use Rattle.closure_memo.specs.declared.step.What.{What}
use Rattle.closure_memo.specs.declared.step.What.TheVariants as memo_what
use Rattle.host_slots.specs.Slots.{Leased, AllLeased, IsFirstFree, AreWithinLimits, slot_taken, slot_given_back}
use Rattle.sheet_build.specs.Sheet.{SheetData}
use Rattle.sheet_build.specs.Keys.{IsRightFor, is_same_key}
use Rattle.sheet_build.specs.declared.keys.SheetKey.{SheetKey}
use Rattle.client_steps.specs.declared.client.Client.{Client}
use Rattle.client_steps.specs.declared.need.Need.{Need}
use Rattle.client_steps.specs.declared.need.Need.TheVariants as need
use Rattle.client_steps.specs.declared.need.Reply.{Reply}
use Rattle.client_steps.specs.declared.need.Reply.TheVariants as reply
use Rattle.client_steps.specs.declared.phase.Phase.{Phase}
use Rattle.client_steps.specs.declared.phase.Phase.TheVariants.{Draws, Begins, Looks, Publishes, Takes, Gives, Ended}
use Rattle.client_steps.specs.Phases.{CanWork, NeedOf, phase_after, phase_rank, most_rank, most_asked, job_in_work, leased_by, lease_given_back}
use Rattle.client_steps.specs.Ledger.{HasRoom, PutKeeps, IsRightReply, call_by, least_after, one_if_job, times_drawn, with_calls}
use Rattle.client_order.specs.Ran.{MemoSeen, calls_of}
use Rattle.client_order.specs.parts.World.{SheetsMemo, seen_memo, OthersStay, IsDrawn, one_if_same}
use Rattle.client_order.proofs.Histories.{AreListed, with_call, own-call, other-calls}
use Rattle.client_order.specs.parts.Answering.{CanAnswer, NoSlotIsFree, AnswerMoves, AfterAnswer, AnswerKeeps}

add-below : (a x y : ℕ) → x < y → a + x < a + y
add-below a x y less = omega arith

-- ---- an answer ----

-- what `put` does to a client
pub record Put (r : Reply) (old new : Client) : Type 0 where
  pub room : HasRoom new
  pub least : new.least ≡ least_after old.least r
  pub same : (new.jobs ≡ old.jobs) × ((new.number ≡ old.number) × ((new.budget ≡ old.budget) × (new.records ≡ old.records)))
  pub phase : new.phase ≡ phase_after old.phase r

-- what an answer does to a phase, and the calls on the memo that it is of
pub record Says (jobs hosts : ℕ) (p : Phase) (r : Reply) (calls : List SheetCall) : Type 0 where
  pub works : CanWork jobs hosts (phase_after p r)
  pub same_job : job_in_work (phase_after p r) ≡ job_in_work p
  pub called : call_by p r ≡ calls

-- it brings the client nearer to its end, and gives it no lease
pub record Frees (p : Phase) (r : Reply) : Type 0 where
  pub nearer : phase_rank (phase_after p r) < phase_rank p
  pub none : leased_by (phase_after p r) ≡ None
  pub goes_on : phase_after p r ≡ Ended → ⊥

-- ---- a look ----

pub look-says : (jobs hosts : ℕ) (p : Phase) (key : SheetKey) (got : Option SheetData) → NeedOf jobs hosts p (need.Look key) → Says jobs hosts p (reply.Looked got) (sheet_call key (look_of got) ∷ [])
look-says jobs hosts (Looks n left a own) key None waits = record { works = waits.0; same_job = refl; called = ap (λ (k : SheetKey). sheet_call k memo_what.Miss ∷ []) (sym waits.1) }
look-says jobs hosts (Looks n left a own) key (Some sheet) waits = record { works = waits.0; same_job = refl; called = ap (λ (k : SheetKey). sheet_call k memo_what.Hit ∷ []) (sym waits.1) }
look-says jobs hosts _ key got waits = elim waits [ ]

pub look-frees : (jobs hosts : ℕ) (p : Phase) (key : SheetKey) (got : Option SheetData) → NeedOf jobs hosts p (need.Look key) → Frees p (reply.Looked got)
look-frees jobs hosts (Looks n left a own) key None waits = record { nearer = omega arith; none = refl; goes_on = λ e. absurd (cc) }
look-frees jobs hosts (Looks n left a own) key (Some sheet) waits = record { nearer = omega arith; none = refl; goes_on = λ e. absurd (cc) }
look-frees jobs hosts _ key got waits = elim waits [ ]

pub look-right : (jobs hosts : ℕ) (of : Known) (p : Phase) (key : SheetKey) (got : Option SheetData) → NeedOf jobs hosts p (need.Look key)
    → ((sheet : SheetData) → got ≡ Some sheet → OfTree of (λ tree. IsRightFor tree key sheet)) → IsRightReply of p (reply.Looked got)
look-right jobs hosts of (Looks n left a own) key None waits right = tt
look-right jobs hosts of (Looks n left a own) key (Some sheet) waits right = subst (λ (k : SheetKey). OfTree of (λ tree. IsRightFor tree k sheet)) waits.1 (right sheet refl)
look-right jobs hosts of _ key got waits right = elim waits [ ]

pub look-refused : (jobs hosts : ℕ) (p : Phase) (key : SheetKey) → NeedOf jobs hosts p (need.Look key) → Says jobs hosts p reply.Refused [] × Frees p reply.Refused × ((of : Known) → IsRightReply of p reply.Refused)
look-refused jobs hosts (Looks n left a own) key waits = (record { works = waits.0; same_job = refl; called = refl }, record { nearer = omega arith; none = refl; goes_on = λ e. absurd (cc) }, λ of. tt)
look-refused jobs hosts _ key waits = elim waits [ ]

-- ---- a publication ----

pub publish-says : (jobs hosts : ℕ) (p : Phase) (key : SheetKey) (sheet : SheetData) (k : Kept) → NeedOf jobs hosts p (need.Publish key sheet)
    → Says jobs hosts p (reply.Kept k) (sheet_call key (what_of k) ∷ []) × Frees p (reply.Kept k) × ((of : Known) → IsRightReply of p (reply.Kept k))
publish-says jobs hosts (Publishes n left a own) key sheet k waits =
    (record { works = waits.0; same_job = refl; called = ap (λ (l : SheetKey). sheet_call l (what_of k) ∷ []) (sym waits.1) }, record { nearer = omega arith; none = refl; goes_on = λ e. absurd (cc) }, λ of. tt)
publish-says jobs hosts _ key sheet k waits = elim waits [ ]

pub publish-refused : (jobs hosts : ℕ) (p : Phase) (key : SheetKey) (sheet : SheetData) → NeedOf jobs hosts p (need.Publish key sheet)
    → Says jobs hosts p reply.Refused [] × Frees p reply.Refused × ((of : Known) → IsRightReply of p reply.Refused)
publish-refused jobs hosts (Publishes n left a own) key sheet waits = (record { works = waits.0; same_job = refl; called = refl }, record { nearer = omega arith; none = refl; goes_on = λ e. absurd (cc) }, λ of. tt)
publish-refused jobs hosts _ key sheet waits = elim waits [ ]

-- ---- a lease, and its end ----

pub give-says : (jobs hosts : ℕ) (p : Phase) (lease : ℕ) → NeedOf jobs hosts p (need.Give lease) → Says jobs hosts p reply.Given [] × Frees p reply.Given × ((of : Known) → IsRightReply of p reply.Given)
give-says jobs hosts (Gives n host replied) lease waits = (record { works = waits.0; same_job = refl; called = refl }, record { nearer = omega arith; none = refl; goes_on = λ e. absurd (cc) }, λ of. tt)
give-says jobs hosts _ lease waits = elim waits [ ]

pub take-says : (jobs hosts : ℕ) (p : Phase) (host : ℕ) → NeedOf jobs hosts p need.Take → host < hosts
    → Says jobs hosts p (reply.Leased (Some host)) [] × (phase_rank (phase_after p (reply.Leased (Some host))) < phase_rank p) × (leased_by (phase_after p (reply.Leased (Some host))) ≡ Some host)
    × (phase_after p (reply.Leased (Some host)) ≡ Ended → ⊥) × ((of : Known) → IsRightReply of p (reply.Leased (Some host)))
take-says jobs hosts (Takes n bytes count) host waits less =
    (record { works = (waits.0, (waits.1, omega (arith, less, waits.1))); same_job = refl; called = refl }, omega arith, refl, λ e. absurd (cc), λ of. tt)
take-says jobs hosts _ host waits less = elim waits [ ]

pub take-none : (jobs hosts : ℕ) (p : Phase) (s : Leased) → NeedOf jobs hosts p need.Take → AllLeased s.limits s.leased
    → Says jobs hosts p (reply.Leased None) [] × NoSlotIsFree p s (phase_after p (reply.Leased None)) × (leased_by (phase_after p (reply.Leased None)) ≡ None)
    × (phase_after p (reply.Leased None) ≡ Ended → ⊥) × ((of : Known) → IsRightReply of p (reply.Leased None))
take-none jobs hosts (Takes n bytes count) s waits full =
    (record { works = waits.0; same_job = refl; called = refl }, (n, (bytes, (count, (refl, (refl, full))))), refl, λ e. absurd (cc), λ of. tt)
take-none jobs hosts _ s waits full = elim waits [ ]

pub take-call : (jobs hosts : ℕ) (p : Phase) (lease : Option ℕ) → NeedOf jobs hosts p need.Take → call_by p (reply.Leased lease) ≡ []
take-call jobs hosts (Takes n bytes count) lease waits = refl
take-call jobs hosts _ lease waits = elim waits [ ]

pub take-right : (jobs hosts : ℕ) (of : Known) (p : Phase) (lease : Option ℕ) → NeedOf jobs hosts p need.Take → IsRightReply of p (reply.Leased lease)
take-right jobs hosts of (Takes n bytes count) lease waits = tt
take-right jobs hosts of _ lease waits = elim waits [ ]

-- the slots of each host after one was leased, and after one was given back
pub one-taken : (leased : List ℕ) (host at : ℕ) → host < length leased
    → slice_index (slot_taken host leased) at + one_if_same at None ≡ slice_index leased at + one_if_same at (Some host)
one-taken leased host at less = go (eqb_tells host at)
  where
    go : ((nat_eq host at ≡ true) × (host ≡ at)) ⊎ ((nat_eq host at ≡ false) × (host ≡ at → ⊥)) → slice_index (slot_taken host leased) at + one_if_same at None ≡ slice_index leased at + one_if_same at (Some host)
    go (inl here) =
        let one : one_if_same at (Some host) ≡ 1 = ap (λ (b : Bool). cond {A = ℕ} b 1 0) here.0 in
        let is : slice_index (slot_taken host leased) at ≡ slice_index leased host + 1 = ap (slice_index (slot_taken host leased)) (sym here.1) ∙ get_or-set_same leased host (slice_index leased host + 1) 0 less in
        let same : slice_index leased host ≡ slice_index leased at = ap (slice_index leased) here.1 in omega arith
    go (inr else) =
        let one : one_if_same at (Some host) ≡ 0 = ap (λ (b : Bool). cond {A = ℕ} b 1 0) else.0 in
        let is : slice_index (slot_taken host leased) at ≡ slice_index leased at = get_or-set_other leased host at (slice_index leased host + 1) 0 (λ e. else.1 (sym e)) in omega arith

pub one-given : (leased : List ℕ) (host at : ℕ) → host < length leased → 0 < slice_index leased host
    → slice_index (slot_given_back host leased) at + one_if_same at (Some host) ≡ slice_index leased at + one_if_same at None
one-given leased host at less some = go (eqb_tells host at)
  where
    go : ((nat_eq host at ≡ true) × (host ≡ at)) ⊎ ((nat_eq host at ≡ false) × (host ≡ at → ⊥)) → slice_index (slot_given_back host leased) at + one_if_same at (Some host) ≡ slice_index leased at + one_if_same at None
    go (inl here) =
        let one : one_if_same at (Some host) ≡ 1 = ap (λ (b : Bool). cond {A = ℕ} b 1 0) here.0 in
        let is : slice_index (slot_given_back host leased) at ≡ slice_index leased host - 1 = ap (slice_index (slot_given_back host leased)) (sym here.1) ∙ get_or-set_same leased host (slice_index leased host - 1) 0 less in
        let same : slice_index leased host ≡ slice_index leased at = ap (slice_index leased) here.1 in omega arith
    go (inr else) =
        let one : one_if_same at (Some host) ≡ 0 = ap (λ (b : Bool). cond {A = ℕ} b 1 0) else.0 in
        let is : slice_index (slot_given_back host leased) at ≡ slice_index leased at = get_or-set_other leased host at (slice_index leased host - 1) 0 (λ e. else.1 (sym e)) in omega arith

-- a host with a slot leased is one of the list
pub within-leased : (leased : List ℕ) (host : ℕ) → 0 < slice_index leased host → host < length leased
within-leased [] host some = absurd (omega arith)
within-leased (n ∷ leased) zero some = omega arith
within-leased (n ∷ leased) (suc host) some = omega (arith, within-leased leased host some)

-- ---- a draw ----

drawn-one : (n job : ℕ) → cond (nat_eq job n) 1 0 + cond (nat_lt n job) 1 0 ≡ cond (nat_lt n (suc job)) 1 0
drawn-one n job = grind (arith, nat_tests)

draw-nearer : (jobs drawn : ℕ) → drawn < jobs → (jobs - suc drawn) * most_rank + (4 * most_asked + 15) < (jobs - drawn) * most_rank + 1
draw-nearer jobs drawn less = let e : jobs - drawn ≡ suc (jobs - suc drawn) = omega arith in rw e (omega arith)

-- ---- together ----

-- the numbers of a client are those of its records and of the job in work
numbers-of : (n : ℕ) (old new : Client) (o : Option ℕ) → new.records ≡ old.records → job_in_work new.phase ≡ o → times_drawn n new ≡ count_by (λ (d : Done). nat_eq d.job n) old.records.items + one_if_job n o
numbers-of n old new o records job =
    ap (λ (r : List Done). count_by (λ (d : Done). nat_eq d.job n) r + one_if_job n (job_in_work new.phase)) (ap (λ v. v.items) records)
    ∙ ap (λ (o : Option ℕ). count_by (λ (d : Done). nat_eq d.job n) old.records.items + one_if_job n o) job

same-numbers : (n : ℕ) (old new : Client) → new.records ≡ old.records → job_in_work new.phase ≡ job_in_work old.phase → times_drawn n new ≡ times_drawn n old
same-numbers n old new records job = numbers-of n old new (job_in_work old.phase) records job

-- an answer that draws no number
pub answers-by : (wanted : Need) (drawn : ℕ) (s after : Leased) (old new : Client) (r : Reply) (calls : List SheetCall) → CanAnswer wanted drawn s old → Put r old new
    → Says old.jobs (length s.limits) old.phase r calls → least_after old.least r ≡ old.least → (phase_after old.phase r ≡ Ended → ⊥) → after.limits ≡ s.limits
    → ((host : ℕ) → slice_index after.leased host + one_if_same host (lease_given_back wanted) ≡ slice_index s.leased host + one_if_same host (leased_by (phase_after old.phase r)))
    → AnswerMoves (old.jobs - drawn) old.phase s (old.jobs - drawn) (phase_after old.phase r) after
    → AfterAnswer wanted drawn s old drawn after new
answers-by wanted drawn s after old new r calls can put says least goes_on limits leased moves = record {
  works = subst (λ (p : Phase). CanWork old.jobs (length s.limits) p) (sym put.phase) says.works;
  count = put.same.0;
  number = put.same.1.0;
  budget = put.same.1.1.0;
  least = omega (arith, put.least, least, can.least);
  later = omega arith;
  drawn_few = can.drawn_few;
  room = put.room;
  all = λ e. absurd (goes_on (sym put.phase ∙ e));
  limits = limits;
  leased = λ host. leased host ∙ ap (λ (p : Phase). slice_index s.leased host + one_if_same host (leased_by p)) (sym put.phase);
  moves = subst (λ (p : Phase). AnswerMoves (old.jobs - drawn) old.phase s (old.jobs - drawn) p after) (sym put.phase) moves;
  draws = λ n. ap (λ (k : ℕ). k + cond (nat_lt n drawn) 1 0) (same-numbers n old new put.same.1.1.1 (ap job_in_work put.phase ∙ says.same_job));
}

-- an answer that changes no slots
pub answers-still : (wanted : Need) (drawn : ℕ) (s : Leased) (old new : Client) (r : Reply) (calls : List SheetCall) → CanAnswer wanted drawn s old → Put r old new
    → Says old.jobs (length s.limits) old.phase r calls → Frees old.phase r → least_after old.least r ≡ old.least → lease_given_back wanted ≡ None
    → AfterAnswer wanted drawn s old drawn s new
answers-still wanted drawn s old new r calls can put says frees least gives =
    answers-by wanted drawn s s old new r calls can put says least frees.goes_on refl
    (λ host. ap (λ (o : Option ℕ). slice_index s.leased host + one_if_same host o) (gives ∙ sym frees.none))
    (inl (add-below ((old.jobs - drawn) * most_rank) (phase_rank (phase_after old.phase r)) (phase_rank old.phase) frees.nearer))

-- what an answer keeps, by the calls on the memo that it is of
pub put-keeps : (named : Option FileTree) (memo after : MemoSeen) (old new : Client) (r : Reply) (calls : List SheetCall) → PutKeeps old new r → new.number ≡ old.number → call_by old.phase r ≡ calls
    → calls_of old.number after ≡ calls_of old.number memo ++ calls → ((of : Known) → of.named ≡ named → IsRightReply of old.phase r) → AnswerKeeps named memo old after new
put-keeps named memo after old new r calls keeps number called seen right budget jobs hosts first now some few did =
    let of : Known = known named budget in
    let more : List SheetCall = call_by old.phase r in
    record {
      ledger = with_calls did.ledger more;
      holds = keeps of jobs hosts first now did.ledger (right of refl) some few did.holds;
      own = ap (λ (n : ℕ). calls_of n after) number ∙ seen ∙ ap (λ (l : List SheetCall). calls_of old.number memo ++ l) (sym called) ∙ ap (λ (l : List SheetCall). l ++ more) did.own
          ∙ append_assoc (flat_map (λ (w : Work). w.calls) did.ledger.works) did.ledger.calls more;
    }

-- an answer that is of no call
pub no-call-keeps : (named : Option FileTree) (memo : MemoSeen) (old new : Client) (r : Reply) → PutKeeps old new r → new.number ≡ old.number → call_by old.phase r ≡ []
    → ((of : Known) → IsRightReply of old.phase r) → AnswerKeeps named memo old memo new
no-call-keeps named memo old new r keeps number called right =
    put-keeps named memo memo old new r [] keeps number called (sym (append-nil (calls_of old.number memo))) (λ of is. right of)

-- ---- an answer to a lease, and to its end ----

same-slots : (one other : Leased) → one.limits ≡ other.limits → one.leased ≡ other.leased → one ≡ other
same-slots one other limits leased i = record { limits = limits i; leased = leased i }

pub take-answers : (drawn : ℕ) (s after : Leased) (old new : Client) (lease : Option ℕ) → CanAnswer need.Take drawn s old → Put (reply.Leased lease) old new → AreWithinLimits s.limits s.leased
    → IfSome lease (λ host. IsFirstFree s.limits s.leased host) → IfSome lease (λ host. after.leased ≡ slot_taken host s.leased) → IfNone lease (AllLeased s.limits s.leased × (after.leased ≡ s.leased)) → after.limits ≡ s.limits
    → AfterAnswer need.Take drawn s old drawn after new
take-answers drawn s after old new None can put within first more none limits =
    let says = take-none old.jobs (length s.limits) old.phase s can.waits none.0 in
    answers-by need.Take drawn s after old new (reply.Leased None) [] can put says.0 refl says.3 limits
    (λ host. ap (λ (l : List ℕ). slice_index l host + 0) none.1 ∙ ap (λ (o : Option ℕ). slice_index s.leased host + one_if_same host o) (sym says.2))
    (inr (refl, (same-slots after s limits none.1, inr says.1)))
take-answers drawn s after old new (Some host) can put within first more none limits =
    let says = take-says old.jobs (length s.limits) old.phase host can.waits first.listed in
    answers-by need.Take drawn s after old new (reply.Leased (Some host)) [] can put says.0 refl says.3 limits
    (λ at. ap (λ (l : List ℕ). slice_index l at + 0) more ∙ one-taken s.leased host at (omega (arith, first.listed, within.each)) ∙ ap (λ (o : Option ℕ). slice_index s.leased at + one_if_same at o) (sym says.2))
    (inl (add-below ((old.jobs - drawn) * most_rank) (phase_rank (phase_after old.phase (reply.Leased (Some host)))) (phase_rank old.phase) says.1))

pub give-answers : (drawn : ℕ) (s after : Leased) (old new : Client) (lease : ℕ) → CanAnswer (need.Give lease) drawn s old → Put reply.Given old new → after.leased ≡ slot_given_back lease s.leased → after.limits ≡ s.limits
    → AfterAnswer (need.Give lease) drawn s old drawn after new
give-answers drawn s after old new lease can put less limits =
    let says = give-says old.jobs (length s.limits) old.phase lease can.waits in
    let some : 0 < slice_index s.leased lease = (can.lease lease refl).1 in
    answers-by (need.Give lease) drawn s after old new reply.Given [] can put says.0 refl says.1.goes_on limits
    (λ at. ap (λ (l : List ℕ). slice_index l at + one_if_same at (Some lease)) less ∙ one-given s.leased lease at (within-leased s.leased lease some) some ∙ ap (λ (o : Option ℕ). slice_index s.leased at + one_if_same at o) (sym says.1.none))
    (inl (add-below ((old.jobs - drawn) * most_rank) (phase_rank (phase_after old.phase reply.Given)) (phase_rank old.phase) says.1.nearer))

-- ---- an answer to a draw ----

draws-is : (jobs hosts : ℕ) (p : Phase) → NeedOf jobs hosts p need.Draw → p ≡ Draws
draws-is jobs hosts Draws waits = refl
draws-is jobs hosts _ waits = elim waits [ ]

pub draw-right : (jobs hosts : ℕ) (of : Known) (p : Phase) (job : Option ℕ) → NeedOf jobs hosts p need.Draw → IsRightReply of p (reply.Drawn job)
draw-right jobs hosts of Draws job waits = tt
draw-right jobs hosts of _ job waits = elim waits [ ]

pub draw-call : (jobs hosts : ℕ) (p : Phase) (job : Option ℕ) → NeedOf jobs hosts p need.Draw → call_by p (reply.Drawn job) ≡ []
draw-call jobs hosts Draws job waits = refl
draw-call jobs hosts _ job waits = elim waits [ ]

begins-not-ended : (n : ℕ) → Begins n ≡ Ended → ⊥
begins-not-ended n e = cc

-- the numbers that a client drew, with the one that it draws
more-numbers : (n job drawn after times now before : ℕ) → job ≡ drawn → after ≡ suc drawn → now ≡ times + cond (nat_eq job n) 1 0 → before ≡ times + 0
    → now + cond (nat_lt n drawn) 1 0 ≡ before + cond (nat_lt n after) 1 0
more-numbers n job drawn after times now before is next new old =
    let one : cond (nat_eq job n) 1 0 + cond (nat_lt n drawn) 1 0 ≡ cond (nat_lt n after) 1 0 =
    ap (λ (k : ℕ). cond {A = ℕ} (nat_eq k n) 1 0 + cond (nat_lt n drawn) 1 0) is ∙ drawn-one n drawn ∙ ap (λ (k : ℕ). cond {A = ℕ} (nat_lt n k) 1 0) (sym next) in
    omega arith

pub draw-answers : (drawn after : ℕ) (s : Leased) (old new : Client) (job : Option ℕ) → CanAnswer need.Draw drawn s old → IsDrawn drawn old.jobs job after → Put (reply.Drawn job) old new
    → AfterAnswer need.Draw drawn s old after s new
draw-answers drawn after s old new None can is put =
    let was : old.phase ≡ Draws = draws-is old.jobs (length s.limits) old.phase can.waits in
    let now : new.phase ≡ Ended = put.phase ∙ ap (λ (p : Phase). phase_after p (reply.Drawn None)) was in
    let rank_was : phase_rank old.phase ≡ 1 = ap phase_rank was in
    let rank_now : phase_rank new.phase ≡ 0 = ap phase_rank now in
    record {
      works = subst (λ (p : Phase). CanWork old.jobs (length s.limits) p) (sym now) tt;
      count = put.same.0;
      number = put.same.1.0;
      budget = put.same.1.1.0;
      least = omega (arith, put.least, can.least, is.1);
      later = omega (arith, is.1);
      drawn_few = omega (arith, is.1, can.drawn_few);
      room = put.room;
      all = λ e. omega (arith, is.0, is.1);
      limits = refl;
      leased = λ host. ap (λ (p : Phase). slice_index s.leased host + one_if_same host (leased_by p)) (sym now);
      moves = inl (subst (λ (k : ℕ). (old.jobs - k) * most_rank + phase_rank new.phase < (old.jobs - drawn) * most_rank + phase_rank old.phase) (sym is.1) (add-below ((old.jobs - drawn) * most_rank) (phase_rank new.phase) (phase_rank old.phase) (omega arith)));
      draws = λ n. subst (λ (k : ℕ). times_drawn n new + cond (nat_lt n drawn) 1 0 ≡ times_drawn n old + cond (nat_lt n k) 1 0) (sym is.1)
          (ap (λ (k : ℕ). k + cond (nat_lt n drawn) 1 0) (same-numbers n old new put.same.1.1.1 (ap job_in_work now ∙ sym (ap job_in_work was))));
    }
draw-answers drawn after s old new (Some job) can is put =
    let was : old.phase ≡ Draws = draws-is old.jobs (length s.limits) old.phase can.waits in
    let now : new.phase ≡ Begins job = put.phase ∙ ap (λ (p : Phase). phase_after p (reply.Drawn (Some job))) was in
    record {
      works = subst (λ (p : Phase). CanWork old.jobs (length s.limits) p) (sym now) (omega (arith, is.0, is.1.0));
      count = put.same.0;
      number = put.same.1.0;
      budget = put.same.1.1.0;
      least = omega (arith, put.least, is.1.0, is.1.1);
      later = omega (arith, is.1.1);
      drawn_few = omega (arith, is.0, is.1.1);
      room = put.room;
      all = λ e. absurd (begins-not-ended job (sym now ∙ e));
      limits = refl;
      leased = λ host. ap (λ (p : Phase). slice_index s.leased host + one_if_same host (leased_by p)) (sym now);
      moves = inl (subst (λ (k : ℕ). k * most_rank + phase_rank new.phase < (old.jobs - drawn) * most_rank + phase_rank old.phase) (sym (ap (λ (k : ℕ). old.jobs - k) is.1.1))
          (subst (λ (k : ℕ). (old.jobs - suc drawn) * most_rank + k < (old.jobs - drawn) * most_rank + phase_rank old.phase) (sym (ap phase_rank now))
          (subst (λ (k : ℕ). (old.jobs - suc drawn) * most_rank + (4 * most_asked + 15) < (old.jobs - drawn) * most_rank + k) (sym (ap phase_rank was)) (draw-nearer old.jobs drawn is.0))));
      draws = λ n. more-numbers n job drawn after (count_by (λ (d : Done). nat_eq d.job n) old.records.items) (times_drawn n new) (times_drawn n old) is.1.0 is.1.1
          (numbers-of n old new (Some job) put.same.1.1.1 (ap job_in_work now)) (numbers-of n old old None refl (ap job_in_work was));
    }

-- ---- an answer that is of a call on the memo ----

pub look-seen : (memo after : SheetsMemo) (client : ℕ) (key : SheetKey) (got : Option SheetData) → got ≡ found is_same_key key memo → after ≡ after_look is_same_key client key memo
    → seen_memo after ≡ with_call client key (look_of got) 0 (seen_memo memo)
look-seen memo after client key got is then = ap seen_memo then ∙ ap (λ (g : Option SheetData). with_call client key (look_of g) 0 (seen_memo memo)) (sym is)

pub publish-seen : (memo after : SheetsMemo) (client : ℕ) (key : SheetKey) (sheet : SheetData) (weight : ℕ) (k : Kept) → k ≡ publish_of is_same_key key weight memo → after ≡ after_publish is_same_key client key sheet weight memo
    → seen_memo after ≡ with_call client key (what_of k) weight (seen_memo memo)
publish-seen memo after client key sheet weight k is then = ap seen_memo then ∙ ap (λ (l : Kept). with_call client key (what_of l) weight (seen_memo memo)) (sym is)

pub call-keeps : (named : Option FileTree) (memo after : MemoSeen) (old new : Client) (r : Reply) (key : SheetKey) (what : What) (weight : ℕ) → AreListed memo.keys memo.steps → after ≡ with_call old.number key what weight memo
    → PutKeeps old new r → new.number ≡ old.number → call_by old.phase r ≡ sheet_call key what ∷ [] → ((of : Known) → of.named ≡ named → IsRightReply of old.phase r) → AnswerKeeps named memo old after new
call-keeps named memo after old new r key what weight listed is keeps number called right =
    put-keeps named memo after old new r (sheet_call key what ∷ []) keeps number called (ap (calls_of old.number) is ∙ own-call old.number key what weight memo listed) right

pub call-others : (memo after : MemoSeen) (number : ℕ) (key : SheetKey) (what : What) (weight : ℕ) → AreListed memo.keys memo.steps → after ≡ with_call number key what weight memo → OthersStay number memo after
call-others memo after number key what weight listed is other apart = ap (calls_of other) is ∙ other-calls other number key what weight memo listed apart

-- an answer to a call on the memo that was refused
pub refused-keeps : (named : Option FileTree) (memo after : SheetsMemo) (old new : Client) → after ≡ memo → PutKeeps old new reply.Refused → new.number ≡ old.number → call_by old.phase reply.Refused ≡ []
    → ((of : Known) → IsRightReply of old.phase reply.Refused) → AnswerKeeps named (seen_memo memo) old (seen_memo after) new
refused-keeps named memo after old new same keeps number called right =
    subst (λ (m : SheetsMemo). AnswerKeeps named (seen_memo memo) old (seen_memo m) new) (sym same) (no-call-keeps named (seen_memo memo) old new reply.Refused keeps number called right)
