-- What an answer does to a client: its room, the numbers of its works, and the facts of its phase.
use Rattle.std.proofs.Common.{arith, ◌≡◌, ℕ, suc, ◌+◌, ◌<◌, ◌≤◌, List, [], ◌∷◌, ◌++◌, length, None, Some, sym, ◌∙◌, subst, append-nil}
use Rattle.std.specs.Vec.{vec_len}
use Rattle.job_words.specs.declared.job.Job.{Job}
use Rattle.io_edges.specs.declared.wire.Host.{Host}
use Rattle.job_ends.specs.Outside.{EndSeen}
use Rattle.job_ends.specs.Record.{Known}
use Rattle.job_ends.specs.Looks.{SheetCall}
use Rattle.job_ends.specs.Works.{Work}
use Rattle.closure_memo.proofs.Memos.{get_within}
use Rattle.client_steps.specs.declared.client.Client.{Client}
use Rattle.client_steps.specs.declared.phase.Phase.{Phase}
use Rattle.client_steps.specs.declared.phase.Phase.TheVariants.{Draws, Looks, Publishes, Wants, Takes, Calls, Gives, Concludes}
use Rattle.client_steps.specs.declared.need.Reply.{Reply}
use Rattle.client_steps.specs.declared.need.Reply.TheVariants.{Drawn, Looked, Kept, Leased, Given, Refused}
use Rattle.client_steps.specs.Phases.{AnswerFits, phase_after, job_in_work, Current}
use Rattle.client_steps.specs.Ledger.{HasRoom, one_if_some, IsAbove, least_after, GoUp, below_works, Ledger, ClientHolds, call_by, IsRightReply, with_calls}
use Rattle.client_steps.proofs.Ends.{some-host}
use Rattle.client_steps.proofs.Answered.{looked-hit, looked-miss, published-kept, look-refused, publication-refused}

-- ---- room, and numbers ----

-- what an answer does to a client's numbers: there is room for the job in work, which is the number before the least
abbrev pub StaysIn : ℕ → ℕ → ℕ → Phase → Reply → Type 0
StaysIn count least n p r = (one_if_some (job_in_work (phase_after p r)) + n ≤ least_after least r) × (least_after least r ≤ count)

pub put-room : (count least n : ℕ) (p : Phase) (r : Reply) → AnswerFits count p r → IsAbove least r → one_if_some (job_in_work p) + n ≤ least → least ≤ count → StaysIn count least n p r
put-room count least n Draws (Drawn None) fits above in_room below = (in_room, below)
put-room count least n Draws (Drawn (Some k)) fits above in_room below = (omega (arith, above, in_room), omega (arith, fits))
put-room count least n (Looks k left a key) (Looked None) fits above in_room below = (in_room, below)
put-room count least n (Looks k left a key) (Looked (Some sheet)) fits above in_room below = (in_room, below)
put-room count least n (Looks k left a key) Refused fits above in_room below = (in_room, below)
put-room count least n (Publishes k left a key) (Kept kept) fits above in_room below = (in_room, below)
put-room count least n (Publishes k left a key) Refused fits above in_room below = (in_room, below)
put-room count least n (Takes k bytes hosts) (Leased None) fits above in_room below = (in_room, below)
put-room count least n (Takes k bytes hosts) (Leased (Some lease)) fits above in_room below = (in_room, below)
put-room count least n (Gives k host replied) Given fits above in_room below = (in_room, below)
put-room count least n _ _ fits above in_room below = elim fits [ ]

pub go-further : (least : ℕ) (works : List Work) (bound more : ℕ) → bound ≤ more → GoUp least works bound → GoUp least works more
go-further least [] bound more le up = omega (arith, le, up)
go-further least (w ∷ works) bound more le up = (up.0, go-further (suc w.done.job) works bound more le up.1)

-- the numbers of works stay below that of the job in work, or the least that may be drawn
pub put-rising : (count least : ℕ) (works : List Work) (p : Phase) (r : Reply) → AnswerFits count p r → IsAbove least r → GoUp 0 works (below_works (job_in_work p) least) → GoUp 0 works (below_works (job_in_work (phase_after p r)) (least_after least r))
put-rising count least works Draws (Drawn None) fits above up = up
put-rising count least works Draws (Drawn (Some k)) fits above up = go-further 0 works least k above up
put-rising count least works (Looks k left a key) (Looked None) fits above up = up
put-rising count least works (Looks k left a key) (Looked (Some sheet)) fits above up = up
put-rising count least works (Looks k left a key) Refused fits above up = up
put-rising count least works (Publishes k left a key) (Kept kept) fits above up = up
put-rising count least works (Publishes k left a key) Refused fits above up = up
put-rising count least works (Takes k bytes hosts) (Leased None) fits above up = up
put-rising count least works (Takes k bytes hosts) (Leased (Some lease)) fits above up = up
put-rising count least works (Gives k host replied) Given fits above up = up
put-rising count least works _ _ fits above up = elim fits [ ]

-- the job in work is the number before the least
abbrev InWork : Phase → ℕ → Type 0
InWork p least = (n : ℕ) → job_in_work p ≡ Some n → least ≡ suc n

drawn-next : (k n : ℕ) → Some k ≡ Some n → k + 1 ≡ suc n
drawn-next k n e = let same : k ≡ n = cc in omega (arith, same)

pub put-in-work : (count least : ℕ) (p : Phase) (r : Reply) → AnswerFits count p r → InWork p least → InWork (phase_after p r) (least_after least r)
put-in-work count least Draws (Drawn None) fits was = was
put-in-work count least Draws (Drawn (Some k)) fits was = λ n e. drawn-next k n e
put-in-work count least (Looks k left a key) (Looked None) fits was = was
put-in-work count least (Looks k left a key) (Looked (Some sheet)) fits was = was
put-in-work count least (Looks k left a key) Refused fits was = was
put-in-work count least (Publishes k left a key) (Kept kept) fits was = was
put-in-work count least (Publishes k left a key) Refused fits was = was
put-in-work count least (Takes k bytes hosts) (Leased None) fits was = was
put-in-work count least (Takes k bytes hosts) (Leased (Some lease)) fits was = was
put-in-work count least (Gives k host replied) Given fits was = was
put-in-work count least _ _ fits was = elim fits [ ]

-- there is room, by the client's new numbers
pub put-has-room : (c : Client) (r : Reply) (least : ℕ) (p : Phase) → least ≡ least_after c.least r → p ≡ phase_after c.phase r → AnswerFits c.jobs c.phase r → IsAbove c.least r → HasRoom c → HasRoom (record c { least = least; phase = p })
put-has-room c r least p least_is phase_is fits above was =
    let stays = put-room c.jobs c.least (vec_len c.records) c.phase r fits above was.enough was.below in
    record {
      enough = subst (λ (x : Phase). one_if_some (job_in_work x) + vec_len c.records ≤ least) (sym phase_is) (subst (λ (n : ℕ). one_if_some (job_in_work (phase_after c.phase r)) + vec_len c.records ≤ n) (sym least_is) stays.0);
      below = subst (λ (n : ℕ). n ≤ c.jobs) (sym least_is) stays.1;
      room = was.room;
    }

-- ---- the facts of the phase ----

module _ (known : Known) (jobs : List Job) (hosts : List Host) where
  -- an answer that makes no call on the memo
  no-call : (p : Phase) (calls : List SheetCall) (from now : EndSeen) → Current known jobs hosts p calls from now → Current known jobs hosts p (calls ++ []) from now
  no-call p calls from now h = subst (λ (l : List SheetCall). Current known jobs hosts p l from now) (sym (append-nil calls)) h

  pub put-current : (count : ℕ) (p : Phase) (r : Reply) (calls : List SheetCall) (from now : EndSeen) → AnswerFits count p r → count ≤ length jobs → IsRightReply known p r → 0 < length hosts
      → Current known jobs hosts p calls from now → Current known jobs hosts (phase_after p r) (calls ++ call_by p r) from now
  put-current count Draws (Drawn None) calls from now fits many right some h = (h.0, append-nil calls ∙ h.1)
  put-current count Draws (Drawn (Some k)) calls from now fits many right some h = let job = get_within jobs k (omega (arith, fits, many)) in (job.0, job.1, (h.0, append-nil calls ∙ h.1))
  put-current count (Looks k left a key) (Looked None) calls from now fits many right some h = (h.0, h.1, looked-miss known h.0 a key calls from now h.2)
  put-current count (Looks k left a key) (Looked (Some sheet)) calls from now fits many right some h = (h.0, h.1, looked-hit known h.0 a key calls from now sheet h.2 right)
  put-current count (Looks k left a key) Refused calls from now fits many right some h =
      no-call (phase_after (Looks k left a key) Refused) calls from now (h.0, h.1, look-refused known h.0 hosts a key calls from now h.2 (some-host hosts some))
  put-current count (Publishes k left a key) (Kept kept) calls from now fits many right some h = (h.0, h.1, published-kept known h.0 a key kept calls from now h.2)
  put-current count (Publishes k left a key) Refused calls from now fits many right some h =
      no-call (phase_after (Publishes k left a key) Refused) calls from now (h.0, h.1, publication-refused known h.0 hosts a key calls from now h.2 (some-host hosts some))
  put-current count (Takes k bytes n) (Leased None) calls from now fits many right some h = no-call (Wants k bytes) calls from now h
  put-current count (Takes k bytes n) (Leased (Some lease)) calls from now fits many right some h = no-call (Calls k bytes n lease) calls from now h
  put-current count (Gives k host replied) Given calls from now fits many right some h = no-call (Concludes k replied) calls from now (h.0, h.1, h.2.0)
  put-current count _ _ calls from now fits many right some h = elim fits [ ]

  -- the client's ledger has the answer's call more
  put-holds-by : (c : Client) (r : Reply) (ledger : Ledger) (first now : EndSeen) → AnswerFits c.jobs c.phase r → IsAbove c.least r → c.jobs ≤ length jobs → IsRightReply known c.phase r → 0 < length hosts
      → ClientHolds known jobs hosts c ledger first now → ClientHolds known jobs hosts (record c { least = least_after c.least r; phase = phase_after c.phase r }) (with_calls ledger (call_by c.phase r)) first now
  put-holds-by c r ledger first now fits above many right some was = record {
    records_are = was.records_are;
    by_client = was.by_client;
    each = was.each;
    rising = put-rising c.jobs c.least ledger.works c.phase r fits above was.rising;
    in_work = put-in-work c.jobs c.least c.phase r fits was.in_work;
    ends = was.ends;
    current = put-current c.jobs c.phase r ledger.calls ledger.from now fits many right some was.current;
  }

  pub put-holds : (c : Client) (r : Reply) (least : ℕ) (p : Phase) (ledger : Ledger) (first now : EndSeen) → least ≡ least_after c.least r → p ≡ phase_after c.phase r → AnswerFits c.jobs c.phase r → IsAbove c.least r → c.jobs ≤ length jobs
      → IsRightReply known c.phase r → 0 < length hosts → ClientHolds known jobs hosts c ledger first now
      → ClientHolds known jobs hosts (record c { least = least; phase = p }) (with_calls ledger (call_by c.phase r)) first now
  put-holds c r least p ledger first now least_is phase_is fits above many right some was =
      subst (λ (n : ℕ). ClientHolds known jobs hosts (record c { least = n; phase = p }) (with_calls ledger (call_by c.phase r)) first now) (sym least_is)
      (subst (λ (x : Phase). ClientHolds known jobs hosts (record c { least = least_after c.least r; phase = x }) (with_calls ledger (call_by c.phase r)) first now) (sym phase_is)
      (put-holds-by c r ledger first now fits above many right some was))
