-- What whole replies say, and what asking a host leaves.
use Rattle.std.proofs.Common.{◌≡◌, ℕ, ◌≤◌, ◌<◌, List, [], ◌∷◌, ◌++◌, length, Bool, true, Option, None, Some, refl, sym, ◌∙◌, subst, inl, inr, arith, append-nil}
use Rattle.std.specs.List.{AllByRecursion}
use Rattle.base_types.specs.Causes.{Rose}
use Rattle.job_words.specs.declared.job.Job.{Job}
use Rattle.io_edges.specs.declared.wire.Exchange.{Exchange}
use Rattle.io_edges.specs.declared.wire.Host.{Host}
use Rattle.job_frames.specs.declared.answer.Answer.{Answer}
use Rattle.job_frames.specs.declared.answer.Answer.TheVariants as answer
use Rattle.job_frames.specs.Fields.{Step, short, refused, taken}
use Rattle.job_frames.specs.Outcomes.{value_of, nothing_follows}
use Rattle.job_frames.specs.Spelling.{IsAnswer, reply_bytes, longest_reply}
use Rattle.job_frames.specs.Reply.{reply_at}
use Rattle.job_frames.specs.Laws.{RepliesAreSpelled, OthersAreNoReplies, RepliesHaveEnds}
use Rattle.daemon_cpp.specs.declared.outcome.Outcome.TheVariants as outcome
use Rattle.closure_fixpoint.specs.Analysis.{IsRequestOf}
use Rattle.job_ends.specs.declared.record.Cause.TheVariants as cause
use Rattle.job_ends.specs.declared.asking.Replied.{Replied}
use Rattle.job_ends.specs.declared.asking.Replied.TheVariants.{Text, Diag, Failed}
use Rattle.job_ends.specs.Exchange.{replied, Began}
use Rattle.job_ends.specs.Outside.{EndSeen}
use Rattle.job_ends.specs.Record.{Known, IsRequestForJob, BeginsRequest, NoneHolds, WayHolds, Tried, IsNoAnswer, Did, deeds_of}
use Rattle.job_ends.specs.Steps.{Says, LinkFails, CameTo, way_of, GivesReply, Asks}

read-whole : RepliesAreSpelled → (bytes : List ℕ) (a : Answer) (s : Step Answer) → reply_at bytes ≡ s → value_of (nothing_follows s) ≡ Some a → IsAnswer a × (bytes ≡ reply_bytes a)
read-whole spelled bytes a short is e = absurd (cc)
read-whole spelled bytes a (refused n) is e = absurd (cc)
read-whole spelled bytes a (taken b []) is e =
    let same : b ≡ a = cc in
    let whole = spelled bytes b [] is in
    subst (λ (x : Answer). IsAnswer x × (bytes ≡ reply_bytes x)) same (whole.0, whole.1 ∙ append-nil (reply_bytes b))
read-whole spelled bytes a (taken b (x ∷ xs)) is e = absurd (cc)

-- what reads as a whole reply is its spelling
pub whole-reply : RepliesAreSpelled → (bytes read : List ℕ) (a : Answer) → read ≡ bytes → Some a ≡ value_of (nothing_follows (reply_at read)) → IsAnswer a × (bytes ≡ reply_bytes a)
whole-reply spelled bytes read a same e =
    read-whole spelled bytes a (reply_at bytes) refl (sym (subst (λ (l : List ℕ). Some a ≡ value_of (nothing_follows (reply_at l))) same e))

-- bytes that are no whole reply are no answer at their end
pub no-reply : OthersAreNoReplies → (bytes read : List ℕ) (ended : Bool) → read ≡ bytes → ended ≡ true → None ≡ value_of (nothing_follows (reply_at read)) → IsNoAnswer bytes ended
no-reply others bytes read ended same end e =
    let none : value_of (nothing_follows (reply_at bytes)) ≡ None = sym (subst (λ (l : List ℕ). ◌≡◌ {A = Option Answer} None (value_of (nothing_follows (reply_at l)))) same e) in
    inr (inl (end, λ a is spelled. others bytes a none is spelled))

-- nor are bytes that are longer than every reply
pub too-long : RepliesHaveEnds → (bytes : List ℕ) (ended : Bool) → longest_reply < length bytes → IsNoAnswer bytes ended
too-long ends bytes ended long = inl (λ a rest is spelled. ends bytes rest a is long spelled)

-- nor is a refusal for another reason than want of memory
pub refused-otherwise : RepliesAreSpelled → (bytes read : List ℕ) (ended : Bool) (n : ℕ) → read ≡ bytes → Some (answer.Refused n) ≡ value_of (nothing_follows (reply_at read)) → (n ≡ 1 → ⊥) → IsNoAnswer bytes ended
refused-otherwise spelled bytes read ended n same e other =
    let whole = whole-reply spelled bytes read (answer.Refused n) same e in
    let low : 1 ≤ n = whole.0.0 in
    inr (inr (n, omega (arith, other, low), whole.0.1, whole.1))

-- ---- asking ----

module _ (known : Known) (job : Job) where
  begins : (request sent rest : List ℕ) → IsRequestForJob known job request → sent ++ rest ≡ request → BeginsRequest known job sent
  begins request sent rest is e tree named = (rest, subst (λ (l : List ℕ). IsRequestOf tree job l) (sym e) (is tree named))

  pub tried : (host : Host) (request : List ℕ) (exchanges : List Exchange) → IsRequestForJob known job request → Began host request exchanges → Tried known job exchanges
  tried host request exchanges is (inl e) = inl e
  tried host request exchanges is (inr (e, one, h, (rest, sent))) = inr (e, one, begins request e.sent rest is sent)

  began-host : (host : Host) (request : List ℕ) (exchanges : List Exchange) → Began host request exchanges → AllByRecursion (λ (e : Exchange). e.host ≡ host) exchanges
  began-host host request exchanges (inl e) = subst (λ (l : List Exchange). AllByRecursion (λ (x : Exchange). x.host ≡ host) l) (sym e) tt
  began-host host request exchanges (inr (e, one, h, rest)) = subst (λ (l : List Exchange). AllByRecursion (λ (x : Exchange). x.host ≡ host) l) (sym one) (h, tt)

  module _ (host : Host) (request received : List ℕ) (ended : Bool) (is : IsRequestForJob known job request) (none : NoneHolds known job) (from now : EndSeen) where
    abbrev pub whole : Exchange
    whole = replied host request received ended

    way : (r : Replied) → Says received ended r → WayHolds known job (deeds_of (whole ∷ []) [] from now) (way_of r)
    way (Text body) (end, fits, reply) = ((whole, refl, refl, is, (end, (outcome.Text body, fits, reply))), none)
    way (Diag words) (end, fits, reply) = ((whole, refl, refl, is, (end, (outcome.Diag words, fits, reply))), none)
    way (Failed cause.DaemonMemory) reply = ((whole, refl, refl, is, reply), none)
    way (Failed cause.Peer) says = ((whole, refl, refl, is, says), none)
    way (Failed cause.Memory) says = inr (whole, refl, begins request request [] is (append-nil request))
    way (Failed cause.Link) says = absurd says
    way (Failed (cause.Analysis refusal)) says = absurd says

    gives : (r : Replied) → Says received ended r → GivesReply known job (deeds_of (whole ∷ []) [] from now) r
    gives (Text body) (end, fits, reply) = (whole, refl, refl, is, (fits, reply))
    gives (Diag words) (end, fits, reply) = (whole, refl, refl, is, (fits, reply))
    gives (Failed why) says = tt

module _ (host : Host) (request : List ℕ) (exchanges : List Exchange) (from now : EndSeen) (did : Did exchanges [] from now) where
  -- the host replied, and the reply was judged
  replied-so : (received : List ℕ) (ended : Bool) (r : Replied) → exchanges ≡ replied host request received ended ∷ [] → Says received ended r → Asks host request from now r
  replied-so received ended r one says known job is none =
      let did_so : Did (replied host request received ended ∷ []) [] from now = subst (λ (l : List Exchange). Did l [] from now) one did in
      record {
        exchanges = replied host request received ended ∷ [];
        did = did_so;
        way = way known job host request received ended is none from now r says;
        gives = gives known job host request received ended is none from now r says;
        host_is = (refl, tt);
      }

  -- the link failed
  lost : Began host request exchanges → Rose from.wire_faults now.wire_faults → Asks host request from now (Failed cause.Link)
  lost began rose known job is none = record {
    exchanges = exchanges;
    did = did;
    way = (tried known job host request exchanges is began, (none, rose));
    gives = tt;
    host_is = began-host known job host request exchanges began;
  }

  -- memory was wanting
  starved : Began host request exchanges → Asks host request from now (Failed cause.Memory)
  starved began known job is none = record {
    exchanges = exchanges;
    did = did;
    way = tried known job host request exchanges is began;
    gives = tt;
    host_is = began-host known job host request exchanges began;
  }

  failed : (r : Replied) → Began host request exchanges → LinkFails from.wire_faults now.wire_faults r → Asks host request from now r
  failed (Text body) began fails = absurd fails
  failed (Diag words) began fails = absurd fails
  failed (Failed cause.Link) began fails = lost began fails
  failed (Failed cause.Memory) began fails = starved began
  failed (Failed cause.DaemonMemory) began fails = absurd fails
  failed (Failed cause.Peer) began fails = absurd fails
  failed (Failed (cause.Analysis refusal)) began fails = absurd fails

-- what asking over the end's wire came to settles each job whose request it was
pub asked-wire : (host : Host) (request : List ℕ) (exchanges : List Exchange) (from now : EndSeen) (r : Replied) → Did exchanges [] from now → CameTo host request from.wire_faults now.wire_faults r exchanges → Asks host request from now r
asked-wire host request exchanges from now r did (inl (received, ended, one, says)) = replied-so host request exchanges from now did received ended r one says
asked-wire host request exchanges from now r did (inr (began, fails)) = failed host request exchanges from now did r began fails
