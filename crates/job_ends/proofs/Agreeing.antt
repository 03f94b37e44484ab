-- Records and the whole tree, where hosts answer as daemons do.
use Rattle.std.proofs.Common.{◌≡◌, ◌⊎◌, ℕ, ◌≤◌, List, [], ◌∷◌, ◌++◌, length, false, Some, refl, sym, ap, ◌∙◌, subst, inl, inr, arith, append-nil, IsTrue}
use Rattle.std.specs.List.{AllByRecursion}
use Rattle.std.proofs.lemmas.Bool.{cases_lt}
use Rattle.base_types.specs.Members.{Member}
use Rattle.base_types.specs.Limits.{entry_limit, body_limit, request_limit}
use Rattle.tree_model.specs.Paths.{Path}
use Rattle.tree_model.specs.Entries.{Entries, makes_tree}
use Rattle.tree_model.specs.Trees.{FileTree, IsTree, tree_of, entry_body}
use Rattle.tree_model.specs.declared.entry.Entry.{Entry}
use Rattle.tree_model.specs.declared.entry.Entry.TheVariants.{Dir, File, Link}
use Rattle.job_words.specs.declared.job.Job.{Job}
use Rattle.job_words.specs.Words.{IsJob, JobsAreShort}
use Rattle.io_edges.specs.declared.wire.Exchange.{Exchange}
use Rattle.io_edges.specs.Talk.{IsAnswered}
use Rattle.job_frames.specs.declared.answer.Answer.{Answer}
use Rattle.job_frames.specs.declared.answer.Answer.TheVariants as answer
use Rattle.job_frames.specs.Daemon.{Daemon, IsReply}
use Rattle.job_frames.specs.Outcomes.{Verdict, done, whatever_follows}
use Rattle.job_frames.specs.Spelling.{FitsRequest, IsSmall, request_bytes, IsAnswer, reply_bytes}
use Rattle.job_frames.specs.Request.{Got, request_at}
use Rattle.job_frames.specs.Laws.{RequestsAreWhole, TreesMakeRequests, RepliesAreApart}
use Rattle.daemon_cpp.specs.declared.outcome.Outcome.{Outcome}
use Rattle.daemon_cpp.specs.declared.outcome.Outcome.TheVariants as outcome
use Rattle.daemon_cpp.specs.Prep.{outcome_over}
use Rattle.daemon_answers.specs.Answers.{carried, Answers}
use Rattle.closure_fixpoint.specs.declared.job_analysis.Refusal.TheVariants as refusal
use Rattle.closure_fixpoint.specs.Analysis.{AreEntriesOf, NothingHolds, IsRequestOf}
use Rattle.job_ends.specs.declared.record.Way.{Way}
use Rattle.job_ends.specs.declared.record.Way.TheVariants.{Remote, Local, Broken}
use Rattle.job_ends.specs.declared.record.Cause.TheVariants as cause
use Rattle.job_ends.specs.declared.record.JobOutcome.{JobOutcome}
use Rattle.job_ends.specs.declared.record.JobOutcome.TheVariants as end
use Rattle.job_ends.specs.Record.{Deeds, known, IsNoAnswer, WayHolds, OutcomeHolds, GivesOutcome}
use Rattle.job_ends.specs.Agree.{AreServed, EntriesAreEnough, AgreesWith, AreStill, IsNoFault, IsCalm, RecordsAgree, NoPeers, RecordsAreCalm, is_peer}

-- ---- a job's entries fit into a request ----

each-small : (es : Entries) → ((path : Path) (entry : Entry) → Member (path, entry) es → IsSmall entry) → AllByRecursion (λ (e : Path × Entry). IsSmall e.1) es
each-small [] f = tt
each-small (e ∷ es) f = (f e.0 e.1 (inl refl), each-small es (λ path entry m. f path entry (inr m)))

module _ (tree : FileTree) (budget : ℕ) (job : Job) (entries : Entries) (are : AreEntriesOf tree job entries) (none : NothingHolds tree job budget) where
  entry-small : (path : Path) (entry : Entry) → Member (path, entry) entries → IsSmall entry
  entry-small path Dir m = tt
  entry-small path (Link text) m = tt
  entry-small path (File body) m = elim (cases_lt body_limit (length body)) [
    | inl large ↦ absurd (none refusal.Large (path, are.nodes path (File body) m, (body, ap entry_body (are.same path (File body) m), large)))
    | inr fits ↦ fits
  ]

  few : length entries ≤ entry_limit
  few = elim (cases_lt entry_limit (length entries)) [ inl many ↦ absurd (none refusal.Request (entries, are, inl many)) | inr le ↦ le ]

  short : length (request_bytes job entries) ≤ request_limit
  short = elim (cases_lt request_limit (length (request_bytes job entries))) [ inl long ↦ absurd (none refusal.Request (entries, are, inr long)) | inr le ↦ le ]

  fits-request : JobsAreShort → IsJob job → IsTrue (makes_tree entries) → FitsRequest job entries
  fits-request jobs is made =
      let fits = jobs job.setup.cwd job.words job is in
      record {
        is_job = is;
        place = fits.place;
        few_words = fits.few;
        words = fits.each;
        tree = made;
        few = few;
        bodies = each-small entries entry-small;
      }

-- ---- what the daemon said ----

-- it says what preprocessing gives, or wants memory
abbrev pub Said : Job → Entries → List ℕ → Type 0
Said job entries received = (a : Answer) × IsAnswer a × (received ≡ reply_bytes a) × ((a ≡ carried (outcome_over (tree_of entries) job)) ⊎ (a ≡ answer.Refused 1))

said : (job : Job) (entries : Entries) (sent received : List ℕ) → whatever_follows (request_at sent) ≡ done (record { job = Some job; entries = entries }) → Daemon Answers sent received → Said job entries received
said job entries sent received verdict (inl reply) =
    let got = subst (λ (v : Verdict Got). IsReply Answers v received) verdict reply in
    (got.0, got.2, got.3, inl got.1)
said job entries sent received verdict (inr starved) = (answer.Refused 1, (omega arith, omega arith), starved, inr refl)

carried-apart : (o p : Outcome) → carried o ≡ carried p → o ≡ p
carried-apart (outcome.Text a) (outcome.Text b) e = cc
carried-apart (outcome.Text a) (outcome.Diag b) e = absurd (cc)
carried-apart (outcome.Diag a) (outcome.Text b) e = absurd (cc)
carried-apart (outcome.Diag a) (outcome.Diag b) e = cc

carried-refused : (o : Outcome) (n : ℕ) → carried o ≡ answer.Refused n → ⊥
carried-refused (outcome.Text a) n e = cc
carried-refused (outcome.Diag a) n e = cc

same-bytes : (x y z : List ℕ) → z ≡ x → z ≡ y → x ++ [] ≡ y ++ []
same-bytes x y z e f = ap (λ (l : List ℕ). l ++ []) (sym e ∙ f)

-- a text or a diagnostic that the daemon said is what preprocessing gives
said-outcome : RepliesAreApart → (job : Job) (entries : Entries) (received : List ℕ) (o : Outcome) → IsAnswer (carried o) → received ≡ reply_bytes (carried o) → Said job entries received → outcome_over (tree_of entries) job ≡ o
said-outcome apart job entries received o fits is (a, fits_a, is_a, inl says) =
    let same = (apart (carried o) a [] [] fits fits_a (same-bytes (reply_bytes (carried o)) (reply_bytes a) received is is_a)).0 in
    sym (carried-apart o (outcome_over (tree_of entries) job) (same ∙ says))
said-outcome apart job entries received o fits is (a, fits_a, is_a, inr starved) =
    let same = (apart (carried o) a [] [] fits fits_a (same-bytes (reply_bytes (carried o)) (reply_bytes a) received is is_a)).0 in
    absurd (carried-refused o 1 (same ∙ starved))

-- a refusal for another reason isn't what the daemon says, with anything behind it
said-no-refusal : RepliesAreApart → (job : Job) (entries : Entries) (n : ℕ) (rest : List ℕ) → 2 ≤ n → n ≤ 9 → Said job entries (reply_bytes (answer.Refused n) ++ rest) → ⊥
said-no-refusal apart job entries n rest low high (a, fits_a, is_a, says) =
    let same = (apart (answer.Refused n) a rest [] (omega (arith, low), high) fits_a (is_a ∙ sym (append-nil (reply_bytes a)))).0 in
    elim says [
      | inl e ↦ carried-refused (outcome_over (tree_of entries) job) n (sym (same ∙ e))
      | inr e ↦ (let one : n ≡ 1 = (let both : answer.Refused n ≡ answer.Refused 1 = same ∙ e in cc) in omega (arith, low, one))
    ]

no-empty-refusal : RepliesAreApart → (n : ℕ) → 2 ≤ n → n ≤ 9 → [] ≡ reply_bytes (answer.Refused n) → ⊥
no-empty-refusal apart n low high e =
    let one = (apart (answer.Refused n) (answer.Refused 1) (reply_bytes (answer.Refused 1)) [] (omega (arith, low), high) (omega arith, omega arith)
    (ap (λ (l : List ℕ). l ++ reply_bytes (answer.Refused 1)) (sym e) ∙ sym (append-nil (reply_bytes (answer.Refused 1))))).0 in
    let same : n ≡ 1 = cc in omega (arith, low, same)

-- what the daemon said is an answer
said-answer : RepliesAreApart → (job : Job) (entries : Entries) (e : Exchange) → ((received : List ℕ) → Daemon Answers e.sent received → Said job entries received) → IsAnswered (Daemon Answers) e → IsNoAnswer e.received e.ended → ⊥
said-answer apart job entries e says answered (inl begins_none) = begun answered.so_far
  where
    begun : (e.received ≡ []) ⊎ ((rest : List ℕ) × Daemon Answers e.sent (e.received ++ rest)) → ⊥
    begun (inl nothing) = begins_none (answer.Refused 1) (reply_bytes (answer.Refused 1)) (omega arith, omega arith) (ap (λ (l : List ℕ). l ++ reply_bytes (answer.Refused 1)) nothing)
    begun (inr (rest, daemon)) = let a = says (e.received ++ rest) daemon in begins_none a.0 rest a.1 a.2
said-answer apart job entries e says answered (inr (inl (ended, no_reply))) = let a = says e.received (answered.whole ended) in no_reply a.0 a.1 a.2
said-answer apart job entries e says answered (inr (inr (n, low, high, refused))) = begun answered.so_far
  where
    begun : (e.received ≡ []) ⊎ ((rest : List ℕ) × Daemon Answers e.sent (e.received ++ rest)) → ⊥
    begun (inl nothing) = no-empty-refusal apart n low high (sym nothing ∙ refused)
    begun (inr (rest, daemon)) = said-no-refusal apart job entries n rest low high (subst (λ (l : List ℕ). Said job entries (l ++ rest)) refused (says (e.received ++ rest) daemon))

-- ---- one job ----

only-one : (a b : Exchange) (exchanges : List Exchange) → exchanges ≡ a ∷ [] → exchanges ≡ b ∷ [] → a ≡ b
only-one a b exchanges e f = let same : a ∷ [] ≡ b ∷ [] = sym e ∙ f in cc

module _ (jobs : JobsAreShort) (whole_requests : RequestsAreWhole) (trees : TreesMakeRequests) (apart : RepliesAreApart) (enough : EntriesAreEnough) where
  module _ (tree : FileTree) (budget : ℕ) (job : Job) (is_tree : IsTree tree) (is_job : IsJob job) (deeds : Deeds) (served : AreServed deeds.exchanges) where
    -- whatever the daemon answers to the request, it says it of the job's entries
    says : (sent : List ℕ) (none : NothingHolds tree job budget) (is : IsRequestOf tree job sent) (received : List ℕ) → Daemon Answers sent received → Said job is.0 received
    says sent none is received daemon =
        let made = (enough tree job budget is.0 is_tree none is.1).0 in
        let request = trees job is.0 (fits-request tree budget job is.0 is.1 none jobs is_job made) (short tree budget job is.0 is.1 none) in
        said job is.0 sent received (whole_requests job is.0 sent request is.2) daemon

    served-one : (e : Exchange) → deeds.exchanges ≡ e ∷ [] → IsAnswered (Daemon Answers) e
    served-one e one = (subst (λ (l : List Exchange). AllByRecursion (IsAnswered (Daemon Answers)) l) one served).0

    remote : (o : Outcome) → WayHolds (known (Some tree) budget) job deeds Remote → GivesOutcome (known (Some tree) budget) job deeds Remote o → outcome_over tree job ≡ o
    remote o ((e, one, finished, is, (ended, reply)), none) (f, same, finished_f, is_f, (fits, gives)) =
        let nothing = none tree refl in
        let request = is tree refl in
        let e_is_f = only-one e f deeds.exchanges one same in
        let received : e.received ≡ reply_bytes (carried o) = ap (λ (x : Exchange). x.received) e_is_f ∙ gives in
        let answered = says e.sent nothing request e.received ((served-one e one).whole ended) in
        sym (enough tree job budget request.0 is_tree nothing request.1).1 ∙ said-outcome apart job request.0 e.received o fits received answered

    given : (way : Way) (o : Outcome) → WayHolds (known (Some tree) budget) job deeds way → GivesOutcome (known (Some tree) budget) job deeds way o → outcome_over tree job ≡ o
    given Remote o holds gives = remote o holds gives
    given (Local why) o holds gives = gives tree refl
    given Broken o holds gives = absurd gives

    agree : (way : Way) (result : JobOutcome) → WayHolds (known (Some tree) budget) job deeds way → OutcomeHolds (known (Some tree) budget) job deeds way result → AgreesWith (outcome_over tree job) result deeds.put job
    agree way (end.Text n) holds (body, len, put_is, gives) = (body, len, given way (outcome.Text body) holds gives, put_is)
    agree way (end.Diag words) holds (put_is, gives) = (given way (outcome.Diag words) holds gives, put_is)
    agree way end.TreeFault holds result = tt
    agree way end.OutFault holds result = tt
    agree way end.Memory holds result = tt

    never-peer : WayHolds (known (Some tree) budget) job deeds (Local cause.Peer) → ⊥
    never-peer ((e, one, finished, is, no_answer), none) =
        let request = is tree refl in
        said-answer apart job request.0 e (says e.sent (none tree refl) request) (served-one e one) no_answer

    no-peer : (way : Way) → WayHolds (known (Some tree) budget) job deeds way → is_peer way ≡ false
    no-peer Remote holds = refl
    no-peer (Local (cause.Analysis refused)) holds = refl
    no-peer (Local cause.Link) holds = refl
    no-peer (Local cause.Peer) holds = absurd (never-peer holds)
    no-peer (Local cause.DaemonMemory) holds = refl
    no-peer (Local cause.Memory) holds = refl
    no-peer Broken holds = refl

    no-fault : (way : Way) (result : JobOutcome) → AreStill deeds.before deeds.after → OutcomeHolds (known (Some tree) budget) job deeds way result → IsNoFault result
    no-fault way (end.Text n) still holds = tt
    no-fault way (end.Diag words) still holds = tt
    no-fault way end.TreeFault still (put_is, rose) = still.tree rose
    no-fault way end.OutFault still (put_is, rose) = still.outs rose
    no-fault way end.Memory still holds = tt

    calm : (way : Way) (result : JobOutcome) → AreStill deeds.before deeds.after → WayHolds (known (Some tree) budget) job deeds way → OutcomeHolds (known (Some tree) budget) job deeds way result → IsCalm way result
    calm Remote result still holds outcome_is = no-fault Remote result still outcome_is
    calm (Local (cause.Analysis refused)) result still holds outcome_is = no-fault (Local (cause.Analysis refused)) result still outcome_is
    calm (Local cause.Link) result still holds outcome_is = still.wire holds.1.1
    calm (Local cause.Peer) result still holds outcome_is = never-peer holds
    calm (Local cause.DaemonMemory) result still holds outcome_is = no-fault (Local cause.DaemonMemory) result still outcome_is
    calm (Local cause.Memory) result still holds outcome_is = no-fault (Local cause.Memory) result still outcome_is
    calm Broken result still holds outcome_is = still.tree holds.1

  pub records-agree : RecordsAgree
  records-agree tree budget job result deeds s = agree tree budget job s.whole s.job_is deeds s.served result.way result.outcome s.recorded.way s.recorded.outcome

  pub no-peers : NoPeers
  no-peers tree budget job result deeds s = no-peer tree budget job s.whole s.job_is deeds s.served result.way s.recorded.way

  pub records-are-calm : RecordsAreCalm
  records-are-calm tree budget job result deeds s still = calm tree budget job s.whole s.job_is deeds s.served result.way result.outcome still s.recorded.way s.recorded.outcome
