-- A request that was read whole.
use Rattle.std.proofs.Common.{◌≡◌, List, ℕ, Option, None, Some, refl, sym, ◌∙◌, ap, subst}
use Rattle.std.specs.Option.{option_map}
use Rattle.tree_model.specs.Entries.{Entries}
use Rattle.job_words.specs.declared.job.Job.{Job}
use Rattle.job_frames.specs.Fields.{Step, short, refused, taken}
use Rattle.job_frames.specs.Outcomes.{Verdict, going, done, reason, whatever_follows}
use Rattle.job_frames.specs.parts.Readers.{request_of}
use Rattle.job_frames.specs.Spelling.{IsRequest}
use Rattle.job_frames.specs.Request.{Got, request_at}
use Rattle.job_frames.specs.Laws.{RequestsAreSpelled}

-- a verdict that gives a request is that of its job and entries
abbrev pub got_of : Job → Entries → Got
got_of job entries = record { job = Some job; entries = entries }

by-job : (o : Option Job) (all entries : Entries) (job : Job) → option_map {U = Job × Entries} (λ j. (j, all)) o ≡ Some (job, entries) → done (record { job = o; entries = all }) ≡ done (got_of job entries)
by-job None all entries job e = absurd (cc)
by-job (Some other) all entries job e =
    let same : ◌≡◌ {A = Option (Job × Entries)} (Some (other, all)) (Some (job, entries)) = e in
    let pair : ◌≡◌ {A = Job × Entries} (other, all) (job, entries) = cc in
    ap (λ (p : Job × Entries). done (got_of p.0 p.1)) pair

pub given-by : (v : Verdict Got) (job : Job) (entries : Entries) → request_of v ≡ Some (job, entries) → v ≡ done (got_of job entries)
given-by going job entries e = absurd (cc)
given-by (done got) job entries e = by-job got.job got.entries entries job e
given-by (reason n) job entries e = absurd (cc)

-- a whole request has a job, and is within the limits
pub request-of : RequestsAreSpelled → (read : List ℕ) (got : Got) → whatever_follows (request_at read) ≡ done got → (job : Job) × IsRequest job got.entries
request-of spelled read got e = by_step (request_at read) refl e
  where
    by_step : (s : Step Got) → request_at read ≡ s → whatever_follows s ≡ done got → (job : Job) × IsRequest job got.entries
    by_step short is f = absurd (cc)
    by_step (refused n) is f = absurd (cc)
    by_step (taken a rest) is f =
        let same : a ≡ got = cc in
        let request = spelled read a rest is in
        (request.0, subst (λ (g : Got). IsRequest request.0 g.entries) same request.2)

some-job : (o : Option Job) (entries : Entries) (job : Job) → o ≡ Some job → option_map {U = Job × Entries} (λ j. (j, entries)) o ≡ None → ⊥
some-job None entries job is none = cc
some-job (Some j) entries job is none = cc

-- a whole request has a job
pub never-none : RequestsAreSpelled → (read : List ℕ) (got : Got) → whatever_follows (request_at read) ≡ done got → request_of (done got) ≡ None → ⊥
never-none spelled read got e none = by_step (request_at read) refl e
  where
    by_step : (s : Step Got) → request_at read ≡ s → whatever_follows s ≡ done got → ⊥
    by_step short is f = absurd (cc)
    by_step (refused n) is f = absurd (cc)
    by_step (taken a rest) is f =
        let same : a ≡ got = cc in
        let request = spelled read a rest is in
        some-job got.job got.entries request.0 (ap (λ (g : Got). g.job) (sym same) ∙ request.1) none
