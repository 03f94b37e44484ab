-- What was done at an end, one moment after another.
use Rattle.std.proofs.Common.{◌≡◌, ℕ, ◌+◌, ◌-◌, ◌^◌, min, ◌≤◌, List, [], ◌++◌, Option, None, Some, IfSome, refl, sym, ap, ◌∙◌, subst, arith, append-nil, append_assoc}
use Rattle.std.specs.Option.{ForSome}
use Rattle.base_types.specs.Causes.{Rose}
use Rattle.base_types.specs.Told.{added}
use Rattle.tree_model.specs.Trees.{FileTree}
use Rattle.job_words.specs.declared.job.Job.{Job}
use Rattle.io_edges.specs.declared.wire.Exchange.{Exchange}
use Rattle.io_edges.specs.declared.wire.Host.{Host}
use Rattle.daemon_cpp.specs.Prep.{outcome_over}
use Rattle.daemon_cpp.specs.declared.outcome.Outcome.{Outcome}
use Rattle.daemon_cpp.specs.declared.outcome.Outcome.TheVariants as outcome
use Rattle.job_ends.specs.declared.record.Done.{Done}
use Rattle.job_ends.specs.declared.record.Way.{Way}
use Rattle.job_ends.specs.declared.record.Way.TheVariants.{Remote, Local, Broken}
use Rattle.job_ends.specs.declared.record.Cause.{Cause}
use Rattle.job_ends.specs.declared.record.Cause.TheVariants as cause
use Rattle.job_ends.specs.declared.record.JobOutcome.{JobOutcome}
use Rattle.job_ends.specs.declared.record.JobOutcome.TheVariants as end
use Rattle.job_ends.specs.declared.asking.Replied.{Replied}
use Rattle.job_ends.specs.declared.asking.Replied.TheVariants.{Text, Diag, Failed}
use Rattle.job_ends.specs.declared.steps.Prepared.TheVariants.{Request}
use Rattle.job_ends.specs.Outside.{EndSeen}
use Rattle.job_ends.specs.Record.{Known, known, IsRequestForJob, WayHolds, OutcomeHolds, GivesOutcome, DidJob, Did, deeds_of}
use Rattle.job_ends.specs.Steps.{way_of, GivesReply, IsSettled, Asks, OutcomeOf, EndsWithoutExchange, PutsText, DoesLocally, Prepares, Concludes}

-- ---- counts ----

min-on : (first before last now late : ℕ) → first ≤ before → now ≤ late → min (before + 1) last ≤ now → min (first + 1) last ≤ late
min-on first before last now late le on rose = omega (arith, le, on, rose)

-- a count that rose within a time rose over a longer one
pub rose-on : (first before now late : ℕ) → first ≤ before → now ≤ late → Rose before now → Rose first late
rose-on first before now late le on rose = min-on first before (2 ^ 64 - 1) now late le on rose

-- ---- told contents ----

pub added-nil : {A : Type 0} (told : Option (List A)) → told ≡ added [] told
added-nil None = refl
added-nil (Some xs) = ap Some (sym (append-nil xs))

pub added-more : {A : Type 0} (xs ys : List A) (told : Option (List A)) → added ys (added xs told) ≡ added (xs ++ ys) told
added-more xs ys None = refl
added-more xs ys (Some zs) = ap Some (append_assoc zs xs ys)

-- ---- what was done ----

-- what was done in one time, and then in the next, is what was done in both
pub did-then : (exchanges more : List Exchange) (put also : List (List ℕ × List ℕ)) (from before now : EndSeen) → Did exchanges put from before → Did more also before now → Did (exchanges ++ more) (put ++ also) from now
did-then exchanges more put also from before now a b = record {
  talk = b.talk ∙ ap (added more) a.talk ∙ added-more exchanges more from.talk;
  kept = b.kept ∙ ap (added also) a.kept ∙ added-more put also from.kept;
  told = b.told ∙ a.told;
  tree = let le = a.tree in let on = b.tree in omega (arith, le, on);
  wire = let le = a.wire in let on = b.wire in omega (arith, le, on);
  outs = let le = a.outs in let on = b.outs in omega (arith, le, on);
}

did-nothing-after : (exchanges : List Exchange) (put : List (List ℕ × List ℕ)) (from before now : EndSeen) → Did exchanges [] from before → Did [] put before now → Did exchanges put from now
did-nothing-after exchanges put from before now a b =
    subst (λ (l : List Exchange). Did l put from now) (append-nil exchanges) (did-then exchanges [] [] put from before now a b)

-- ---- ways and outcomes, over a longer time ----

pub way-on : (known : Known) (job : Job) (exchanges : List Exchange) (put also : List (List ℕ × List ℕ)) (from before now late : EndSeen) (r : Replied) → from.wire_faults ≤ before.wire_faults → now.wire_faults ≤ late.wire_faults
    → WayHolds known job (deeds_of exchanges put before now) (way_of r) → WayHolds known job (deeds_of exchanges also from late) (way_of r)
way-on known job exchanges put also from before now late (Text body) le on way = way
way-on known job exchanges put also from before now late (Diag words) le on way = way
way-on known job exchanges put also from before now late (Failed cause.Link) le on way = (way.0, (way.1.0, rose-on from.wire_faults before.wire_faults now.wire_faults late.wire_faults le on way.1.1))
way-on known job exchanges put also from before now late (Failed cause.Peer) le on way = way
way-on known job exchanges put also from before now late (Failed cause.DaemonMemory) le on way = way
way-on known job exchanges put also from before now late (Failed cause.Memory) le on way = way
way-on known job exchanges put also from before now late (Failed (cause.Analysis refusal)) le on way = way

gives-on : (known : Known) (job : Job) (exchanges : List Exchange) (put also : List (List ℕ × List ℕ)) (from before now late : EndSeen) (r : Replied) → GivesReply known job (deeds_of exchanges put before now) r → GivesReply known job (deeds_of exchanges also from late) r
gives-on known job exchanges put also from before now late (Text body) gives = gives
gives-on known job exchanges put also from before now late (Diag words) gives = gives
gives-on known job exchanges put also from before now late (Failed why) gives = gives

-- a job that was settled before it was asked about is settled from an earlier moment too
pub settled-from : (known : Known) (job : Job) (host : Host) (r : Replied) (from before now : EndSeen) → Did [] [] from before → IsSettled known job host r before now → IsSettled known job host r from now
settled-from known job host r from before now did was =
    let on : now.wire_faults ≤ now.wire_faults = omega arith in
    record {
      exchanges = was.exchanges;
      did = did-then [] was.exchanges [] [] from before now did was.did;
      way = way-on known job was.exchanges [] [] from before now now r did.wire on was.way;
      gives = gives-on known job was.exchanges [] [] from before now now r was.gives;
      host_is = was.host_is;
    }

outcome-on : (known : Known) (job : Job) (exchanges : List Exchange) (put : List (List ℕ × List ℕ)) (from before now : EndSeen) (way : Way) (P : Outcome → Type 0) (result : JobOutcome)
    → from.tree_faults ≤ before.tree_faults → from.outs_faults ≤ before.outs_faults → ((o : Outcome) → P o → GivesOutcome known job (deeds_of exchanges put from now) way o)
    → OutcomeOf job before now put P result → OutcomeHolds known job (deeds_of exchanges put from now) way result
outcome-on known job exchanges put from before now way P (end.Text n) tree outs gives (body, len, put_is, h) = (body, len, put_is, gives (outcome.Text body) h)
outcome-on known job exchanges put from before now way P (end.Diag words) tree outs gives (put_is, h) = (put_is, gives (outcome.Diag words) h)
outcome-on known job exchanges put from before now way P end.TreeFault tree outs gives (put_is, rose) =
    let on : now.tree_faults ≤ now.tree_faults = omega arith in (put_is, rose-on from.tree_faults before.tree_faults now.tree_faults now.tree_faults tree on rose)
outcome-on known job exchanges put from before now way P end.OutFault tree outs gives (put_is, rose) =
    let on : now.outs_faults ≤ now.outs_faults = omega arith in (put_is, rose-on from.outs_faults before.outs_faults now.outs_faults now.outs_faults outs on rose)
outcome-on known job exchanges put from before now way P end.Memory tree outs gives h = h

-- ---- the end of a job ----

module _ (known : Known) (job : Job) (host : Host) (n client : ℕ) (from before now : EndSeen) where
  concluded : (r : Replied) (P : Outcome → Type 0) (result : JobOutcome) (was : IsSettled known job host r from before) (ends : EndsWithoutExchange job P result before now)
      → ((o : Outcome) → P o → GivesOutcome known job (deeds_of was.exchanges ends.put from now) (way_of r) o) → (way_of r ≡ Broken → ⊥)
      → (did : DidJob known job host (record { job = n; client = client; outcome = result; way = way_of r }) from now) × (did.exchanges ≡ was.exchanges)
  concluded r P result was ends gives never =
      let first = was.did in
      let le : from.wire_faults ≤ from.wire_faults = omega arith in (
        record {
          exchanges = was.exchanges;
          put = ends.put;
          did = did-nothing-after was.exchanges ends.put from before now first ends.did;
          recorded = record {
            way = way-on known job was.exchanges [] ends.put from from before now r le ends.did.wire was.way;
            outcome = outcome-on known job was.exchanges ends.put from before now (way_of r) P result first.tree first.outs gives ends.outcome_is;
            broken = λ e. elim (never e) [ ];
          };
          host_is = was.host_is;
        },
        refl,
      )

  pub text-concluded : (text : List ℕ) (result : JobOutcome) (was : IsSettled known job host (Text text) from before) → PutsText job text before now result
      → (did : DidJob known job host (record { job = n; client = client; outcome = result; way = Remote }) from now) × (did.exchanges ≡ was.exchanges)
  text-concluded text result was puts =
      concluded (Text text) (λ o. o ≡ outcome.Text text) result was puts
      (λ o e. subst (λ (x : Outcome). GivesOutcome known job (deeds_of was.exchanges puts.put from now) Remote x) (sym e) was.gives) (λ e. absurd (cc))

  pub local-concluded : (why : Cause) (result : JobOutcome) (was : IsSettled known job host (Failed why) from before) → EndsWithoutExchange job (λ o. ForSome known.named (λ tree. known.gives tree job ≡ o)) result before now
      → (did : DidJob known job host (record { job = n; client = client; outcome = result; way = Local why }) from now) × (did.exchanges ≡ was.exchanges)
  local-concluded why result was does =
      concluded (Failed why) (λ o. ForSome known.named (λ tree. known.gives tree job ≡ o)) result was does (λ o h. h) (λ e. absurd (cc))

pub did-nothing : (e : EndSeen) → Did [] [] e e
did-nothing e = record { talk = added-nil e.talk; kept = added-nil e.kept; told = refl; tree = omega arith; wire = omega arith; outs = omega arith }

-- a diagnostic ends a job with nothing put
pub diag-concluded : (known : Known) (job : Job) (host : Host) (n client : ℕ) (from now : EndSeen) (words : List ℕ) (was : IsSettled known job host (Diag words) from now)
    → (did : DidJob known job host (record { job = n; client = client; outcome = end.Diag words; way = Remote }) from now) × (did.exchanges ≡ was.exchanges)
diag-concluded known job host n client from now words was =
    concluded known job host n client from now now (Diag words) (λ o. o ≡ outcome.Diag words) (end.Diag words) was (record { put = []; did = did-nothing now; outcome_is = (refl, refl) })
    (λ o e. subst (λ (x : Outcome). GivesOutcome known job (deeds_of was.exchanges [] from now) Remote x) (sym e) was.gives) (λ e. absurd (cc))

-- a fact of a told tree is one of the named tree, where the named tree is told
pub told-named : (told named : Option FileTree) (P : FileTree → Type 0) → ((tree : FileTree) → named ≡ Some tree → told ≡ Some tree) → IfSome told P → ForSome named P
told-named told named P tells h tree is = subst (λ (o : Option FileTree). IfSome o P) (tells tree is) h

tree-then-put : (put : List (List ℕ × List ℕ)) (from before now : EndSeen) → Did [] [] from before → Did [] put before now → Did [] put from now
tree-then-put put from before now a b = did-then [] [] [] put from before now a b

outcome-from : (job : Job) (P Q : Outcome → Type 0) (put : List (List ℕ × List ℕ)) (from before now : EndSeen) (result : JobOutcome) → ((o : Outcome) → P o → Q o) → from.tree_faults ≤ before.tree_faults → from.outs_faults ≤ before.outs_faults
    → OutcomeOf job before now put P result → OutcomeOf job from now put Q result
outcome-from job P Q put from before now (end.Text n) f tree outs (body, len, put_is, h) = (body, len, put_is, f (outcome.Text body) h)
outcome-from job P Q put from before now (end.Diag words) f tree outs (put_is, h) = (put_is, f (outcome.Diag words) h)
outcome-from job P Q put from before now end.TreeFault f tree outs (put_is, rose) =
    let on : now.tree_faults ≤ now.tree_faults = omega arith in (put_is, rose-on from.tree_faults before.tree_faults now.tree_faults now.tree_faults tree on rose)
outcome-from job P Q put from before now end.OutFault f tree outs (put_is, rose) =
    let on : now.outs_faults ≤ now.outs_faults = omega arith in (put_is, rose-on from.outs_faults before.outs_faults now.outs_faults now.outs_faults outs on rose)
outcome-from job P Q put from before now end.Memory f tree outs h = h

-- a text that was made with no exchange and nothing put, and then is put
pub local-text : (named : Option FileTree) (job : Job) (text : List ℕ) (from before now : EndSeen) (result : JobOutcome) → Did [] [] from before → ForSome named (λ tree. outcome_over tree job ≡ outcome.Text text)
    → PutsText job text before now result → DoesLocally named job from now result
local-text named job text from before now result did made puts = record {
  put = puts.put;
  did = tree-then-put puts.put from before now did puts.did;
  outcome_is = outcome-from job (λ o. o ≡ outcome.Text text) (λ o. ForSome named (λ tree. outcome_over tree job ≡ o)) puts.put from before now result
      (λ o e tree named_is. made tree named_is ∙ sym e) did.tree did.outs puts.outcome_is;
}

-- what preprocessing gave over the told tree, it gives over the named one
pub given-named : (told named : Option FileTree) (job : Job) (got o : Outcome) → got ≡ o → ((tree : FileTree) → named ≡ Some tree → told ≡ Some tree) → IfSome told (λ tree. got ≡ outcome_over tree job) → ForSome named (λ tree. outcome_over tree job ≡ o)
given-named told named job got o e tells h tree is = sym (told-named told named (λ (t : FileTree). got ≡ outcome_over t job) tells h tree is) ∙ e

-- a job that was prepared, asked about and concluded is done
pub asked-then-concluded : (named : Option FileTree) (budget : ℕ) (job : Job) (host : Host) (request sent : List ℕ) (r : Replied) (done : Done) (from prepared_at asked_at now : EndSeen)
    → sent ≡ request → Prepares (known named budget) job (Request request) from prepared_at → Asks host sent prepared_at asked_at r → Concludes named job r asked_at now done
    → DidJob (known named budget) job host done from now
asked-then-concluded named budget job host request sent r done from prepared_at asked_at now same prepares asks concludes =
    let is : IsRequestForJob (known named budget) job sent = subst (λ (l : List ℕ). IsRequestForJob (known named budget) job l) (sym same) prepares.holds.0 in
    (concludes budget host from (settled-from (known named budget) job host r from prepared_at asked_at prepares.did (asks (known named budget) job is prepares.holds.1))).0

-- how a job ends, by an equation of its reply
pub by-reply : (known : Known) (job : Job) (host : Host) (done : Done) (from before now : EndSeen) (r s : Replied) → r ≡ s
    → ((was : IsSettled known job host s from before) → (did : DidJob known job host done from now) × (did.exchanges ≡ was.exchanges))
    → (was : IsSettled known job host r from before) → (did : DidJob known job host done from now) × (did.exchanges ≡ was.exchanges)
by-reply known job host done from before now r s e ends =
    subst (λ (x : Replied). (was : IsSettled known job host x from before) → (did : DidJob known job host done from now) × (did.exchanges ≡ was.exchanges)) (sym e) ends
