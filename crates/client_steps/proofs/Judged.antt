-- The exchange of a job and its end.
use Rattle.std.proofs.Common.{arith, ◌≡◌, ℕ, ◌+◌, ◌-◌, ◌≤◌, List, [], length, Option, Some, refl, sym, ap, ◌∙◌, subst, inl, inr, slice_get}
use Rattle.tree_model.specs.Trees.{FileTree}
use Rattle.job_words.specs.declared.job.Job.{Job}
use Rattle.io_edges.specs.declared.wire.Exchange.{Exchange}
use Rattle.io_edges.specs.declared.wire.Host.{Host}
use Rattle.job_ends.specs.Outside.{EndSeen}
use Rattle.job_ends.specs.Record.{Known, known as known_of, Did, WayHolds, deeds_of}
use Rattle.job_ends.specs.Steps.{IsSettled, GivesReply, way_of, Concludes}
use Rattle.job_ends.specs.declared.record.Done.{Done}
use Rattle.job_ends.specs.declared.record.Way.{Way}
use Rattle.job_ends.specs.declared.record.Way.TheVariants.{Remote, Local, Broken}
use Rattle.job_ends.specs.declared.record.Cause.TheVariants as cause
use Rattle.job_ends.specs.declared.asking.Replied.{Replied}
use Rattle.job_ends.specs.declared.asking.Replied.TheVariants.{Text, Diag, Failed}
use Rattle.base_types.specs.Told.{added}
use Rattle.closure_fixpoint.specs.Gathering.{files_among}
use Rattle.job_ends.specs.Looks.{SheetCall, LooksFor, missed}
use Rattle.job_ends.proofs.Deeds.{added-nil}
use Rattle.client_steps.specs.Phases.{RequestIsReady, WayIsSettled, Finished}
use Rattle.client_steps.proofs.Ends.{member-get, at-most, rose-from, reads-same, any-reads}

did-more : (exchanges : List Exchange) (from before now : EndSeen) → Did [] [] from before → Did exchanges [] before now → Did exchanges [] from now
did-more exchanges from before now a b = record {
  talk = b.talk ∙ ap (added exchanges) (a.talk ∙ sym (added-nil from.talk));
  kept = b.kept ∙ ap (added []) (a.kept ∙ sym (added-nil from.kept));
  told = b.told ∙ a.told;
  tree = at-most from.tree_faults before.tree_faults now.tree_faults a.tree b.tree;
  wire = at-most from.wire_faults before.wire_faults now.wire_faults a.wire b.wire;
  outs = at-most from.outs_faults before.outs_faults now.outs_faults a.outs b.outs;
}

-- the way of a reply holds from an earlier moment too
way-from : (known : Known) (of : Job) (exchanges : List Exchange) (from before now : EndSeen) (r : Replied) → from.wire_faults ≤ before.wire_faults
    → WayHolds known of (deeds_of exchanges [] before now) (way_of r) → WayHolds known of (deeds_of exchanges [] from now) (way_of r)
way-from known of exchanges from before now (Text body) le way = way
way-from known of exchanges from before now (Diag words) le way = way
way-from known of exchanges from before now (Failed cause.Link) le way = (way.0, (way.1.0, rose-from from.wire_faults before.wire_faults now.wire_faults le way.1.1))
way-from known of exchanges from before now (Failed cause.Peer) le way = way
way-from known of exchanges from before now (Failed cause.DaemonMemory) le way = way
way-from known of exchanges from before now (Failed cause.Memory) le way = way
way-from known of exchanges from before now (Failed (cause.Analysis r)) le way = way

gives-from : (known : Known) (of : Job) (exchanges : List Exchange) (from before now : EndSeen) (r : Replied) → GivesReply known of (deeds_of exchanges [] before now) r → GivesReply known of (deeds_of exchanges [] from now) r
gives-from known of exchanges from before now (Text body) gives = gives
gives-from known of exchanges from before now (Diag words) gives = gives
gives-from known of exchanges from before now (Failed why) gives = gives

sub-reads : (from before n : ℕ) → before ≤ from + n → before - from ≤ n
sub-reads from before n le = omega (arith, le)

add-reads : (from before now : ℕ) → now ≡ before → now ≤ from + (before - from)
add-reads from before now e = omega (arith, e)

looks-judged : (known : Known) (of : Job) (bytes : List ℕ) (calls : List SheetCall) (from before : EndSeen) (exchanges : List Exchange) (r : Replied) → RequestIsReady known of bytes calls from before
    → LooksFor known of calls (before.reads - from.reads) exchanges (way_of r)
looks-judged known of bytes calls from before exchanges (Text body) was = (was.looks, λ tree named. let files = was.reads tree named in (files.0, files.1, sub-reads from.reads before.reads (length (missed calls) + files_among files.0) files.2))
looks-judged known of bytes calls from before exchanges (Diag words) was = (was.looks, λ tree named. let files = was.reads tree named in (files.0, files.1, sub-reads from.reads before.reads (length (missed calls) + files_among files.0) files.2))
looks-judged known of bytes calls from before exchanges (Failed cause.Link) was = was.looks
looks-judged known of bytes calls from before exchanges (Failed cause.Peer) was = was.looks
looks-judged known of bytes calls from before exchanges (Failed cause.DaemonMemory) was = was.looks
looks-judged known of bytes calls from before exchanges (Failed cause.Memory) was = (record { left = []; looks = was.looks.looks; few = omega arith }, inr was.looks)
looks-judged known of bytes calls from before exchanges (Failed (cause.Analysis r)) was = (record { left = []; looks = was.looks.looks; few = omega arith }, inl was.looks.looks)

pub called : (known : Known) (of : Job) (hosts : List Host) (n : ℕ) (host : Host) (bytes : List ℕ) (calls : List SheetCall) (from before now : EndSeen) (r : Replied) → slice_get hosts n ≡ Some host → RequestIsReady known of bytes calls from before
    → IsSettled known of host r before now → now.reads ≡ before.reads → (judged : WayIsSettled known of hosts r calls from now) × (slice_get hosts n ≡ Some judged.host)
called known of hosts n host bytes calls from before now r listed was asked same =
    let first = was.did in (
      record {
        host = host;
        listed = member-get hosts n host listed;
        settled = record {
          exchanges = asked.exchanges;
          did = did-more asked.exchanges from before now was.did asked.did;
          way = way-from known of asked.exchanges from before now r first.wire asked.way;
          gives = gives-from known of asked.exchanges from before now r asked.gives;
          host_is = asked.host_is;
        };
        reads = before.reads - from.reads;
        looks = looks-judged known of bytes calls from before asked.exchanges r was;
        read = add-reads from.reads before.reads now.reads same;
      },
      listed,
    )

-- ---- the end of a job ----

-- the reads of a job that ends: they stay where it is remote, and else they may be as many as the count says
abbrev reads-after : ℕ → ℕ → Way → ℕ
reads-after bound now Remote = bound
reads-after bound now (Local why) = now
reads-after bound now Broken = now

looks-after : (known : Known) (of : Job) (calls : List SheetCall) (bound now : ℕ) (exchanges made : List Exchange) (way : Way) → made ≡ exchanges → LooksFor known of calls bound exchanges way → LooksFor known of calls (reads-after bound now way) made way
looks-after known of calls bound now exchanges made Remote e h = h
looks-after known of calls bound now exchanges made (Local cause.Link) e h = h
looks-after known of calls bound now exchanges made (Local cause.Peer) e h = h
looks-after known of calls bound now exchanges made (Local cause.DaemonMemory) e h = h
looks-after known of calls bound now exchanges made (Local cause.Memory) e h = (h.0, elim h.1 [ inl none ↦ inl (e ∙ none) | inr all ↦ inr all ])
looks-after known of calls bound now exchanges made (Local (cause.Analysis r)) e h = h
looks-after known of calls bound now exchanges made Broken e h = h

read-after : (bound from before now : ℕ) (way : Way) → (way ≡ Remote → now ≡ before) → before ≤ from + bound → now ≤ from + reads-after bound now way
read-after bound from before now Remote same le = reads-same from before now bound le (same refl)
read-after bound from before now (Local why) same le = any-reads from now
read-after bound from before now Broken same le = any-reads from now

done-parts : (done : Done) (n client : ℕ) → done.job ≡ n → done.client ≡ client → done ≡ record { job = n; client = client; outcome = done.outcome; way = done.way }
done-parts done n client e f = ap (λ j. record { job = j; client = done.client; outcome = done.outcome; way = done.way }) e ∙ ap (λ k. record { job = n; client = k; outcome = done.outcome; way = done.way }) f

pub ended : (named : Option FileTree) (budget : ℕ) (of : Job) (jobs : List Job) (hosts : List Host) (n client : ℕ) (r : Replied) (done : Done) (calls : List SheetCall) (from before now : EndSeen) → slice_get jobs n ≡ Some of → done.job ≡ n → done.client ≡ client
    → WayIsSettled (known_of named budget) of hosts r calls from before → done.way ≡ way_of r → Concludes named of r before now done → (done.way ≡ Remote → now.reads ≡ before.reads)
    → Finished (known_of named budget) jobs hosts client done calls from now
ended named budget of jobs hosts n client r done calls from before now listed number client_is was way_is concludes same =
    let did = concludes budget was.host from was.settled in
    let looks = subst (λ (w : Way). LooksFor (known_of named budget) of calls was.reads was.settled.exchanges w) (sym way_is) was.looks in
    record {
      work = record { done = done; deeds = deeds_of did.0.exchanges did.0.put from now; calls = calls; reads = reads-after was.reads now.reads done.way };
      done_is = refl;
      calls_are = refl;
      client_is = client_is;
      works = record {
        job = of;
        listed = ap (slice_get jobs) number ∙ listed;
        host = was.host;
        of_hosts = was.listed;
        did = did.0;
        deeds_are = refl;
        looks = looks-after (known_of named budget) of calls was.reads now.reads was.settled.exchanges did.0.exchanges done.way did.1 looks;
        read = read-after was.reads from.reads before.reads now.reads done.way same was.read;
      };
    }
