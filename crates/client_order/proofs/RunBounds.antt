-- What a run of clients keeps: how often its jobs look, what is published, and how often the trees are read.
use Rattle.std.proofs.Common.{arith, ◌≡◌, ℕ, suc, ◌+◌, ◌==◌, ◌≤◌, nat_le, Bool, true, false, cond, List, [], ◌∷◌, length, Some, refl, sym, ap, ◌∙◌, subst, length-append}
use Rattle.std.proofs.lemmas.List.Sums.{sum_by-cons, sum_by-le-sum_by}
use Rattle.std.proofs.lemmas.Bool.Decides.{nat_tests}
use Rattle.std.specs.List.{filter, sum_by, count_by, AllByRecursion}
use Rattle.tree_model.specs.Trees.{FileTree}
use Rattle.job_words.specs.declared.job.Job.{Job}
use Rattle.closure_memo.specs.declared.step.MemoCall.{MemoCall}
use Rattle.closure_memo.specs.declared.step.What.{What}
use Rattle.closure_memo.specs.declared.step.What.TheVariants as what
use Rattle.closure_memo.specs.History.{is_look, is_hit, is_miss, is_new, is_already, is_full, is_publication}
use Rattle.closure_fixpoint.specs.Gathering.{files_among}
use Rattle.closure_fixpoint.specs.Laws.{ClosuresAreOne}
use Rattle.job_ends.specs.Outside.{EndSeen}
use Rattle.job_ends.specs.Record.{Known}
use Rattle.job_ends.specs.declared.record.Way.{Way}
use Rattle.job_ends.specs.declared.record.Way.TheVariants.{Remote}
use Rattle.job_ends.specs.Looks.{SheetCall, missed, published, LooksFor}
use Rattle.job_ends.specs.Works.{Work, works_of, EachEnd, EachRecord, EachLooks}
use Rattle.client_order.specs.declared.totals.Totals.{Totals}
use Rattle.client_order.specs.Ran.{MemoSeen, count_steps, count_calls, count_works, Tallies, may_leave, FilesOf, all_reads, RunsAreBounded}
use Rattle.client_order.proofs.LookBounds.{kind-count, leaves, each-size}

-- ---- sums ----

sum-two : {X : Type 0} (f g h : X → ℕ) → ((x : X) → f x ≡ g x + h x) → (xs : List X) → sum_by f xs ≡ sum_by g xs + sum_by h xs
sum-two f g h each [] = refl
sum-two f g h each (x ∷ xs) =
    let a : sum_by f (x ∷ xs) ≡ f x + sum_by f xs = sum_by-cons f x xs in
    let b : sum_by g (x ∷ xs) ≡ g x + sum_by g xs = sum_by-cons g x xs in
    let c : sum_by h (x ∷ xs) ≡ h x + sum_by h xs = sum_by-cons h x xs in
    let here : f x ≡ g x + h x = each x in
    let rest : sum_by f xs ≡ sum_by g xs + sum_by h xs = sum-two f g h each xs in
    omega (arith, a, b, c, here, rest)

sum-three : {X : Type 0} (f g h k : X → ℕ) → ((x : X) → f x ≡ g x + (h x + k x)) → (xs : List X) → sum_by f xs ≡ sum_by g xs + (sum_by h xs + sum_by k xs)
sum-three f g h k each xs = sum-two f g (λ x. h x + k x) each xs ∙ ap (λ (n : ℕ). sum_by g xs + n) (sum-two (λ x. h x + k x) h k (λ x. refl) xs)

sum-filter : {X : Type 0} (f : X → ℕ) (p : X → Bool) (xs : List X) → sum_by f (filter p xs) ≡ sum_by (λ x. cond (p x) (f x) 0) xs
sum-filter f p [] = refl
sum-filter f p (x ∷ xs) = first (p x) ∙ ap (λ (n : ℕ). cond (p x) (f x) 0 + n) (sum-filter f p xs) ∙ sym (sum_by-cons (λ y. cond (p y) (f y) 0) x xs)
  where
    first : (b : Bool) → sum_by f (cond b (x ∷ filter p xs) (filter p xs)) ≡ cond b (f x) 0 + sum_by f (filter p xs)
    first true = sum_by-cons f x (filter p xs)
    first false = omega arith

-- ---- looks, publications, and what is left ----

abbrev one_if : Bool → ℕ
one_if b = cond b 1 0

look-what : (w : What) → one_if (is_look w) ≡ one_if (is_hit w) + one_if (is_miss w)
look-what what.Hit = refl
look-what what.Miss = refl
look-what what.New = refl
look-what what.Already = refl
look-what what.Full = refl

publication-what : (w : What) → one_if (is_publication w) ≡ one_if (is_new w) + (one_if (is_already w) + one_if (is_full w))
publication-what what.Hit = refl
publication-what what.Miss = refl
publication-what what.New = refl
publication-what what.Already = refl
publication-what what.Full = refl

calls-looks : (calls : List SheetCall) → count_calls is_look calls ≡ count_calls is_hit calls + count_calls is_miss calls
calls-looks calls = sum-two (λ (c : SheetCall). one_if (is_look c.what)) (λ (c : SheetCall). one_if (is_hit c.what)) (λ (c : SheetCall). one_if (is_miss c.what)) (λ (c : SheetCall). look-what c.what) calls

works-looks : (works : List Work) → count_works is_look works ≡ count_works is_hit works + count_works is_miss works
works-looks works =
    sum-two (λ (w : Work). count_calls is_look w.calls) (λ (w : Work). count_calls is_hit w.calls) (λ (w : Work). count_calls is_miss w.calls) (λ (w : Work). calls-looks w.calls) works

abbrev of_kind : (What → Bool) → MemoSeen → ℕ
of_kind kind m = count_by (λ (s : MemoCall). kind s.what) m.steps

memo-publications : (m : MemoSeen) → of_kind is_publication m ≡ of_kind is_new m + (of_kind is_already m + of_kind is_full m)
memo-publications m =
    sum-three (λ (s : MemoCall). one_if (is_publication s.what)) (λ (s : MemoCall). one_if (is_new s.what)) (λ (s : MemoCall). one_if (is_already s.what)) (λ (s : MemoCall). one_if (is_full s.what))
    (λ (s : MemoCall). publication-what s.what) m.steps

publications : (memos : List MemoSeen) → count_steps is_publication memos ≡ count_steps is_new memos + (count_steps is_already memos + count_steps is_full memos)
publications memos = sum-three (of_kind is_publication) (of_kind is_new) (of_kind is_already) (of_kind is_full) memo-publications memos

-- a job's looks found a sheet, or led to a publication, but for what is left
work-looks : (known : Known) (job : Job) (w : Work) → LooksFor known job w.calls w.reads w.deeds.exchanges w.done.way
    → count_calls is_look w.calls ≤ count_calls is_hit w.calls + (count_calls is_publication w.calls + one_if (may_leave w.done.way))
work-looks known job w h =
    let l = leaves known job w.calls w.reads w.deeds.exchanges w.done.way h in
    let few : length l.left ≤ one_if (may_leave w.done.way) = l.few in
    let parts : length (missed w.calls) ≡ length (published w.calls) + length l.left = ap length l.looks.matched ∙ length-append (published w.calls) l.left in
    let misses : count_calls is_miss w.calls ≡ length (missed w.calls) = kind-count is_miss w.calls in
    let given : count_calls is_publication w.calls ≡ length (published w.calls) = kind-count is_publication w.calls in
    let all : count_calls is_look w.calls ≡ count_calls is_hit w.calls + count_calls is_miss w.calls = calls-looks w.calls in
    omega (arith, few, parts, misses, given, all)

unpublished : (known : Known) (k : ℕ) (jobs : List Job) (works : List Work) → EachRecord known k jobs works → EachLooks known jobs works
    → count_works is_look works ≤ count_works is_hit works + (count_works is_publication works + count_by (λ (w : Work). may_leave w.done.way) works)
unpublished known k [] [] each h = omega arith
unpublished known k [] (w ∷ works) each h = elim each [ ]
unpublished known k (job ∷ jobs) [] each h = elim each [ ]
unpublished known k (job ∷ jobs) (w ∷ works) each h =
    let here = work-looks known job w h.0 in
    let rest = unpublished known (suc k) jobs works each.1.1 h.1 in
    let a : count_works is_look (w ∷ works) ≡ count_calls is_look w.calls + count_works is_look works = sum_by-cons (λ (v : Work). count_calls is_look v.calls) w works in
    let b : count_works is_hit (w ∷ works) ≡ count_calls is_hit w.calls + count_works is_hit works = sum_by-cons (λ (v : Work). count_calls is_hit v.calls) w works in
    let c : count_works is_publication (w ∷ works) ≡ count_calls is_publication w.calls + count_works is_publication works = sum_by-cons (λ (v : Work). count_calls is_publication v.calls) w works in
    let d : count_by (λ (v : Work). may_leave v.done.way) (w ∷ works) ≡ one_if (may_leave w.done.way) + count_by (λ (v : Work). may_leave v.done.way) works = sum_by-cons (λ (v : Work). one_if (may_leave v.done.way)) w works in
    omega (arith, here, rest, a, b, c, d)

-- ---- the reads ----

-- so many files stand among the entries of the jobs, and the works read no more than these and a file for each miss
record ReadsHold (tree : FileTree) (jobs : List Job) (works : List Work) : Type 0 where
  files : ℕ
  among : FilesOf tree jobs files
  few : sum_by (λ (w : Work). w.reads) works ≤ count_works is_miss works + files

works-read : (known : Known) (tree : FileTree) → known.named ≡ Some tree → (k : ℕ) (jobs : List Job) (works : List Work) → EachRecord known k jobs works → EachLooks known jobs works
    → AllByRecursion (λ (w : Work). w.done.way ≡ Remote) works → ReadsHold tree jobs works
works-read known tree named k [] [] each h remote = record { files = 0; among = refl; few = omega arith }
works-read known tree named k [] (w ∷ works) each h remote = elim each [ ]
works-read known tree named k (job ∷ jobs) [] each h remote = elim each [ ]
works-read known tree named k (job ∷ jobs) (w ∷ works) each h remote =
    let looks : LooksFor known job w.calls w.reads w.deeds.exchanges Remote = subst (λ (way : Way). LooksFor known job w.calls w.reads w.deeds.exchanges way) remote.0 h.0 in
    let here = looks.1 tree named in
    let rest = works-read known tree named (suc k) jobs works each.1.1 h.1 remote.1 in
    let few : w.reads ≤ length (missed w.calls) + files_among here.0 = here.2 in
    let more : sum_by (λ (v : Work). v.reads) works ≤ count_works is_miss works + rest.files = rest.few in
    let misses : count_calls is_miss w.calls ≡ length (missed w.calls) = kind-count is_miss w.calls in
    let a : sum_by (λ (v : Work). v.reads) (w ∷ works) ≡ w.reads + sum_by (λ (v : Work). v.reads) works = sum_by-cons (λ (v : Work). v.reads) w works in
    let b : count_works is_miss (w ∷ works) ≡ count_calls is_miss w.calls + count_works is_miss works = sum_by-cons (λ (v : Work). count_calls is_miss v.calls) w works in
    record {
      files = files_among here.0 + rest.files;
      among = (here.0, here.1, (rest.files, rest.among, refl));
      few = omega (arith, few, more, misses, a, b);
    }

-- what a work reads, where its client has this number or a greater one
abbrev from_client : ℕ → Work → ℕ
from_client k w = cond (nat_le k w.done.client) w.reads 0

own-or-later : (client k reads : ℕ) → cond (client == k) reads 0 + cond (nat_le (suc k) client) reads 0 ≤ cond (nat_le k client) reads 0
own-or-later client k reads = grind (arith, nat_tests)

at-most-its : (client reads : ℕ) → cond (nat_le 0 client) reads 0 ≤ reads
at-most-its client reads = grind (arith, nat_tests)

-- the reads of a client's works and of those of later clients
clients-read : (k : ℕ) (works : List Work) → sum_by (λ (w : Work). w.reads) (works_of k works) + sum_by (from_client (suc k)) works ≤ sum_by (from_client k) works
clients-read k works =
    let own : sum_by (λ (w : Work). w.reads) (works_of k works) ≡ sum_by (λ (w : Work). cond (w.done.client == k) w.reads 0) works = sum-filter (λ (w : Work). w.reads) (λ (w : Work). w.done.client == k) works in
    let both : sum_by (λ (w : Work). cond (w.done.client == k) w.reads 0 + from_client (suc k) w) works ≡ sum_by (λ (w : Work). cond (w.done.client == k) w.reads 0) works + sum_by (from_client (suc k)) works =
    sum-two (λ (w : Work). cond (w.done.client == k) w.reads 0 + from_client (suc k) w) (λ (w : Work). cond (w.done.client == k) w.reads 0) (from_client (suc k)) (λ w. refl) works in
    let few : sum_by (λ (w : Work). cond (w.done.client == k) w.reads 0 + from_client (suc k) w) works ≤ sum_by (from_client k) works =
    sum_by-le-sum_by (λ (w : Work). cond (w.done.client == k) w.reads 0 + from_client (suc k) w) (from_client k) works (λ w. own-or-later w.done.client k w.reads) in
    omega (arith, own, both, few)

ends-read : (k : ℕ) (works : List Work) (before after : List EndSeen) → EachEnd k works before after → all_reads after ≤ all_reads before + sum_by (from_client k) works
ends-read k works [] [] each = omega arith
ends-read k works [] (now ∷ after) each = elim each [ ]
ends-read k works (old ∷ before) [] each = elim each [ ]
ends-read k works (old ∷ before) (now ∷ after) each =
    let here : now.reads ≤ old.reads + sum_by (λ (w : Work). w.reads) (works_of k works) = each.0.reads in
    let rest : all_reads after ≤ all_reads before + sum_by (from_client (suc k)) works = ends-read (suc k) works before after each.1 in
    let a : all_reads (now ∷ after) ≡ now.reads + all_reads after = sum_by-cons (λ (e : EndSeen). e.reads) now after in
    let b : all_reads (old ∷ before) ≡ old.reads + all_reads before = sum_by-cons (λ (e : EndSeen). e.reads) old before in
    let c = clients-read k works in
    omega (arith, here, rest, a, b, c)

-- ---- the run ----

-- looks and hits of the totals are those of the works
totals-looks : (threads : Bool) (works : List Work) (totals : Totals) → Tallies threads works totals → totals.looks ≡ count_works is_look works
totals-looks threads works totals t = ap (λ (x : Totals). x.looks) t.totals_are ∙ sym t.looks

totals-hits : (threads : Bool) (works : List Work) (totals : Totals) → Tallies threads works totals → totals.hits ≡ count_works is_hit works
totals-hits threads works totals t = ap (λ (x : Totals). x.hits) t.totals_are ∙ sym t.hits

totals-published : (threads : Bool) (works : List Work) (totals : Totals) → Tallies threads works totals → count_works is_publication works ≡ totals.kept + (totals.already + totals.full)
totals-published threads works totals t =
    let kept : totals.kept ≡ count_steps is_new t.memos = ap (λ (x : Totals). x.kept) t.totals_are in
    let already : totals.already ≡ count_steps is_already t.memos = ap (λ (x : Totals). x.already) t.totals_are in
    let full : totals.full ≡ count_steps is_full t.memos = ap (λ (x : Totals). x.full) t.totals_are in
    let parts = publications t.memos in
    let same : count_works is_publication works ≡ count_steps is_publication t.memos = t.publications in
    omega (arith, kept, already, full, parts, same)

pub runs-are-bounded : ClosuresAreOne → RunsAreBounded
runs-are-bounded one known jobs hosts clients threads before after records totals ran =
    let looks : totals.looks ≡ count_works is_look ran.works = totals-looks threads ran.works totals ran.tallies in
    let hits : totals.hits ≡ count_works is_hit ran.works = totals-hits threads ran.works totals ran.tallies in
    let given = totals-published threads ran.works totals ran.tallies in
    let left = unpublished known 0 jobs ran.works ran.each ran.looked in
    record {
      looks = λ tree named. each-size one known tree named 0 jobs ran.works ran.each ran.looked;
      unpublished = omega (arith, looks, hits, given, left);
      reads = λ tree named remote.
          let read = works-read known tree named 0 jobs ran.works ran.each ran.looked remote in
          let few : sum_by (λ (w : Work). w.reads) ran.works ≤ count_works is_miss ran.works + read.files = read.few in
          let ends = ends-read 0 ran.works before after ran.ends in
          let own : sum_by (from_client 0) ran.works ≤ sum_by (λ (w : Work). w.reads) ran.works = sum_by-le-sum_by (from_client 0) (λ (w : Work). w.reads) ran.works (λ w. at-most-its w.done.client w.reads) in
          let all = works-looks ran.works in
          (read.files, read.among, omega (arith, looks, hits, few, ends, own, all));
    }
