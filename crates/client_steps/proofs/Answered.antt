-- What an answer does to a client's facts.
use Rattle.std.proofs.Common.{arith, ◌≡◌, ℕ, ◌+◌, ◌≤◌, Bool, true, false, cond, List, [], ◌∷◌, ◌++◌, map, length, refl, sym, ap, ◌∙◌, subst, inl, append-nil}
use Rattle.std.proofs.lemmas.Grind.{common_steps}
use Rattle.std.specs.List.{AllByRecursion}
use Rattle.base_types.specs.Members.{Member, EachOnce}
use Rattle.base_types.proofs.Lists.{all_push}
use Rattle.job_words.specs.declared.job.Job.{Job}
use Rattle.io_edges.specs.declared.wire.Host.{Host}
use Rattle.job_ends.specs.Outside.{EndSeen}
use Rattle.job_ends.specs.Record.{Known, OfTree, Did}
use Rattle.job_ends.specs.declared.record.Cause.TheVariants as cause
use Rattle.job_ends.specs.declared.asking.Replied.TheVariants.{Failed}
use Rattle.closure_memo.specs.declared.step.What.{What}
use Rattle.closure_memo.specs.declared.step.What.TheVariants as what
use Rattle.closure_memo.specs.declared.step.Kept.{Kept}
use Rattle.closure_memo.specs.declared.step.Kept.TheVariants as kept
use Rattle.closure_memo.specs.History.{is_look, is_miss, is_publication}
use Rattle.closure_memo.specs.Memo.{what_of}
use Rattle.sheet_build.specs.Sheet.{SheetData}
use Rattle.sheet_build.specs.Keys.{key_of, IsRightFor}
use Rattle.closure_fixpoint.specs.Closure.{InClosure}
use Rattle.closure_fixpoint.specs.Told.{Progress}
use Rattle.closure_fixpoint.specs.Progress.{visits_told}
use Rattle.closure_fixpoint.proofs.ProgressLaws.{EachOnce-last}
use Rattle.sheet_build.specs.declared.keys.SheetKey.{SheetKey}
use Rattle.job_ends.specs.Looks.{SheetCall, sheet_call, keys_where, looked, missed, published, LooksSo}
use Rattle.client_steps.specs.Phases.{IsGoing, IsLooking, HasFound, HasMissed, IsPublishing, LookedFor, WayIsSettled}
use Rattle.client_steps.proofs.Ends.{any-reads}

keys-snoc : (kind : What → Bool) (calls : List SheetCall) (c : SheetCall) → keys_where kind (calls ++ c ∷ []) ≡ keys_where kind calls ++ cond (kind c.what) (c.key ∷ []) []
keys-snoc kind [] c = go (kind c.what) refl
  where
    go : (b : Bool) → kind c.what ≡ b → keys_where kind (c ∷ []) ≡ cond (kind c.what) (c.key ∷ []) []
    go true e = rw e refl
    go false e = rw e refl
keys-snoc kind (d ∷ calls) c = go (keys-snoc kind calls c) (kind d.what) refl
  where
    go : keys_where kind (calls ++ c ∷ []) ≡ keys_where kind calls ++ cond (kind c.what) (c.key ∷ []) [] → (b : Bool) → kind d.what ≡ b → keys_where kind ((d ∷ calls) ++ c ∷ []) ≡ keys_where kind (d ∷ calls) ++ cond (kind c.what) (c.key ∷ []) []
    go ih true e = rw e (ap (λ l. d.key ∷ l) ih)
    go ih false e = rw e ih

looks-by : (known : Known) (job : Job) (calls more : List SheetCall) (left : List SheetKey) (keys : List SheetKey) → looked (calls ++ more) ≡ keys → EachOnce keys → AllByRecursion (λ (key : SheetKey). key.setup ≡ job.setup) keys
    → OfTree known (λ tree. AllByRecursion (λ (key : SheetKey). InClosure tree job key.visit) keys) → missed (calls ++ more) ≡ published (calls ++ more) ++ left → LooksSo known job (calls ++ more) left
looks-by known job calls more left keys e once setups within matched = record {
  once = subst EachOnce (sym e) once;
  setups = subst (AllByRecursion (λ (key : SheetKey). key.setup ≡ job.setup)) (sym e) setups;
  within = λ tree named. subst (AllByRecursion (λ (key : SheetKey). InClosure tree job key.visit)) (sym e) (within tree named);
  matched = matched;
}

module _ (known : Known) (job : Job) (a : Progress) (key : SheetKey) (calls : List SheetCall) (from now : EndSeen) where
  looked-more : (w : What) → is_look w ≡ true → IsLooking known job a key calls from now → (left : List SheetKey) → missed (calls ++ sheet_call key w ∷ []) ≡ published (calls ++ sheet_call key w ∷ []) ++ left → LooksSo known job (calls ++ sheet_call key w ∷ []) left
  looked-more w is was left matched =
      looks-by known job calls (sheet_call key w ∷ []) left (looked calls ++ key ∷ []) (keys-snoc is_look calls (sheet_call key w) ∙ ap (λ b. looked calls ++ cond b (key ∷ []) []) is)
      (EachOnce-last (looked calls) key was.looks.once was.fresh) (all_push _ (looked calls) key was.looks.setups (ap (λ (k : SheetKey). k.setup) was.awaits.own))
      (λ tree named. all_push _ (looked calls) key (was.looks.within tree named) (was.within tree named)) matched

  looked-for-more : (w : What) → is_look w ≡ true → IsLooking known job a key calls from now → LookedFor job a (key ∷ []) (calls ++ sheet_call key w ∷ [])
  looked-for-more w is was =
      keys-snoc is_look calls (sheet_call key w) ∙ ap (λ b. looked calls ++ cond b (key ∷ []) []) is ∙ ap (λ l. l ++ key ∷ []) (was.looked_for ∙ append-nil (map (key_of job.setup) (visits_told a.heard)))

  pub looked-hit : (sheet : SheetData) → IsLooking known job a key calls from now → OfTree known (λ tree. IsRightFor tree key sheet) → HasFound known job a key sheet (calls ++ sheet_call key what.Hit ∷ []) from now
  looked-hit sheet was right =
      let misses = keys-snoc is_miss calls (sheet_call key what.Hit) ∙ append-nil (missed calls) in
      let publications = keys-snoc is_publication calls (sheet_call key what.Hit) ∙ append-nil (published calls) in
      record {
        did = was.did;
        awaits = was.awaits;
        looks = looked-more what.Hit refl was [] (misses ∙ was.looks.matched ∙ ap (λ l. l ++ []) (sym publications));
        looked_for = looked-for-more what.Hit refl was;
        reads = subst (λ (l : List SheetKey). now.reads ≤ from.reads + length l) (sym misses) was.reads;
        right = right;
      }

  one-longer : (n m : ℕ) (keys : List SheetKey) → n ≤ m + length keys → n + 1 ≤ m + length (keys ++ key ∷ [])
  one-longer n m keys le = grind (arith, common_steps, le)

  pub looked-miss : IsLooking known job a key calls from now → HasMissed known job a key (calls ++ sheet_call key what.Miss ∷ []) from now
  looked-miss was =
      let misses = keys-snoc is_miss calls (sheet_call key what.Miss) in
      let publications = keys-snoc is_publication calls (sheet_call key what.Miss) ∙ append-nil (published calls) in
      record {
        did = was.did;
        awaits = was.awaits;
        looks = looked-more what.Miss refl was (key ∷ []) (misses ∙ ap (λ l. l ++ key ∷ []) (was.looks.matched ∙ append-nil (published calls)) ∙ ap (λ l. l ++ key ∷ []) (sym publications));
        looked_for = looked-for-more what.Miss refl was;
        reads = subst (λ (l : List SheetKey). now.reads + 1 ≤ from.reads + length l) (sym misses) (one-longer now.reads from.reads (missed calls) was.reads);
      }

-- a call that is no look, or no miss, leaves the keys looked for, or missed
same-keys : (kind : What → Bool) (calls : List SheetCall) (key : SheetKey) (w : What) → kind w ≡ false → keys_where kind (calls ++ sheet_call key w ∷ []) ≡ keys_where kind calls
same-keys kind calls key w other = keys-snoc kind calls (sheet_call key w) ∙ ap (λ b. keys_where kind calls ++ cond b (key ∷ []) []) other ∙ append-nil (keys_where kind calls)

-- a call of the kind adds its key
more-keys : (kind : What → Bool) (calls : List SheetCall) (key : SheetKey) (w : What) → kind w ≡ true → keys_where kind (calls ++ sheet_call key w ∷ []) ≡ keys_where kind calls ++ key ∷ []
more-keys kind calls key w is = keys-snoc kind calls (sheet_call key w) ∙ ap (λ b. keys_where kind calls ++ cond b (key ∷ []) []) is

-- a publication is neither a look nor a miss
no-look : (k : Kept) → is_look (what_of k) ≡ false
no-look kept.New = refl
no-look kept.Already = refl
no-look kept.Full = refl

no-miss : (k : Kept) → is_miss (what_of k) ≡ false
no-miss kept.New = refl
no-miss kept.Already = refl
no-miss kept.Full = refl

is-published : (k : Kept) → is_publication (what_of k) ≡ true
is-published kept.New = refl
is-published kept.Already = refl
is-published kept.Full = refl

-- the key that was open is published
published-looks : (known : Known) (job : Job) (key : SheetKey) (calls : List SheetCall) (k : Kept) → LooksSo known job calls (key ∷ []) → LooksSo known job (calls ++ sheet_call key (what_of k) ∷ []) []
published-looks known job key calls k was =
    looks-by known job calls (sheet_call key (what_of k) ∷ []) [] (looked calls) (same-keys is_look calls key (what_of k) (no-look k)) was.once was.setups was.within
    (same-keys is_miss calls key (what_of k) (no-miss k) ∙ was.matched ∙ sym (append-nil (published (calls ++ sheet_call key (what_of k) ∷ [])) ∙ more-keys is_publication calls key (what_of k) (is-published k)))

pub published-kept : (known : Known) (job : Job) (a : Progress) (key : SheetKey) (k : Kept) (calls : List SheetCall) (from now : EndSeen) → IsPublishing known job a key calls from now → IsGoing known job a (calls ++ sheet_call key (what_of k) ∷ []) from now
published-kept known job a key k calls from now was = record {
  open_keys = [];
  did = was.did;
  sound = was.sound;
  looks = published-looks known job key calls k was.looks;
  looked_for = λ whole small. same-keys is_look calls key (what_of k) (no-look k) ∙ was.looked_for whole small;
  reads = subst (λ (l : List SheetKey). now.reads ≤ from.reads + length l) (sym (same-keys is_miss calls key (what_of k) (no-miss k))) was.reads;
  few = omega arith;
  opened = λ whole small. refl;
}

-- a look or a publication for which there was no memory: the job is to be done locally
refused-so : (known : Known) (job : Job) (hosts : List Host) (calls : List SheetCall) (open_keys : List SheetKey) (from now : EndSeen) → Did [] [] from now → LooksSo known job calls open_keys → length open_keys ≤ 1
    → ((host : Host) × Member host hosts) → WayIsSettled known job hosts (Failed cause.Memory) calls from now
refused-so known job hosts calls open_keys from now did looks few some = record {
  host = some.0;
  listed = some.1;
  settled = record { exchanges = []; did = did; way = inl refl; gives = tt; host_is = tt };
  reads = now.reads;
  looks = (record { left = open_keys; looks = looks; few = few }, inl refl);
  read = any-reads from.reads now.reads;
}

pub look-refused : (known : Known) (job : Job) (hosts : List Host) (a : Progress) (key : SheetKey) (calls : List SheetCall) (from now : EndSeen) → IsLooking known job a key calls from now → ((host : Host) × Member host hosts)
    → WayIsSettled known job hosts (Failed cause.Memory) calls from now
look-refused known job hosts a key calls from now was some = refused-so known job hosts calls [] from now was.did was.looks (omega arith) some

pub publication-refused : (known : Known) (job : Job) (hosts : List Host) (a : Progress) (key : SheetKey) (calls : List SheetCall) (from now : EndSeen) → IsPublishing known job a key calls from now → ((host : Host) × Member host hosts)
    → WayIsSettled known job hosts (Failed cause.Memory) calls from now
publication-refused known job hosts a key calls from now was some = refused-so known job hosts calls (key ∷ []) from now was.did was.looks (omega arith) some
