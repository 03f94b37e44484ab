-- A job's calls on the memo of sheets, and what the way of the job says of them.
use Rattle.std.specs.Prelude.{◌≡◌, ◌⊎◌, ◌≤◌, ℕ, ◌+◌, Bool, List, [], ◌∷◌, ◌++◌, map, length}
use Rattle.std.specs.List.{filter, AllByRecursion}
use Rattle.base_types.specs.Members.{EachOnce}
use Rattle.job_words.specs.declared.job.Job.{Job}
use Rattle.io_edges.specs.declared.wire.Exchange.{Exchange}
use Rattle.tree_model.specs.Entries.{Entries}
use Rattle.closure_memo.specs.declared.step.What.{What}
use Rattle.closure_memo.specs.History.{is_look, is_miss, is_publication}
use Rattle.sheet_build.specs.declared.keys.SheetKey.{SheetKey}
use Rattle.closure_fixpoint.specs.Analysis.{AreEntriesOf}
use Rattle.closure_fixpoint.specs.Closure.{IsClosureOf, InClosure}
use Rattle.closure_fixpoint.specs.Gathering.{files_among}
use Rattle.closure_fixpoint.specs.declared.job_analysis.Refusal.TheVariants as refusal
use Rattle.job_ends.specs.Record.{Known, OfTree}
use Rattle.job_ends.specs.declared.record.Way.{Way}
use Rattle.job_ends.specs.declared.record.Way.TheVariants.{Remote, Local, Broken}
use Rattle.job_ends.specs.declared.record.Cause.TheVariants as cause

-- a call on the memo: its key, and what it came to
pub record SheetCall : Type 0 where
  pub key : SheetKey
  pub what : What

abbrev pub sheet_call : SheetKey → What → SheetCall
sheet_call key what = record { key = key; what = what }

-- the keys of the calls of a kind, in order
abbrev pub keys_where : (What → Bool) → List SheetCall → List SheetKey
keys_where kind calls = map (λ (c : SheetCall). c.key) (filter (λ (c : SheetCall). kind c.what) calls)

abbrev pub looked : List SheetCall → List SheetKey
looked calls = keys_where is_look calls

abbrev pub missed : List SheetCall → List SheetKey
missed calls = keys_where is_miss calls

abbrev pub published : List SheetCall → List SheetKey
published calls = keys_where is_publication calls

-- The keys looked for are different, each is the job's setup with a visit of its least closed set, and the keys published are
-- those missed, in order, but for those that are left.
pub record LooksSo (known : Known) (job : Job) (calls : List SheetCall) (left : List SheetKey) : Type 0 where
  pub once : EachOnce (looked calls)
  pub setups : AllByRecursion (λ (key : SheetKey). key.setup ≡ job.setup) (looked calls)
  pub within : OfTree known (λ tree. AllByRecursion (λ (key : SheetKey). InClosure tree job key.visit) (looked calls))
  pub matched : missed calls ≡ published calls ++ left

-- the visits looked for are the job's least closed set
abbrev pub AllLooked : Known → Job → List SheetCall → Type 0
AllLooked known job calls = OfTree known (λ tree. IsClosureOf tree job (map (λ (key : SheetKey). key.visit) (looked calls)))

-- at most one key was missed and isn't published
pub record LeavesOne (known : Known) (job : Job) (calls : List SheetCall) : Type 0 where
  pub left : List SheetKey
  pub looks : LooksSo known job calls left
  pub few : length left ≤ 1

-- all that was missed was published, and all of the least closed set was looked for
pub record LooksAll (known : Known) (job : Job) (calls : List SheetCall) : Type 0 where
  pub looks : LooksSo known job calls []
  pub all : AllLooked known job calls

-- what is read is at most the file of each key missed, and each file that is sent
abbrev pub ReadsFew : Known → Job → List SheetCall → ℕ → Type 0
ReadsFew known job calls reads = OfTree known (λ tree. (entries : Entries) × AreEntriesOf tree job entries × (reads ≤ length (missed calls) + files_among entries))

-- what a job's way says of its calls on the memo and of the reads of its tree
abbrev pub LooksFor : Known → Job → List SheetCall → ℕ → List Exchange → Way → Type 0
LooksFor known job calls reads exchanges Remote = LooksAll known job calls × ReadsFew known job calls reads
LooksFor known job calls reads exchanges (Local cause.Link) = LooksAll known job calls
LooksFor known job calls reads exchanges (Local cause.Peer) = LooksAll known job calls
LooksFor known job calls reads exchanges (Local cause.DaemonMemory) = LooksAll known job calls
LooksFor known job calls reads exchanges (Local cause.Memory) = LeavesOne known job calls × ((exchanges ≡ []) ⊎ LooksAll known job calls)
LooksFor known job calls reads exchanges (Local (cause.Analysis r)) = LeavesOne known job calls × (LooksSo known job calls [] ⊎ (r ≡ refusal.Large))
LooksFor known job calls reads exchanges Broken = LeavesOne known job calls
