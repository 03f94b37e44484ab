-- A client's end while only its tree is used, and lists of calls.
use Rattle.std.proofs.Common.{arith, ◌≡◌, ℕ, ◌+◌, ◌-◌, ◌^◌, min, ◌<◌, ◌≤◌, List, [], ◌∷◌, length, Option, Some, IfSome, refl, sym, ◌∙◌, subst, inl, inr, zero, suc, slice_get, slice_index_or}
use Rattle.std.proofs.lemmas.Option.{slice_get_read}
use Rattle.base_types.specs.Causes.{Rose}
use Rattle.base_types.specs.Members.{Member}
use Rattle.job_words.specs.declared.job.Job.{Job}
use Rattle.io_edges.specs.declared.wire.Host.{Host}
use Rattle.tree_model.specs.Trees.{FileTree}
use Rattle.job_ends.specs.Outside.{EndSeen}
use Rattle.job_ends.specs.Record.{Did}

pub member-get : {X : Type 0} (xs : List X) (i : ℕ) (x : X) → slice_get xs i ≡ Some x → Member x xs
member-get [] i x e = absurd (cc)
member-get (y ∷ ys) zero x e = inl (cc)
member-get (y ∷ ys) (suc i) x e = inr (member-get ys i x e)

-- the element read at an index
pub read-at : {X : Type 0} (xs : List X) (i : ℕ) (x : X) → i < length xs → x ≡ slice_index_or xs i x → slice_get xs i ≡ Some x
read-at xs i x lt is = slice_get_read xs (length xs) i x refl lt is

-- the job at an index, read and listed
pub of-index : (jobs : List Job) (n : ℕ) (x y : Job) → slice_get jobs n ≡ Some x → n < length jobs → y ≡ slice_index_or jobs n y → x ≡ y
of-index jobs n x y listed lt is = let e : Some x ≡ Some y = sym listed ∙ read-at jobs n y lt is in cc

-- a list that isn't empty has an element
pub some-host : (hosts : List Host) → 0 < length hosts → (host : Host) × Member host hosts
some-host [] lt = absurd (omega arith)
some-host (host ∷ hosts) lt = (host, inl refl)

-- a fact of a told content, at the content
pub at-some : {A : Type 0} (o : Option A) (P : A → Type 0) (x : A) → o ≡ Some x → IfSome o P → P x
at-some o P x e h = subst (λ (v : Option _). IfSome v P) e h

-- ---- the end, while only its tree is used ----

pub record TreeUsed (before now : EndSeen) : Type 0 where
  pub talk : now.talk ≡ before.talk
  pub kept : now.kept ≡ before.kept
  pub told : now.told ≡ before.told
  pub tree : before.tree_faults ≤ now.tree_faults
  pub wire : now.wire_faults ≡ before.wire_faults
  pub outs : now.outs_faults ≡ before.outs_faults

pub unused : (e : EndSeen) → TreeUsed e e
unused e = record { talk = refl; kept = refl; told = refl; tree = omega arith; wire = refl; outs = refl }

pub used-by : (before : EndSeen) (told : Option FileTree) (tree_faults reads : ℕ) → told ≡ before.told → before.tree_faults ≤ tree_faults
    → TreeUsed before (record before { told = told; reads = reads; tree_faults = tree_faults })
used-by before told tree_faults reads t f = record { talk = refl; kept = refl; told = t; tree = f; wire = refl; outs = refl }

pub at-most : (a b c : ℕ) → a ≤ b → b ≤ c → a ≤ c
at-most a b c f g = omega (arith, f, g)

pub at-most-same : (a b c : ℕ) → a ≤ b → c ≡ b → a ≤ c
at-most-same a b c f e = omega (arith, f, e)

pub did-tree : (from before now : EndSeen) → Did [] [] from before → TreeUsed before now → Did [] [] from now
did-tree from before now did used = record {
  talk = used.talk ∙ did.talk;
  kept = used.kept ∙ did.kept;
  told = used.told ∙ did.told;
  tree = at-most from.tree_faults before.tree_faults now.tree_faults did.tree used.tree;
  wire = at-most-same from.wire_faults before.wire_faults now.wire_faults did.wire used.wire;
  outs = at-most-same from.outs_faults before.outs_faults now.outs_faults did.outs used.outs;
}

min-from : (first before top now : ℕ) → first ≤ before → min (before + 1) top ≤ now → min (first + 1) top ≤ now
min-from first before top now le rose = omega (arith, le, rose)

-- a count that rose from a later moment rose from an earlier one
pub rose-from : (first before now : ℕ) → first ≤ before → Rose before now → Rose first now
rose-from first before now le rose = min-from first before (2 ^ 64 - 1) now le rose

-- sums of reads
pub reads-same : (from before now n : ℕ) → before ≤ from + n → now ≡ before → now ≤ from + n
reads-same from before now n le e = omega (arith, le, e)

pub reads-one : (from before now n : ℕ) → before + 1 ≤ from + n → now ≤ before + 1 → now ≤ from + n
reads-one from before now n le more = omega (arith, le, more)

pub reads-files : (from before now n m : ℕ) → before ≤ from + n → now ≤ before + m → now ≤ from + (n + m)
reads-files from before now n m le more = omega (arith, le, more)

pub reads-none : (e : ℕ) → e ≤ e + 0
reads-none e = omega arith

pub any-reads : (from now : ℕ) → now ≤ from + now
any-reads from now = omega arith
