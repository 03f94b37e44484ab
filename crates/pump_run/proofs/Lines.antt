-- Lines and texts that are put on the report.
use Rattle.std.proofs.Common.{◌≡◌, ℕ, ◌≤◌, List, length, Option, refl, arith, take}
use Rattle.std.proofs.Math.Seq.{take-length}
use Rattle.base_types.specs.Causes.{Rose}
use Rattle.base_types.specs.Told.{added}
use Rattle.job_ends.proofs.Deeds.{added-nil}
use Rattle.pump_run.specs.Run.{IsPut}

module _ (text : List ℕ) (before now : Option (List ℕ)) (from to : ℕ) where
  -- the whole text was put
  pub put-whole : (status : ℕ) → now ≡ added text before → IsPut text status before now from to
  put-whole status put = record {
    front = (length text, rw (take-length text) put);
    whole = λ _ _. put;
    whole_by_status = λ _. put;
  }

  -- a beginning of it, where the count rose and the status isn't that of a whole report
  pub put-front : (status n : ℕ) → now ≡ added (take n text) before → Rose from to → 2 ≤ status → status ≤ 5 → IsPut text status before now from to
  put-front status n put rose low high = record {
    front = (n, put);
    whole = λ _ still. absurd (still rose);
    whole_by_status = λ s. absurd (omega (arith, s, low, high));
  }

  -- a beginning of it, for want of memory
  pub put-starved : (n : ℕ) → now ≡ added (take n text) before → IsPut text 5 before now from to
  put-starved n put = record {
    front = (n, put);
    whole = λ other _. absurd (other refl);
    whole_by_status = λ s. absurd (omega (arith, s));
  }

-- nothing was put, for want of memory
pub nothing-put : (text : List ℕ) (held : Option (List ℕ)) (count : ℕ) → IsPut text 5 held held count count
nothing-put text held count = put-starved text held held count count 0 (added-nil held)
