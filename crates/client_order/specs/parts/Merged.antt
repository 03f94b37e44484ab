-- What clients did, in order of job number, and what stands at the beginning of a run.
use Rattle.std.specs.Prelude.{◌≡◌, ℕ, zero, suc, ◌<◌, ◌≤◌, ◌==◌, List, [], ◌∷◌, ◌++◌, length, Option, Some, slice_set}
use Rattle.std.specs.List.{All, filter, flat_map, count_by}
use Rattle.std.specs.Option.{option_to_list}
use Rattle.base_types.specs.Limits.{memo_limit}
use Rattle.closure_memo.specs.declared.step.MemoCall.{MemoCall}
use Rattle.closure_memo.specs.History.{is_look, is_hit, is_new, is_already, is_full}
use Rattle.job_ends.specs.declared.record.Done.{Done}
use Rattle.client_steps.specs.declared.client.Client.{Client}
use Rattle.client_steps.specs.declared.phase.Phase.TheVariants.{Rests}
use Rattle.client_order.specs.declared.totals.Totals.{Totals}
use Rattle.client_steps.specs.Ledger.{HasRoom, IsNew}
use Rattle.client_order.specs.parts.World.{SheetsMemo}

-- ---- in order of number ----

-- those with this number
abbrev pub with_number : {X : Type 0} → (X → ℕ) → ℕ → List X → List X
with_number number n xs = filter (λ x. number x == n) xs

-- those with so many numbers, from this one on, in order of number
abbrev pub in_order : {X : Type 0} → (X → ℕ) → ℕ → ℕ → List X → List X
in_order number from zero xs = []
in_order number from (suc count) xs = with_number number from xs ++ in_order number (suc from) count xs

abbrev pub job_number : Done → ℕ
job_number d = d.job

-- the records of all clients, client by client
abbrev pub records_of : List Client → List Done
records_of clients = flat_map (λ (c : Client). c.records.items) clients

-- each number stands at most once
abbrev pub AtMostOnce : List Done → Type 0
AtMostOnce records = (n : ℕ) → length (with_number job_number n records) ≤ 1

-- each number is below n
abbrev pub EachBelow : ℕ → List Done → Type 0
EachBelow n records = All (λ (d : Done). d.job < n) records

-- ---- places ----

-- the places, with these records put into those of their numbers
abbrev pub records_placed : List Done → List (Option Done) → List (Option Done)
records_placed [] places = places
records_placed (d ∷ records) places = records_placed records (slice_set places d.job (Some d))

-- what stands in the places
abbrev pub in_places : List (Option Done) → List Done
in_places places = flat_map option_to_list places

-- ---- the beginning of a run ----

-- clients that did nothing, numbered by their places from k on
abbrev pub AreNew : ℕ → ℕ → ℕ → List Client → Type 0
AreNew k jobs budget [] = Unit {0}
AreNew k jobs budget (c ∷ clients) = IsNew k jobs budget c × (HasRoom c × AreNew (suc k) jobs budget clients)

-- clients that have work to do, and none in work
abbrev pub AllRest : List Client → Type 0
AllRest clients = All (λ (c : Client). c.phase ≡ Rests) clients

-- a memo in which nothing was looked for
abbrev pub IsEmptyMemo : SheetsMemo → Type 0
IsEmptyMemo memo = (memo.limit ≡ memo_limit) × ((memo.keys ≡ []) × (memo.steps ≡ []))

-- ---- totals ----

-- what these steps of a history count
abbrev pub totals_of : List MemoCall → Totals
totals_of steps = record {
  looks = count_by (λ (s : MemoCall). is_look s.what) steps;
  hits = count_by (λ (s : MemoCall). is_hit s.what) steps;
  kept = count_by (λ (s : MemoCall). is_new s.what) steps;
  already = count_by (λ (s : MemoCall). is_already s.what) steps;
  full = count_by (λ (s : MemoCall). is_full s.what) steps;
}
