use Rattle.std.proofs.Common.{◌≡◌, ◌+◌, length, sum_by}
use Rattle.closure_memo.proofs.shared.Shared.gather.Given as goal

abbrev pub invariant-loop-l : goal.invariant-loop-l
invariant-loop-l g l =
    (l.looks.parts + length l.shares.items ≡ length l.fn.shares.items) × (l.hits.parts + length l.shares.items ≡ length l.fn.shares.items) × (l.publications.parts + length l.shares.items ≡ length l.fn.shares.items)
    × (l.news.parts + length l.shares.items ≡ length l.fn.shares.items) × (l.fulls.parts + length l.shares.items ≡ length l.fn.shares.items)
    × (l.looks.amount + sum_by (λ s. s.looks) l.shares.items ≡ sum_by (λ s. s.looks) l.fn.shares.items)
    × (l.hits.amount + sum_by (λ s. s.hits) l.shares.items ≡ sum_by (λ s. s.hits) l.fn.shares.items)
    × (l.publications.amount + sum_by (λ s. s.publications) l.shares.items ≡ sum_by (λ s. s.publications) l.fn.shares.items)
    × (l.news.amount + sum_by (λ s. s.news) l.shares.items ≡ sum_by (λ s. s.news) l.fn.shares.items)
    × (l.fulls.amount + sum_by (λ s. s.fulls) l.shares.items ≡ sum_by (λ s. s.fulls) l.fn.shares.items)

abbrev pub decreases-loop-l : goal.decreases-loop-l
decreases-loop-l g l = goal.left-loop-l g l
