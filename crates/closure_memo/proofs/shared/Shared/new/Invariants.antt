use Rattle.std.proofs.Common.{◌≡◌, ◌+◌, sum_by, map, vec_len}
use Rattle.std.specs.List.{range_with_len}
use Rattle.closure_memo.proofs.shared.Shared.new.Given as goal

abbrev pub invariant-loop-client : goal.invariant-loop-client
invariant-loop-client g l =
    (l.look_rest.parts + l.client ≡ l.clients) × (l.look_rest.amount ≡ 0) × (l.hit_rest.parts + l.client ≡ l.clients) × (l.hit_rest.amount ≡ 0)
    × (l.publication_rest.parts + l.client ≡ l.clients) × (l.publication_rest.amount ≡ 0)
    × (l.new_rest.parts + l.client ≡ l.clients) × (l.new_rest.amount ≡ 0) × (l.full_rest.parts + l.client ≡ l.clients) × (l.full_rest.amount ≡ 0)
    × (vec_len l.shares ≡ l.client)
    × ((sum_by (λ s. s.looks) l.shares.items ≡ 0) × (sum_by (λ s. s.hits) l.shares.items ≡ 0) × (sum_by (λ s. s.publications) l.shares.items ≡ 0) × (sum_by (λ s. s.news) l.shares.items ≡ 0) × (sum_by (λ s. s.fulls) l.shares.items ≡ 0))
    × (map (λ s. s.client) l.shares.items ≡ range_with_len 0 l.client)
