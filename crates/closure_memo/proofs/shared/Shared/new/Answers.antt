use Rattle.std.proofs.Common.{rules, arith, ◌++◌, [], ◌∷◌, ap, ◌∙◌, sym}
use Rattle.std.proofs.lemmas.List.{map-append}
use Rattle.std.proofs.lemmas.List.Sums.{sum_by-append}
use Rattle.closure_memo.proofs.Ranges.{range_snoc}
use Rattle.closure_memo.proofs.shared.Shared.new.Goals as goal

pub loop-client-preserved : goal.loop-client-preserved
loop-client-preserved g c =
    let at = c.loop-client.invariant in (
      search rules,
      search rules,
      search rules,
      search rules,
      search rules,
      search rules,
      search rules,
      search rules,
      search rules,
      search rules,
      search rules,
      (
        rw c.in_ok-push.ensures.items (sum_by-append (λ s. s.looks) c.loop-client.shares.items _ ∙ omega (arith, at, c.split_off.ensures.amount)),
        rw c.in_ok-push.ensures.items (sum_by-append (λ s. s.hits) c.loop-client.shares.items _ ∙ omega (arith, at, c.split_off-in-loop-client.ensures.amount)),
        rw c.in_ok-push.ensures.items (sum_by-append (λ s. s.publications) c.loop-client.shares.items _ ∙ omega (arith, at, c.split_off-in-loop-client-2.ensures.amount)),
        rw c.in_ok-push.ensures.items (sum_by-append (λ s. s.news) c.loop-client.shares.items _ ∙ omega (arith, at, c.split_off-in-loop-client-3.ensures.amount)),
        rw c.in_ok-push.ensures.items (sum_by-append (λ s. s.fulls) c.loop-client.shares.items _ ∙ omega (arith, at, c.split_off-in-loop-client-4.ensures.amount)),
      ),
      rw c.in_ok-push.ensures.items (map-append (λ s. s.client) c.loop-client.shares.items _ ∙ ap (λ l. l ++ c.loop-client.client ∷ []) at.12 ∙ sym (range_snoc c.loop-client.client)),
    )
