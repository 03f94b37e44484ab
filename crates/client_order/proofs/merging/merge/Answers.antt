use Rattle.std.proofs.Common.{◌≡◌, ℕ, List, [], ◌++◌, length, Option, None, replicate, take, drop, ap, ◌∙◌, take_at}
use Rattle.job_ends.specs.declared.record.Done.{Done}
use Rattle.client_order.specs.parts.Merged.{in_order, job_number, in_places, records_placed, records_of, AtMostOnce}
use Rattle.client_order.proofs.InOrder.{in-placed, length-placed}
use Rattle.client_order.proofs.merging.merge.Goals as goal

-- the places as the loan of them left them
taken-out : (all : List Done) (items was now : List (Option Done)) (count : ℕ) (records new : List Done) → AtMostOnce all → items ≡ replicate (length items) None → records ≡ [] → was ≡ items → length was ≡ count
    → now ≡ records_placed all was → new ≡ records ++ in_places (take count (now ++ drop (length now) items)) → new ≡ in_order job_number 0 (length items) all
taken-out all items was now count records new once empty none lent long put is =
    let whole = take_at now (drop (length now) items) count (ap length put ∙ (length-placed all was ∙ long)) in
    is
    ∙ (ap (λ l. l ++ in_places (take count (now ++ drop (length now) items))) none
    ∙ (ap in_places (whole ∙ (put ∙ ap (records_placed all) (lent ∙ empty)))
    ∙ in-placed (length items) all once))

pub returns : goal.returns
returns c =
    taken-out (records_of c.args.clients.items) c.args.places.items c.deref_mut.result.now c.put_all.new.places c.args.places.len c.args.records.items c.take_out.new.records.items
    c.requires.once c.requires.empty c.requires.none c.deref_mut.ensures.value c.deref_mut.ensures.len c.put_all.ensures c.take_out.ensures
