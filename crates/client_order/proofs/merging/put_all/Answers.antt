use Rattle.std.proofs.Common.{◌≡◌, ℕ, List, ◌∷◌, length, Option, sym, ap, ◌∙◌, subst}
use Rattle.std.proofs.lemmas.List.Elements.{All-head, All-rest}
use Rattle.std.specs.Vec.Iter.{into_iter_items}
use Rattle.job_ends.specs.declared.record.Done.{Done}
use Rattle.client_steps.specs.declared.client.Client.{Client}
use Rattle.client_steps.specs.declared.phase.Phase.TheVariants.{Ended}
use Rattle.client_order.specs.parts.World.{AllEnded}
use Rattle.client_order.specs.parts.Merged.{records_placed, records_of, EachBelow}
use Rattle.client_order.proofs.InOrder.{below-first, below-second, records_placed-append, length-placed}
use Rattle.client_order.proofs.merging.put_all.Goals as goal

first-ended : (client : Client) (left rest : List Client) → left ≡ client ∷ rest → AllEnded left → client.phase ≡ Ended
first-ended client left rest is ended = All-head (λ (c : Client). c.phase ≡ Ended) client rest (subst AllEnded is ended)

first-below : (n : ℕ) (client : Client) (left rest : List Client) → left ≡ client ∷ rest → EachBelow n (records_of left) → EachBelow n client.records.items
first-below n client left rest is below = below-first n client.records.items (records_of rest) (subst (λ (l : List Client). EachBelow n (records_of l)) is below)

-- the records of the first client that is left were put
one-put : (all : List Done) (before places after : List (Option Done)) (client : Client) (left rest : List Client) → left ≡ client ∷ rest → AllEnded left → EachBelow (length places) (records_of left)
    → records_placed (records_of left) places ≡ records_placed all before → after ≡ records_placed client.records.items places
    → record { ended : AllEnded rest; below : EachBelow (length after) (records_of rest); same : records_placed (records_of rest) after ≡ records_placed all before }
one-put all before places after client left rest is ended below same put = record {
  ended = All-rest (λ (c : Client). c.phase ≡ Ended) client rest left is ended;
  below = subst (λ n. EachBelow n (records_of rest)) (sym (ap length put ∙ length-placed client.records.items places))
      (below-second (length places) client.records.items (records_of rest) (subst (λ (l : List Client). EachBelow (length places) (records_of l)) is below));
  same = ap (records_placed (records_of rest)) put ∙ (sym (records_placed-append client.records.items (records_of rest) places) ∙ (ap (λ (l : List Client). records_placed (records_of l) places) (sym is) ∙ same));
}

pub into_records-requires : goal.into_records-requires
into_records-requires c = first-ended c.in-Some.client (into_iter_items c.loop-client.left) (into_iter_items c.next.new.self) c.in-Some.ensures.items c.loop-client.invariant.ended

pub put-requires : goal.put-requires
put-requires c = record {
  below = subst (λ (l : List Done). EachBelow (length c.loop-client.places) l) (ap (λ v. v.items) (sym c.into_records.ensures))
      (first-below (length c.loop-client.places) c.in-Some.client (into_iter_items c.loop-client.left) (into_iter_items c.next.new.self) c.in-Some.ensures.items c.loop-client.invariant.below);
}

pub loop-client-preserved : goal.loop-client-preserved
loop-client-preserved c =
    one-put (records_of c.args.clients.items) c.args.places.now c.loop-client.places c.put.new.places c.in-Some.client (into_iter_items c.loop-client.left) (into_iter_items c.next.new.self)
    c.in-Some.ensures.items c.loop-client.invariant.ended c.loop-client.invariant.below c.loop-client.invariant.same
    (c.put.ensures ∙ ap (λ v. records_placed v.items c.loop-client.places) c.into_records.ensures)
