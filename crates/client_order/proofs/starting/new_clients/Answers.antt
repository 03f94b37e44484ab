use Rattle.std.proofs.Common.{arith, ◌≡◌, ℕ, ◌+◌, List, [], ◌∷◌, ◌++◌, length, sym, ap, ◌∙◌, subst, zero-add, length-append}
use Rattle.client_steps.specs.declared.client.Client.{Client}
use Rattle.client_steps.specs.Ledger.{IsNew, HasRoom}
use Rattle.client_order.specs.parts.Merged.{AreNew}
use Rattle.client_order.proofs.Begins.{new-snoc, new-rest}
use Rattle.client_order.proofs.starting.new_clients.Goals as goal

one-more : (jobs budget number : ℕ) (clients after : List Client) (client : Client) → after ≡ clients ++ client ∷ [] → AreNew 0 jobs budget clients → length clients ≡ number → IsNew number jobs budget client → HasRoom client → AreNew 0 jobs budget after
one-more jobs budget number clients after client is are count new room =
    subst (AreNew 0 jobs budget) (sym is) (new-snoc 0 jobs budget clients client are (subst (λ n. IsNew n jobs budget client) (sym (zero-add (length clients) ∙ count)) new) room)

one-longer : (number : ℕ) (clients after : List Client) (client : Client) → after ≡ clients ++ client ∷ [] → length clients ≡ number → length after ≡ number + 1
one-longer number clients after client is count = ap length is ∙ (length-append clients (client ∷ []) ∙ ap (λ n. n + 1) count)

pub cancel_all-requires : goal.cancel_all-requires
cancel_all-requires c = new-rest 0 c.args.jobs c.args.budget c.loop-number.clients.items c.loop-number.invariant.new

pub loop-number-preserved : goal.loop-number-preserved
loop-number-preserved c = record {
  new = one-more c.args.jobs c.args.budget c.loop-number.number c.loop-number.clients.items c.push_reserved.new.self.items c.in-Ok.client c.push_reserved.ensures.items c.loop-number.invariant.new c.loop-number.invariant.each c.in-Ok.ensures.new c.in-Ok.ensures.room;
  each = one-longer c.loop-number.number c.loop-number.clients.items c.push_reserved.new.self.items c.in-Ok.client c.push_reserved.ensures.items c.loop-number.invariant.each;
  count = let len = c.push_reserved.ensures.len in let was = c.loop-number.invariant.count in omega (arith, len, was);
  room = c.push_reserved.ensures.capacity ∙ c.loop-number.invariant.room;
}
