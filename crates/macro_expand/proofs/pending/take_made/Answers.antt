use Rattle.std.proofs.Common.{◌≡◌, ◌-◌, ◌++◌, ◌∷◌, length, reverse, Some, slice_get, ap, sym}
use Rattle.macro_expand.proofs.PendingLemmas.{last_taken}
use Rattle.macro_expand.proofs.pending.take_made.Goals as goal

pub returns-clause-taken : goal.returns-clause-taken
returns-clause-taken c =
    let seen : Some c.in_ok-last.field-0.now ≡ slice_get c.args.made.now.items (length c.args.made.now.items - 1) = rw c.deref.ensures.value at c.in_ok-last.ensures.value in
    let turned : reverse c.args.made.now.items ≡ c.in_ok-last.field-0.now ∷ reverse c.pop.new.self.items =
    last_taken c.args.made.now.items c.pop.new.self.items c.pop.result _ _ c.in_ok-last.field-0.now seen c.pop.ensures.items c.args.made.now.ok.0 c.pop.ensures.cases in
    λ rest. (
      c.in_ok-last.field-0.now,
      (sym c.in_ok-token.ensures, (ap (λ l. l ++ rest) turned, c.is_untouched.ensures (cc) c.in_ok-last.field-0.now (reverse c.pop.new.self.items ++ rest) (sym c.in_ok-token.ensures))),
    )
