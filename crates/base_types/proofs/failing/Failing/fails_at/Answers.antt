use Rattle.std.proofs.Common.{◌≡◌, true, false}
use Rattle.std.specs.List.{list_any}
use Rattle.base_types.proofs.Listed.{member-found, member-missed}
use Rattle.base_types.proofs.failing.Failing.fails_at.Goals as goal

pub returns-then-due-clause-listed : goal.returns-then-due-clause-listed
returns-then-due-clause-listed g c found =
    let any : list_any (λ y. g.N.PartialEq.eq y c.args.number.now) c.self.inside.list.items ≡ true = rw (← c.deref.ensures.value, ← c.contains-due.ensures.value) found in
    rw (← c.self.view_is) (member-found g.N.PartialEq.eq c.requires c.args.number.now c.self.inside.list.items any)

pub returns-else-due-clause-unlisted : goal.returns-else-due-clause-unlisted
returns-else-due-clause-unlisted g c missed =
    let any : list_any (λ y. g.N.PartialEq.eq y c.args.number.now) c.self.inside.list.items ≡ false = rw (← c.deref.ensures.value, ← c.contains-due.ensures.value) missed in
    rw (← c.self.view_is) (member-missed g.N.PartialEq.eq c.requires c.args.number.now c.self.inside.list.items any)
