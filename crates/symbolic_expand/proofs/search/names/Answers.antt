use Rattle.std.proofs.Common.{sym, subst}
use Rattle.symbolic_expand.specs.Defined.{sets_of}
use Rattle.symbolic_expand.specs.Found.{NamesExactly, name_unless_changed}
use Rattle.symbolic_expand.proofs.HeaderOrder.{names_exactly}
use Rattle.symbolic_expand.proofs.search.names.Goals as goal

pub returns-clause-ok : goal.returns-clause-ok
returns-clause-ok c =
    subst (NamesExactly (sets_of c.args.sets.now) (name_unless_changed c.args.file.now c.args.has_line) c.args.tokens.now c.in_ok-headers.headers)
    (sym c.in_ok-support.ensures.ok)
    (names_exactly c.args.budget (sets_of c.args.sets.now) (name_unless_changed c.args.file.now c.args.has_line) c.args.tokens.now
    c.in_ok-all.all.found.quoted c.in_ok-all.all.found.angled c.in_ok-all.all.met c.in_ok-headers.headers
    (rw c.known_name.ensures at c.in_ok-all.ensures.ok) c.in_ok-headers.ensures.ok
    c.in_ok-headers.ensures.quoted c.in_ok-headers.ensures.angled c.in_ok-support.ensures.ordered)
