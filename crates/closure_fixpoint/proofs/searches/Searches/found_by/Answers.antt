use Rattle.std.proofs.Common.{◌<◌, length, IfSome, sym, subst, ◌≡◌}
use Rattle.std.specs.List.{slice_get}
use Rattle.closure_fixpoint.proofs.AskLookups.{value_there}
use Rattle.closure_fixpoint.proofs.searches.Searches.found_by.Goals as goal

pub index-requires : goal.index-requires
index-requires c = subst (λ told. c.args.number < length told) (sym c.self.view_is) c.requires

pub returns : goal.returns
returns c =
    subst (λ told. IfSome (slice_get told c.args.number) (λ one. c.index.result.now ≡ one.1)) c.self.view_is
    (value_there c.self.inside.told.entries c.args.number c.index.result.now c.index.ensures)
