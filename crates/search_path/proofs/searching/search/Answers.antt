use Rattle.std.proofs.Common.{◌∷◌, [], sym, ◌∙◌, ap}
use Rattle.tree_model.specs.Walk.{is_absolute}
use Rattle.search_path.specs.Search.{from_root, relative_candidates, first_located, search}
use Rattle.search_path.proofs.Searches.{found-absolute, search-relative, found-told}
use Rattle.search_path.proofs.searching.search.Goals as goal

pub returns-then-is_absolute-clause-found : goal.returns-then-is_absolute-clause-found
returns-then-is_absolute-clause-found g c =
    found-told (g.T.Tree.told c.args.tree.now) c.locate_from_root.result
    (λ told. first_located told (from_root c.found_absolute.result c.as_slice-name.result.now ∷ []))
    (λ told. search told c.args.setup.now c.args.ask.now)
    c.locate_from_root.ensures.found
    (λ told.
    found-absolute told c.args.setup.now c.args.ask.now c.found_absolute.result c.as_slice-name.result.now c.found_absolute.ensures c.as_slice-name.ensures
    c.if-is_absolute.ensures)

pub returns-else-is_absolute-clause-found : goal.returns-else-is_absolute-clause-found
returns-else-is_absolute-clause-found g c =
    found-told (g.T.Tree.told c.args.tree.now) c.search_relative.result
    (λ told. first_located told (relative_candidates c.args.setup.now c.args.ask.now.form c.args.ask.now.from c.args.ask.now.name))
    (λ told. search told c.args.setup.now c.args.ask.now)
    c.search_relative.ensures.found
    (λ told. search-relative told c.args.setup.now c.args.ask.now (sym (c.if-is_absolute.ensures ∙ ap is_absolute c.as_slice-name.ensures)))
