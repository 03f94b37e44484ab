use Rattle.std.proofs.Common.{sym, ◌∙◌, ap, List, ℕ, ◌==◌}
use Rattle.std.specs.Prelude.{length}
use Rattle.std.specs.List.{list_all}
use Rattle.std.proofs.lemmas.Bool.{eqb-false, ne_eqb}
use Rattle.std.proofs.lemmas.List.{take_rest}
use Rattle.tree_model.specs.Paths.{is_name}
use Rattle.tree_model.proofs.PathLemmas.{scan_at, scan_not, parts_of}
use Rattle.tree_model.proofs.path.is_spelling.Goals as goal

pub returns-else-is_empty : goal.returns-else-is_empty
returns-else-is_empty c =
    let rest = take_rest c.args.text.now 1 in
    c.are_names.ensures ∙ ap (λ (t : List ℕ). list_all is_name (parts_of t)) rest
    ∙ scan_at c.args.text.now c.in-len1-up.len_at_least c.if-first-eq47.true (eqb-false _ 0 (ap (λ (t : List ℕ). length t == 0) (sym rest) ∙ sym c.if-is_empty.ensures)) c.if-text-gt-PATH_LIMIT.false

pub returns-else-first-eq47 : goal.returns-else-first-eq47
returns-else-first-eq47 c = ne_eqb _ 47 c.if-first-eq47.false ∙ sym (scan_not c.args.text.now c.in-len1-up.len_at_least c.if-first-eq47.false)
