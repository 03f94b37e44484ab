use Rattle.std.proofs.Common.{Option, Some, sym, ap, ◌∙◌}
use Rattle.macro_defs.specs.Defining.{Parameters, listed, cut_at_commas, behind_names}
use Rattle.macro_defs.proofs.Pieces.{no_name, one_name, no_last, one_last}
use Rattle.macro_defs.proofs.params.listed.Goals as goal

pub returns-in_default-named_before-clause-err : goal.returns-in_default-named_before-clause-err
returns-in_default-named_before-clause-err c =
    c.loop-piece.invariant ∙ no_name c.loop-piece.names c.loop-piece.rest.now c.in-Some.piece.now c.in-Some.behind.now c.in-Some.ensures c.in_default-named_before.ensures

pub loop-piece-preserved : goal.loop-piece-preserved
loop-piece-preserved c =
    c.loop-piece.invariant
    ∙ one_name c.loop-piece.names c.loop-piece.rest.now c.in-Some.piece.now c.in-Some.behind.now c.in-Some-named_before.name.now c.in-Some.ensures c.in-Some-named_before.ensures
    ∙ ap (λ names. behind_names names (listed (cut_at_commas c.in-Some.behind.now))) (sym c.in_ok-push_name.ensures)

pub returns-in_default-named_last-clause-err : goal.returns-in_default-named_last-clause-err
returns-in_default-named_last-clause-err c =
    c.loop-piece.invariant ∙ no_last c.loop-piece.names c.loop-piece.rest.now c.in_default.ensures c.in_default-named_last.ensures

pub returns-clause-ok : goal.returns-clause-ok
returns-clause-ok c =
    c.loop-piece.invariant
    ∙ one_last c.loop-piece.names c.loop-piece.rest.now c.in-Some-named_last.name.now c.in-Some-named_last.variadic c.in_default.ensures c.in-Some-named_last.ensures
    ∙ ap {B = Option Parameters} (λ names. Some (record { names = names; variadic = c.in-Some-named_last.variadic })) (sym c.in_ok-push_name-2.ensures)
