use Rattle.std.proofs.Common.{◌∙◌, ap, sym, map, length}
use Rattle.std.proofs.lemmas.List.{length-map}
use Rattle.std.proofs.lemmas.Result.{err_from_is_err_and}
use Rattle.macro_defs.specs.MacroDefinition.{without_line}
use Rattle.macro_expand.specs.Replacement.{object_parts, put_in_for, unmarked}
use Rattle.macro_defs.specs.Runs.{run_tokens}
use Rattle.macro_expand.specs.Seen.{marked_of}
use Rattle.macro_expand.specs.Sets.{names_in}
use Rattle.macro_expand.specs.parts.Naming.{lent_told}
use Rattle.macro_expand.proofs.PieceLemmas.{object-same, object-lent, object-empty, Reports-same}
use Rattle.macro_expand.proofs.name.read_object.Goals as goal

pub returns-in_default-clause-ok : goal.returns-in_default-clause-ok
returns-in_default-clause-ok c =
    object-lent c.args.t.now c.args.d.now.body c.in_ok-hidden.hidden (lent_told c.args.t.now c.in_ok-hidden.hidden c.body-body.result) c.in_ok-hidden.ensures
    c.in_default.ensures
    (ap (λ ts. put_in_for c.args.t.now.token (names_in c.in_ok-hidden.hidden) (map unmarked ts)) c.body-body.ensures.tokens)

pub returns-in_err-made-clause-err : goal.returns-in_err-made-clause-err
returns-in_err-made-clause-err c =
    let p = err_from_is_err_and c.from_residual-in_err-made.result c.from_residual-in_err-made.ensures.1 in
    rw (p.1, p.2)
    (Reports-same _ _ _ (object-same c.args.t.now c.args.d.now.body c.in_ok-hidden.hidden (object_parts (map without_line c.in-Some.pasted.now)) c.in_ok-hidden.ensures
    (ap object_parts c.in-Some.ensures)) c.in_err-made.ensures.err)

pub returns-clause-ok : goal.returns-clause-ok
returns-clause-ok c =
    sym (object-same c.args.t.now c.args.d.now.body c.in_ok-hidden.hidden (object_parts (map without_line c.in-Some.pasted.now)) c.in_ok-hidden.ensures
    (ap object_parts c.in-Some.ensures))
    ∙ c.in_ok-made.ensures.ok

pub returns-then-len-eq0-clause-ok : goal.returns-then-len-eq0-clause-ok
returns-then-len-eq0-clause-ok c =
    rw c.new.ensures.items
    (object-empty (marked_of c.args.t.now) c.args.d.now.body
    (ap length (sym c.body-body.ensures.tokens) ∙ length-map (run_tokens c.body-body.result) without_line ∙ sym c.len.ensures ∙ c.if-len-eq0.true))
