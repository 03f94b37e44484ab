use Rattle.std.proofs.Common.{sym, ap, ◌∙◌}
use Rattle.macro_defs.specs.Defining.{names_macro}
use Rattle.daemon_cpp.specs.parts.Showing.{here_seen}
use Rattle.daemon_cpp.proofs.Defines.{undef-first}
use Rattle.daemon_cpp.proofs.define.undefine.Goals as goal

pub returns-clause-goes : goal.returns-clause-goes
returns-clause-goes c =
    undef-first c.args.kept.now c.undef.new.self c.args.places.source.now (here_seen c.args.places) c.args.at c.args.tokens.now c.name-item.result _ c.in-len1-up.len_at_least
    c.name-item.is (ap names_macro (sym c.as_ref.ensures) ∙ sym c.if-not-names_macro.ensures) (rw c.as_slice.ensures at c.undef.ensures.sets)
