use Rattle.std.proofs.Common.{sym, ap, ◌∙◌}
use Rattle.std.specs.Prelude.{not, ◌||◌, bytes_eq}
use Rattle.std.specs.List.{list_any}
use Rattle.macro_defs.specs.parts.Stored.{spellings_of}
use Rattle.macro_defs.proofs.Names.{spelled_any, inserted}
use Rattle.macro_defs.proofs.params.add_name.Goals as goal

pub returns-in-Ok-clause-new : goal.returns-in-Ok-clause-new
returns-in-Ok-clause-new c =
    c.in-Ok.ensures.added ∙ ap not (sym (spelled_any (bytes_eq c.as_slice.result.now) c.args.known.now.keys)
    ∙ ap (λ n. list_any (bytes_eq n) (spellings_of c.args.known.now.keys)) c.as_slice.ensures)

pub returns-in-Ok-clause-known : goal.returns-in-Ok-clause-known
returns-in-Ok-clause-known c other =
    ap (λ ks. list_any (bytes_eq other) (spellings_of ks)) c.in-Ok.ensures.keys ∙ inserted c.args.known.now.keys c.as_slice.result other
    ∙ ap (λ n. list_any (bytes_eq other) (spellings_of c.args.known.now.keys) || bytes_eq other n) c.as_slice.ensures
