use Rattle.std.proofs.Common.{sym, ◌∙◌, get_or}
use Rattle.pp_tokens.proofs.MarkLemmas.{short_mark}
use Rattle.pp_tokens.proofs.marks.mark_length.Goals as goal

pub returns-else-is_second : goal.returns-else-is_second
returns-else-is_second c =
    sym (short_mark (get_or c.args.rest.now 0 0) (get_or c.args.rest.now 1 0) (get_or c.args.rest.now 2 0) (get_or c.args.rest.now 3 0) (rw c.byte_at.ensures at (sym c.is_second.ensures ∙ c.if-is_second.false)))
