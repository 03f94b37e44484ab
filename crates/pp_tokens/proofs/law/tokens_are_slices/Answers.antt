use Rattle.pp_tokens.proofs.SliceLemmas.{each_is_slice, tokens_in_order, comment_is_rest}
use Rattle.pp_tokens.proofs.law.tokens_are_slices.Goals as goal

pub returns : goal.returns
returns c = record { each = each_is_slice; order = tokens_in_order; open_comment = comment_is_rest }
