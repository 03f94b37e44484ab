use Rattle.std.proofs.Common.{◌≡◌, Bool, true, false, not, refl, arith}
use Rattle.pp_tokens.specs.declared.class.TheConstants.{CLASS}
use Rattle.pp_tokens.specs.Plain.{is_text_mark}
use Rattle.pp_tokens.proofs.ByteTables.{agree_below, from_table}
use Rattle.pp_tokens.proofs.class.is_text_mark.Goals as goal

not_same : (x y : Bool) → not x ≡ not y → x ≡ y
not_same true true h = refl
not_same true false h = cc
not_same false true h = cc
not_same false false h = refl

pub returns : goal.returns
unfolding agree_below
returns c = not_same _ (is_text_mark c.args.b) (from_table CLASS 64 (λ b. not (is_text_mark b)) c.args.b (omega arith) refl)
