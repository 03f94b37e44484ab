use Rattle.std.proofs.Common.{◌≡◌, ◌<◌, ◌+◌, ◌∷◌, [], length, get_or, false, ◌==◌, sym, ◌∙◌, arith}
use Rattle.std.proofs.lemmas.Bool.{ne_eqb, not-true}
use Rattle.pp_tokens.proofs.Runs.{kept_stays, backslash_stays}
use Rattle.pp_tokens.proofs.source.stays.Goals as goal

pub returns-then-is_kept : goal.returns-then-is_kept
returns-then-is_kept c = λ _. kept_stays c.args.trigraphs c.args.bytes.now (10 ∷ []) c.args.at c.requires (sym c.is_kept.ensures ∙ c.if-is_kept.true)

pub returns-then-next-ne10 : goal.returns-then-next-ne10
returns-then-next-ne10 c = λ other.
    (let next = get_or c.args.bytes.now (c.args.at + 1) 0 in
    let within : c.args.at + 1 < length c.args.bytes.now = omega (arith, c.requires, c.if-at-bytes.false) in
    let feed : (next == 10) ≡ false = ne_eqb next 10 c.if-next-ne10.true in
    let return : (next == 13) ≡ false = not-true (next == 13) other in
    backslash_stays c.args.trigraphs c.args.bytes.now (10 ∷ []) c.args.at within c.if-bytes-at-ne92.false feed return)
