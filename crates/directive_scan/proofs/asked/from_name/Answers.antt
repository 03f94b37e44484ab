use Rattle.std.proofs.Common.{◌+◌, ◌-◌, ◌∙◌, arith, ap, drop, take}
use Rattle.pp_tokens.specs.Lines.{all_tokens}
use Rattle.directive_scan.specs.Spots.{tokens_before}
use Rattle.directive_scan.proofs.Spotted.{behind_two, before_two}
use Rattle.directive_scan.proofs.asked.from_name.Goals as goal

pub overflow_add-result : goal.overflow_add-result
overflow_add-result c =
    omega (arith, before_two c.args.file.now c.args.line c.requires.below c.requires.named, c.tokens_before.ensures, c.requires.ends, c.ranges.end)

pub returns : goal.returns
returns c =
    ap (λ n. take (c.args.end - (n + 2)) (drop (n + 2) (all_tokens c.args.file.now))) c.tokens_before.ensures
    ∙ ap (λ n. take (n - (tokens_before c.args.file.now c.args.line + 2)) (drop (tokens_before c.args.file.now c.args.line + 2) (all_tokens c.args.file.now))) c.requires.ends
    ∙ behind_two c.args.file.now c.args.line c.requires.below c.requires.named
