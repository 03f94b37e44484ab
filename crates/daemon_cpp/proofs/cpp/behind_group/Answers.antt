use Rattle.std.proofs.Common.{◌∙◌, ap}
use Rattle.directive_scan.specs.Groups.{elif_line, else_line, endif_line}
use Rattle.directive_scan.specs.declared.conditional.BranchName.{BranchName}
use Rattle.directive_scan.specs.declared.role.Nesting.TheVariants.{Branch}
use Rattle.directive_scan.specs.Spots.{role_told}
use Rattle.daemon_cpp.proofs.Readers.{branch-first}
use Rattle.daemon_cpp.proofs.cpp.behind_group.Goals as goal

pub returns-in-Endif-clause-leads : goal.returns-in-Endif-clause-leads
returns-in-Endif-clause-leads c = λ world entering state.
    branch-first world entering c.args.pieces.now c.args.line endif_line state c.requires.below (λ p. c.requires.role p ∙ ap (λ (n : BranchName). role_told (Branch n)) c.in-Endif.is)

pub returns-in-Elif-clause-leads : goal.returns-in-Elif-clause-leads
returns-in-Elif-clause-leads c = λ world entering state.
    branch-first world entering c.args.pieces.now c.args.line elif_line state c.requires.below (λ p. c.requires.role p ∙ ap (λ (n : BranchName). role_told (Branch n)) c.in-Elif.is)
    ∙ c.pass.ensures.passes world entering state

pub returns-in-Else-clause-leads : goal.returns-in-Else-clause-leads
returns-in-Else-clause-leads c = λ world entering state.
    branch-first world entering c.args.pieces.now c.args.line else_line state c.requires.below (λ p. c.requires.role p ∙ ap (λ (n : BranchName). role_told (Branch n)) c.in-Else.is)
    ∙ c.pass-in-Else.ensures.passes world entering state
