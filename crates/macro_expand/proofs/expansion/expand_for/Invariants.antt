use Rattle.std.proofs.Common.{◌≡◌, ◌+◌, ◌≤◌, [], map, length}
use Rattle.macro_expand.specs.Replacement.{unmarked}
use Rattle.macro_expand.specs.Answered.{expanded_for}
use Rattle.macro_expand.specs.parts.Stamps.{Stamps, AllStamped}
use Rattle.macro_expand.proofs.LoopLaws.{KeepsTokens}
use Rattle.macro_expand.proofs.expansion.expand_for.Given as goal

-- the tokens put out so far, before what the pending tokens become with the work that is left
abbrev pub invariant-loop-t : goal.invariant-loop-t
invariant-loop-t g l =
    KeepsTokens (g.A.Answers.answerer l.source) l.mode 0
    (expanded_for (g.A.Answers.answerer l.source) l.initial.answers l.mode 0 l.initial.work.left (map unmarked l.run))
    l.out.items l.answers l.work.left l.pending
    × ((l.step.items ≡ []) × ((l.work.left ≤ l.initial.work.left) × ((sets : Stamps) × AllStamped sets l.stamps l.pending)))

abbrev pub decreases-loop-t : goal.decreases-loop-t
decreases-loop-t g l = l.work.left + length l.pending
