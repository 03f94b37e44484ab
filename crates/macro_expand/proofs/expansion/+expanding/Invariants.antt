use Rattle.std.proofs.Common.{◌≡◌, ◌+◌, ◌-◌, ◌*◌, ◌≤◌, map, length, take, drop}
use Rattle.base_types.specs.Limits.{argument_depth_limit}
use Rattle.macro_expand.specs.Answered.{before, expanded_for, arguments_for}
use Rattle.macro_expand.specs.Seen.{marked_of, lists_of}
use Rattle.macro_expand.specs.parts.Parts.{parts_told}
use Rattle.macro_expand.specs.parts.Stamps.{Stamps, AllStamped, EachStamped, StampsAfter}
use Rattle.macro_expand.proofs.StampLaws.{ArgumentsAfter}
use Rattle.macro_expand.proofs.AnsweredLaws.{before_all}
use Rattle.macro_expand.proofs.expansion.+expanding.Given as goal

-- an argument is expanded one deeper, and at most 400 deep
abbrev pub decreases-expand_list : goal.decreases-expand_list
decreases-expand_list g l = 6 * (argument_depth_limit - l.depth) + 5

abbrev pub decreases-expand_head : goal.decreases-expand_head
decreases-expand_head g l = 6 * (argument_depth_limit - l.depth) + 4

abbrev pub decreases-expand_name : goal.decreases-expand_name
decreases-expand_name g l = 6 * (argument_depth_limit - l.depth) + 3

abbrev pub decreases-expand_call : goal.decreases-expand_call
decreases-expand_call g l = 6 * (argument_depth_limit - l.depth) + 2

abbrev pub decreases-expand_arguments : goal.decreases-expand_arguments
decreases-expand_arguments g l = 6 * (argument_depth_limit - l.depth) + 1

abbrev pub decreases-expand_argument : goal.decreases-expand_argument
decreases-expand_argument g l = 6 * (argument_depth_limit - l.depth)

-- the arguments expanded so far, before what the others become with the work that is left
abbrev pub invariant-expand_arguments-loop-i : goal.invariant-expand_arguments-loop-i
invariant-expand_arguments-loop-i g l =
    record {
      becomes : arguments_for (g.A.Answers.answerer l.source) l.initial.answers l.mode l.depth l.t.token (parts_told l.call.parts) 0 l.initial.work.left (lists_of l.fn.written.items)
          ≡ before_all (lists_of (take l.i l.lists.items))
          (arguments_for (g.A.Answers.answerer l.source) l.answers l.mode l.depth l.t.token (parts_told l.call.parts) l.i l.work.left (lists_of (drop l.i l.lists.items)));
      same : length l.lists.items ≡ length l.fn.written.items;
      spends : l.work.left ≤ l.initial.work.left;
      later : l.initial.stamps ≤ l.stamps;
      stamped : (sets : Stamps) → EachStamped sets l.initial.stamps l.fn.written.items
          → ArgumentsAfter sets l.initial.stamps l.stamps (take l.i l.lists.items) (drop l.i l.lists.items);
    }

-- the tokens put out so far, before what the pending tokens become with the work that is left
abbrev pub invariant-expand_list-loop-t : goal.invariant-expand_list-loop-t
invariant-expand_list-loop-t g l =
    (expanded_for (g.A.Answers.answerer l.source) l.initial.answers l.mode l.depth l.initial.work.left (map marked_of l.fn.given.items)
    ≡ before (map marked_of l.out.items)
    (expanded_for (g.A.Answers.answerer l.source) l.answers l.mode l.depth l.work.left (map marked_of l.pending)))
    × ((l.work.left ≤ l.initial.work.left) × ((l.initial.stamps ≤ l.stamps)
    × ((sets : Stamps) → AllStamped sets l.initial.stamps l.fn.given.items → StampsAfter sets l.initial.stamps l.stamps l.pending l.out.items)))

abbrev pub decreases-expand_list-loop-t : goal.decreases-expand_list-loop-t
decreases-expand_list-loop-t g l = l.work.left + length l.pending
