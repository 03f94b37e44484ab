use Rattle.std.proofs.Common.{◌∙◌, ap}
use Rattle.macro_expand.specs.Replacement.{replacement}
use Rattle.macro_expand.specs.Sets.{names_in}
use Rattle.macro_expand.specs.Seen.{marked_of, lists_of, call_replaced_by}
use Rattle.macro_expand.specs.parts.Parts.{parts_told}
use Rattle.macro_expand.proofs.PieceLemmas.{call-empty, call-same, ok-same, err-same}
use Rattle.macro_expand.proofs.StampLaws.{head-within}
use Rattle.macro_expand.proofs.replace.call_tokens.Goals as goal
use Rattle.macro_expand.proofs.replace.call_tokens.Goals.{then-call-t, else-call-t}

pub returns-clause-ok : goal.returns-clause-ok
returns-clause-ok c =
    ok-same c.replaced.result
    (replacement c.args.t.now.token (names_in c.in_ok-hidden.hidden) (parts_told c.args.parts.now)
    (record { written = lists_of c.deref.result.now; expanded = lists_of c.args.expanded.now; variable = c.args.variable }))
    (call_replaced_by c.args.t.now (parts_told c.args.parts.now) c.args.variable (lists_of c.args.call.now.written.items) (marked_of c.args.call.now.close)
    (lists_of c.args.expanded.now))
    (call-same c.args.t.now c.args.call.now.close (parts_told c.args.parts.now) c.args.variable (lists_of c.deref.result.now)
    (lists_of c.args.expanded.now) c.in_ok-hidden.hidden c.in_ok-hidden.ensures
    ∙ ap (λ w. call_replaced_by c.args.t.now (parts_told c.args.parts.now) c.args.variable (lists_of w) (marked_of c.args.call.now.close)
    (lists_of c.args.expanded.now)) c.deref.ensures.value)
    c.replaced.ensures.ok

pub returns-clause-err : goal.returns-clause-err
returns-clause-err c =
    err-same c.replaced.result
    (replacement c.args.t.now.token (names_in c.in_ok-hidden.hidden) (parts_told c.args.parts.now)
    (record { written = lists_of c.deref.result.now; expanded = lists_of c.args.expanded.now; variable = c.args.variable }))
    (call_replaced_by c.args.t.now (parts_told c.args.parts.now) c.args.variable (lists_of c.args.call.now.written.items) (marked_of c.args.call.now.close)
    (lists_of c.args.expanded.now))
    (call-same c.args.t.now c.args.call.now.close (parts_told c.args.parts.now) c.args.variable (lists_of c.deref.result.now)
    (lists_of c.args.expanded.now) c.in_ok-hidden.hidden c.in_ok-hidden.ensures
    ∙ ap (λ w. call_replaced_by c.args.t.now (parts_told c.args.parts.now) c.args.variable (lists_of w) (marked_of c.args.call.now.close)
    (lists_of c.args.expanded.now)) c.deref.ensures.value)
    c.replaced.ensures.err

pub replaced-requires-clause-head : goal.replaced-requires-clause-head
replaced-requires-clause-head c some =
    elim c.if-call-t.branch [
      | then-call-t w ↦ (
        w.stamping-is,
        head-within c.args.t.now.hidden c.args.call.now.close.hidden c.in_ok-hidden.hidden c.args.t.now.token.text c.in_ok-hidden.ensures
            (c.requires.close w.if-call-t.true (λ none. some (w.stamping-is ∙ none))),
      )
      | else-call-t w ↦ absurd (some w.stamping-is)
    ]

pub returns-then-are_none-clause-ok : goal.returns-then-are_none-clause-ok
returns-then-are_none-clause-ok c =
    rw c.new.ensures.items
    (call-empty c.args.t.now (parts_told c.args.parts.now) c.args.variable (lists_of c.args.call.now.written.items) (marked_of c.args.call.now.close)
    (lists_of c.args.expanded.now) (c.are_none.ensures c.if-are_none.true))
