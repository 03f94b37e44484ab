use Rattle.std.proofs.Common.{sym, ◌∙◌}
use Rattle.closure_memo.specs.Memo.{Memo, RightIn, number_of}
use Rattle.closure_memo.proofs.Memos.{look_keeps, found_is_new, found_right}
use Rattle.closure_memo.proofs.state.MemoState.look.Goals as goal

pub invariant_of-self-2 : goal.invariant_of-self-2
invariant_of-self-2 g c =
    let eq = g.M.Key.PartialEq.eq in
    let memo : Memo g.row.M-Key.Denot g.row.M-Value.Denot = record { limit = c.self.inside.limit; keys = c.self.inside.keys.keys; values = c.self.inside.values.items; steps = c.self.inside.steps.items } in
    let keeps = look_keeps eq (RightIn g.M.Of.Frozen.named g.M.Memoised.right) g.M.Memoised.weigh memo c.self.invariant.1 c.args.client c.args.key.now (g.met.M.Key.Eq.laws.refl c.args.key.now) in
    rw (c.push_reserved.ensures.items, c.reserve.ensures.items, c.in_ok-see_copy.ensures.keys, c.in_ok-see_copy.ensures.values, c.look_what.ensures, c.in_ok-got.ensures, c.as_slice.ensures.value, c.number_in-number.ensures.number) (c.self.invariant.0 ∙ sym keeps.0, keeps.1)

pub returns-clause-exactly : goal.returns-clause-exactly
returns-clause-exactly g c =
    let eq = g.M.Key.PartialEq.eq in
    let memo : Memo g.row.M-Key.Denot g.row.M-Value.Denot = record { limit = c.self.inside.limit; keys = c.self.inside.keys.keys; values = c.self.inside.values.items; steps = c.self.inside.steps.items } in
    let same = found_is_new eq (RightIn g.M.Of.Frozen.named g.M.Memoised.right) g.M.Memoised.weigh memo c.self.invariant.1 (number_of eq c.args.key.now memo.keys) in
    rw (← c.self.view_is, c.in_ok-got.ensures, c.as_slice.ensures.value, c.number_in-number.ensures.number) same

pub returns-clause-right : goal.returns-clause-right
returns-clause-right g c v is =
    let eq = g.M.Key.PartialEq.eq in
    let memo : Memo g.row.M-Key.Denot g.row.M-Value.Denot = record { limit = c.self.inside.limit; keys = c.self.inside.keys.keys; values = c.self.inside.values.items; steps = c.self.inside.steps.items } in
    found_right eq (RightIn g.M.Of.Frozen.named g.M.Memoised.right) g.M.Memoised.weigh (g.met.M.Memoised.exact) memo c.self.invariant.1 c.args.key.now v (rw (c.in_ok-got.ensures, c.as_slice.ensures.value, c.number_in-number.ensures.number) at is)
