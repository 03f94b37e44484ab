use Rattle.std.proofs.Common.{sym, ap}
use Rattle.closure_memo.specs.History.{kept_weight}
use Rattle.closure_memo.specs.Memo.{Memo, RightIn, publication, number_of}
use Rattle.closure_memo.proofs.Memos.{publish_keeps, number_placed, found_is_new}
use Rattle.closure_memo.proofs.state.MemoState.publish.Goals as goal

pub invariant_of-self-2 : goal.invariant_of-self-2
invariant_of-self-2 g c =
    let eq = g.M.Key.PartialEq.eq in
    let memo : Memo g.row.M-Key.Denot g.row.M-Value.Denot = record { limit = c.self.inside.limit; keys = c.self.inside.keys.keys; values = c.self.inside.values.items; steps = c.self.inside.steps.items } in
    let keeps = publish_keeps eq (RightIn g.M.Of.Frozen.named g.M.Memoised.right) g.M.Memoised.weigh g.met.M.Memoised.exact memo c.self.invariant.1 c.args.client c.args.key (g.met.M.Key.Eq.laws.refl c.args.key) c.args.value c.requires.right in
    rw (
      c.keep_new.ensures.weights,
      c.keep_new.ensures.values,
      c.push_reserved.ensures.items,
      c.publish_what.ensures,
      c.publication_in-kept.ensures,
      c.has_value-has.ensures,
      c.reserve.ensures.items,
      c.in_ok-see_key.ensures.keys,
      c.in_ok-see_key.ensures.values,
      c.weight-weight.ensures,
      c.as_slice.ensures.value,
      c.number_in-number.ensures.number,
      c.self.invariant.0,
    ) (sym keeps.0, keeps.1)

pub keep_new-requires-clause-room : goal.keep_new-requires-clause-room
keep_new-requires-clause-room g c =
    let memo : Memo g.row.M-Key.Denot g.row.M-Value.Denot = record { limit = c.self.inside.limit; keys = c.self.inside.keys.keys; values = c.self.inside.values.items; steps = c.self.inside.steps.items } in
    rw (c.in_ok-see_key.ensures.values, c.number_in-number.ensures.number) (number_placed g.M.Key.PartialEq.eq (RightIn g.M.Of.Frozen.named g.M.Memoised.right) g.M.Memoised.weigh memo c.self.invariant.1 c.args.key)

pub returns-clause-exactly : goal.returns-clause-exactly
returns-clause-exactly g c =
    let eq = g.M.Key.PartialEq.eq in
    let memo : Memo g.row.M-Key.Denot g.row.M-Value.Denot = record { limit = c.self.inside.limit; keys = c.self.inside.keys.keys; values = c.self.inside.values.items; steps = c.self.inside.steps.items } in
    let same = found_is_new eq (RightIn g.M.Of.Frozen.named g.M.Memoised.right) g.M.Memoised.weigh memo c.self.invariant.1 (number_of eq c.args.key memo.keys) in
    rw (← c.self.view_is, c.publication_in-kept.ensures, c.has_value-has.ensures, c.weight-weight.ensures, c.as_slice.ensures.value, c.number_in-number.ensures.number, c.self.invariant.0)
    (ap (publication memo.limit (kept_weight memo.steps) (g.M.Memoised.weigh c.args.value)) same)
