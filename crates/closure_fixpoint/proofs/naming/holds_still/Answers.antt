use Rattle.std.proofs.Common.{List, Bool, true, false, not, length, refl, sym, subst, arith}
use Rattle.std.specs.Bool.{IsTrue, IsFalse}
use Rattle.std.proofs.lemmas.Option.{slice_get_read}
use Rattle.tree_model.specs.Paths.{Text}
use Rattle.closure_fixpoint.specs.Naming.{NoneSince, KeptIsReady}
use Rattle.closure_fixpoint.proofs.naming.holds_still.Goals as goal

untouched : (b : Bool) → IsTrue (not b) → IsFalse b
untouched true never = absurd (cc)
untouched false is = refl

pub is_touched-requires : goal.is_touched-requires
is_touched-requires c =
    subst (λ (log : List Text). KeptIsReady (length log) c.index-kept.result.now) (sym c.deref.ensures.value)
    (c.requires c.args.number c.index-kept.result.now
    (slice_get_read c.args.naming.now.kept.items c.len.result c.args.number c.index-kept.result.now (omega (arith, c.len.ensures, c.args.naming.now.kept.ok)) c.if-number-len.false c.index-kept.ensures))

pub returns : goal.returns
returns c is = record {
  answer = c.index-kept.result.now;
  is = slice_get_read c.args.naming.now.kept.items c.len.result c.args.number c.index-kept.result.now (omega (arith, c.len.ensures, c.args.naming.now.kept.ok)) c.if-number-len.false c.index-kept.ensures;
  within = c.if-kept-budget.false;
  untouched = subst (λ (log : List Text). NoneSince log c.index-kept.result.now) c.deref.ensures.value (c.is_touched.ensures (untouched c.is_touched.result is));
}
