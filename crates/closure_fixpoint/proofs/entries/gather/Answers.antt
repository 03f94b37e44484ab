use Rattle.std.proofs.Common.{[], List, Err, refl, sym, ◌∙◌, ap, subst}
use Rattle.std.specs.Prelude.{All}
use Rattle.tree_model.specs.Paths.{Path, IsCanonical}
use Rattle.tree_model.specs.Entries.{Entries}
use Rattle.closure_fixpoint.specs.Gathering.{gathered_from, is_over}
use Rattle.closure_fixpoint.proofs.GatherLaws.{gathered-in-order, no-large, tree-made}
use Rattle.closure_fixpoint.proofs.entries.gather.Goals as goal

pub returns-in-Err-Large-clause-gathered : goal.returns-in-Err-Large-clause-gathered
returns-in-Err-Large-clause-gathered g c told is = (
  gathered_from told [] c.deref.result.now,
  gathered-in-order told c.deref.result.now c.in_ok-nodes.nodes.items c.as_slice.result.now c.args.closure.now.nodes (gathered_from told [] c.deref.result.now)
      c.deref.ensures.value c.as_slice.ensures c.in_ok-nodes.ensures.rising c.in_ok-nodes.ensures.same refl,
  c.in-Err-Large.ensures.large told is (ap (λ e. Err e) c.in-Err-Large.field-0-is),
)

pub returns-then-is_too_long-clause-gathered : goal.returns-then-is_too_long-clause-gathered
returns-then-is_too_long-clause-gathered g c told is = (
  c.in-Ok.entries.items,
  gathered-in-order told c.deref.result.now c.in_ok-nodes.nodes.items c.as_slice.result.now c.args.closure.now.nodes c.in-Ok.entries.items
      c.deref.ensures.value c.as_slice.ensures c.in_ok-nodes.ensures.rising c.in_ok-nodes.ensures.same (c.in-Ok.ensures.entries told is),
  no-large c.in-Ok.entries.items c.in-Ok.ensures.spellable,
  ap (λ (es : Entries). is_over c.args.job.now es) (sym c.deref-2.ensures.value) ∙ sym c.is_too_long.ensures ∙ c.if-is_too_long.true,
)

pub returns-clause-gathered : goal.returns-clause-gathered
returns-clause-gathered g c told is = (
  gathered-in-order told c.deref.result.now c.in_ok-nodes.nodes.items c.as_slice.result.now c.args.closure.now.nodes c.in-Ok.entries.items
      c.deref.ensures.value c.as_slice.ensures c.in_ok-nodes.ensures.rising c.in_ok-nodes.ensures.same (c.in-Ok.ensures.entries told is),
  no-large c.in-Ok.entries.items c.in-Ok.ensures.spellable,
  ap (λ (es : Entries). is_over c.args.job.now es) (sym c.deref-2.ensures.value) ∙ sym c.is_too_long.ensures ∙ c.if-is_too_long.false,
)

pub returns-clause-fits : goal.returns-clause-fits
returns-clause-fits g c = (
  tree-made c.parents_make_trees.ensures c.tests_decide.ensures c.deref.result.now c.in-Ok.entries.items
      (subst (λ (l : List Path). All IsCanonical l) (sym c.deref.ensures.value) c.in_ok-nodes.ensures.canonical)
      c.in-Ok.ensures.kept c.in-Ok.ensures.spellable,
  c.in-Ok.ensures.spellable,
  ap (λ (es : Entries). is_over c.args.job.now es) (sym c.deref-2.ensures.value) ∙ sym c.is_too_long.ensures ∙ c.if-is_too_long.false,
)
