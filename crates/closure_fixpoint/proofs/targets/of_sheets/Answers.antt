use Rattle.std.proofs.Common.{◌≡◌, ◌∙◌, sym, ap, subst, inl, inr, Option, None, Result, Ok, List}
use Rattle.base_types.specs.Members.{Member}
use Rattle.search_path.specs.declared.asking.Visit.{Visit}
use Rattle.closure_fixpoint.specs.declared.job_analysis.Refusal.{Refusal}
use Rattle.closure_fixpoint.specs.declared.wanting.Want.{Want}
use Rattle.sheet_build.specs.Sheet.{SheetData, ComputedAsk}
use Rattle.closure_fixpoint.specs.Targets.{heard_of, WantsOr, IsDoneWith, DoneWithAll}
use Rattle.closure_fixpoint.proofs.LoopLaws.{item_there, so_far}
use Rattle.closure_fixpoint.proofs.NumberLaws.{numbers_at, counted_next}
use Rattle.closure_fixpoint.proofs.targets.of_sheets.Goals as goal

pub of_targets-requires-clause-told : goal.of_targets-requires-clause-told
of_targets-requires-clause-told c = item_there c.args.sheets.now c.loop-told.told-index c.told-item.result c.loop-told-test.true c.told-item.is

pub of_targets-requires-clause-numbers : goal.of_targets-requires-clause-numbers
of_targets-requires-clause-numbers c =
    numbers_at c.args.sheets.now c.loop-told.told-index c.loop-told.number c.told-item.result c.computed-targets.result.now c.loop-told-test.true c.told-item.is c.computed-targets.ensures c.loop-told.invariant.counted

pub loop-told-preserved : goal.loop-told-preserved
loop-told-preserved c = record {
  follows = c.in_ok-of_targets.ensures.follows;
  done = λ visit sheet other m n.
      let whole : c.in_ok-of_targets.field-0 ≡ Ok None = c.in-Ok-None.is ∙ ap Ok c.in-Ok-None.field-0-is in
      let done : DoneWithAll c.args.job.now c.args.budget (heard_of c.args.searches.now c.args.sheets.now) c.args.found.now c.told-item.result.0 c.told-item.result.1 c.computed-targets.result.now =
      subst (λ (r : Result (Option Want) Refusal). WantsOr c.args.job.now c.args.budget (heard_of c.args.searches.now c.args.sheets.now) c.args.found.now
      (DoneWithAll c.args.job.now c.args.budget (heard_of c.args.searches.now c.args.sheets.now) c.args.found.now c.told-item.result.0 c.told-item.result.1 c.computed-targets.result.now) r) whole
      c.in_ok-of_targets.ensures.want in
      elim (so_far c.args.sheets.now c.loop-told.told-index c.told-item.result (visit, sheet) c.loop-told-test.true c.told-item.is m) [
        | inl before ↦ c.loop-told.invariant.done visit sheet other before n
        | inr same ↦
            subst (λ (p : Visit × SheetData). Member other p.1.computed
            → IsDoneWith c.args.job.now c.args.budget (heard_of c.args.searches.now c.args.sheets.now) c.args.found.now p.0 p.1 other) (sym same)
            (λ k. done other (subst (λ (list : List ComputedAsk). Member other list) (sym c.computed-targets.ensures) k)) n
      ];
  counted =
      counted_next c.args.sheets.now c.loop-told.told-index c.loop-told.number c.in_ok-next.next c.told-item.result c.computed-targets.result.now c.loop-told-test.true c.told-item.is c.computed-targets.ensures
      c.loop-told.invariant.counted c.in_ok-next.ensures;
}
