use Rattle.std.proofs.Common.{◌≡◌, ◌∙◌, refl, sym, ap, subst, inl, inr, length, Option, None, Result, Ok, List, arith}
use Rattle.std.specs.List.{slice_get}
use Rattle.std.proofs.lemmas.Option.{slice_get_read}
use Rattle.base_types.specs.Members.{Member}
use Rattle.closure_fixpoint.specs.declared.job_analysis.Refusal.{Refusal}
use Rattle.closure_fixpoint.specs.declared.wanting.Want.{Want}
use Rattle.sheet_build.specs.Sheet.{ComputedAsk}
use Rattle.closure_fixpoint.specs.Targets.{heard_of, WantsOr, IsDoneWith}
use Rattle.closure_fixpoint.specs.Naming.{asked_targets}
use Rattle.closure_fixpoint.proofs.LoopLaws.{item_there, so_far}
use Rattle.closure_fixpoint.proofs.targets.of_targets.Goals as goal

pub of_target-requires-clause-told : goal.of_target-requires-clause-told
of_target-requires-clause-told c = record {
  told = c.requires.told;
  stands = subst (λ (list : List ComputedAsk). Member c.target-item.result list) c.requires.all
      (item_there c.args.targets.now c.loop-target.target-index c.target-item.result c.loop-target-test.true c.target-item.is);
}

pub of_target-requires-clause-number : goal.of_target-requires-clause-number
of_target-requires-clause-number c =
    ap (slice_get (asked_targets c.args.sheets.now)) c.loop-target.invariant.counted
    ∙ c.requires.numbers c.loop-target.target-index c.target-item.result
    (slice_get_read c.args.targets.now (length c.args.targets.now) c.loop-target.target-index c.target-item.result refl c.loop-target-test.true c.target-item.is)

pub loop-target-preserved : goal.loop-target-preserved
loop-target-preserved c = record {
  follows = c.in_ok-of_target.ensures.follows;
  done = λ other m.
      let whole : c.in_ok-of_target.field-0 ≡ Ok None = c.in-Ok-None.is ∙ ap Ok c.in-Ok-None.field-0-is in
      elim (so_far c.args.targets.now c.loop-target.target-index c.target-item.result other c.loop-target-test.true c.target-item.is m) [
        | inl before ↦ c.loop-target.invariant.done other before
        | inr same ↦
            subst (λ (x : ComputedAsk). IsDoneWith c.args.job.now c.args.budget (heard_of c.args.searches.now c.args.sheets.now) c.args.found.now c.args.visit.now c.args.sheet.now x) (sym same)
            (subst (λ (r : Result (Option Want) Refusal). WantsOr c.args.job.now c.args.budget (heard_of c.args.searches.now c.args.sheets.now) c.args.found.now
            (IsDoneWith c.args.job.now c.args.budget (heard_of c.args.searches.now c.args.sheets.now) c.args.found.now c.args.visit.now c.args.sheet.now c.target-item.result) r) whole
            c.in_ok-of_target.ensures.want)
      ];
  counted = omega (arith, c.loop-target.invariant.counted);
}
