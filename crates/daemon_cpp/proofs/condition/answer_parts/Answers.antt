use Rattle.std.proofs.Common.{◌≡◌, [], refl, sym, ◌∙◌, arith}
use Rattle.std.proofs.lemmas.List.{nil_from_length}
use Rattle.base_types.proofs.Results.{no-error}
use Rattle.daemon_cpp.specs.Prep.{world_of}
use Rattle.daemon_cpp.specs.parts.Showing.{here_seen}
use Rattle.daemon_cpp.proofs.Conditions.{answers-first, answers-next, answers-stop, answers-all}
use Rattle.daemon_cpp.proofs.condition.answer_parts.Goals as goal

pub loop-part-init : goal.loop-part-init
loop-part-init g c = record {
  same = refl;
  answers = λ told is.
      answers-first (world_of told c.args.places.setup.now) c.args.at c.args.places.source.now (here_seen c.args.places) c.into_iter-part-iterator.result.rest.items c.args.kept.now c.new-answered.result c.new-answered.ensures;
  spends = omega arith;
  later = omega arith;
}

pub loop-part-preserved : goal.loop-part-preserved
loop-part-preserved g c = record {
  same = c.answer_part.ensures.same ∙ c.loop-part.invariant.same;
  answers = λ told is.
      answers-next (world_of told c.args.places.setup.now) c.args.at c.args.places.source.now (here_seen c.args.places) c.into_iter-part-iterator.result.rest.items c.args.kept.now c.loop-part.kept c.answer_part.new.kept
      c.loop-part.answered c.push.new.self c.loop-part.part-iterator.rest.items c.next.new.self.rest.items c.in-Some.part c.in-Ok.token c.in-Some.ensures.steps.0 (no-error c.push.result c.if-is_err.ensures.value c.push.ensures.ok)
      (c.loop-part.invariant.answers told is) (c.in-Ok.ensures.leads told (c.loop-part.invariant.same ∙ is));
  spends = omega (arith, c.answer_part.ensures.spends, c.loop-part.invariant.spends);
  later = omega (arith, c.answer_part.ensures.cause.later, c.loop-part.invariant.later);
}

pub returns-in-Err-clause-leads : goal.returns-in-Err-clause-leads
returns-in-Err-clause-leads g c =
    λ told is.
    answers-stop (world_of told c.args.places.setup.now) c.args.at c.args.places.source.now (here_seen c.args.places) c.into_iter-part-iterator.result.rest.items c.args.kept.now c.loop-part.kept c.answer_part.new.kept
    c.loop-part.answered c.loop-part.part-iterator.rest.items c.next.new.self.rest.items c.in-Some.part c.in-Err.stop c.args.parts c.in-Some.ensures.steps.0
    (c.into_iter-part-iterator.ensures.into_iter_gives.0 ∙ c.into_vec-part-items.ensures) (c.loop-part.invariant.answers told is)
    (c.in-Err.ensures.leads told (c.loop-part.invariant.same ∙ is))

pub returns-clause-leads : goal.returns-clause-leads
returns-clause-leads g c =
    λ told is.
    let rest = c.loop-part.part-iterator.rest.items in
    let none : rest ≡ [] = nil_from_length rest (sym c.loop-part.part-iterator.rest.ok.0 ∙ c.in-None.ensures.steps.0) in
    answers-all (world_of told c.args.places.setup.now) c.args.at c.args.places.source.now (here_seen c.args.places) c.into_iter-part-iterator.result.rest.items c.args.kept.now c.loop-part.kept
    c.loop-part.answered rest c.args.parts none (c.into_iter-part-iterator.ensures.into_iter_gives.0 ∙ c.into_vec-part-items.ensures) (c.loop-part.invariant.answers told is)
