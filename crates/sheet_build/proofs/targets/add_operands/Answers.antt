use Rattle.std.proofs.Common.{◌≡◌, [], sym, ◌∙◌, arith}
use Rattle.std.proofs.lemmas.List.{nil_from_length}
use Rattle.search_path.specs.Search.{search}
use Rattle.sheet_build.specs.parts.Stored.{sheet_of_parts}
use Rattle.sheet_build.proofs.Adding.{operands-next, operands-all}
use Rattle.sheet_build.proofs.targets.add_operands.Goals as goal

pub loop-target-preserved : goal.loop-target-preserved
loop-target-preserved g c = record {
  same = c.in_ok-add_operand.ensures.same ∙ c.loop-target.invariant.same;
  adds = λ told is.
      operands-next (search told c.args.setup.now) c.args.visit.now c.in-Some.target c.loop-target.target-iterator.rest.items c.next.new.self.rest.items c.into_iter-target-iterator.result.rest.items
      (sheet_of_parts c.loop-target.parts) (sheet_of_parts c.add_operand.new.parts) (sheet_of_parts c.args.parts.now) c.in-Some.ensures.steps.0
      (c.loop-target.invariant.adds told is) (c.in_ok-add_operand.ensures.adds told (c.loop-target.invariant.same ∙ is));
  later = omega (arith, c.loop-target.invariant.later, c.in_ok-add_operand.ensures.cause.later);
  reads = c.in_ok-add_operand.ensures.no_read ∙ c.loop-target.invariant.reads;
}

pub returns-clause-adds : goal.returns-clause-adds
returns-clause-adds g c = λ told is.
    let rest = c.loop-target.target-iterator.rest.items in
    let none : rest ≡ [] = nil_from_length rest (sym c.loop-target.target-iterator.rest.ok.0 ∙ c.in-None.ensures.steps.0) in
    operands-all (search told c.args.setup.now) c.args.visit.now rest c.into_iter-target-iterator.result.rest.items c.args.targets
    (sheet_of_parts c.loop-target.parts) (sheet_of_parts c.args.parts.now) none (c.into_iter-target-iterator.ensures.into_iter_gives.0 ∙ c.into_vec-target-items.ensures) (c.loop-target.invariant.adds told is)
