use Rattle.std.proofs.Common.{◌≡◌, ◌∙◌, ◌<◌, ◌+◌, ◌-◌, ◌/◌, length, sym, ap, arith}
use Rattle.std.specs.declared.cmp.Ordering.TheVariants.{Less, Greater}
use Rattle.symbolic_expand.specs.Texts.{text_cmp}
use Rattle.tree_model.specs.Paths.{Text}
use Rattle.closure_fixpoint.proofs.AmongLaws.{upper_half, lower_half, none_between}
use Rattle.closure_fixpoint.proofs.naming.is_among.Goals as goal

pub loop-low-preserved-in-Less : goal.loop-low-preserved-in-Less
loop-low-preserved-in-Less c =
    let within : c.loop-low.low + (c.loop-low.high - c.loop-low.low) / 2 < length c.args.names.now = omega (arith, c.loop-low.invariant.within, c.loop-low-test.true) in
    let less : text_cmp c.index-names-middle.result c.args.name.now ≡ Less = ap (λ (x : Text). text_cmp x c.args.name.now) (sym c.as_slice.ensures) ∙ sym c.cmp.ensures ∙ c.in-Less.is in
    record {
      ordered = omega (arith, c.loop-low-test.true);
      within = c.loop-low.invariant.within;
      between = upper_half c.args.names.now c.args.name.now c.loop-low.low c.loop-low.high (c.loop-low.low + (c.loop-low.high - c.loop-low.low) / 2) c.index-names-middle.result c.requires within c.index-names-middle.is less
          c.loop-low.invariant.between;
    }

pub loop-low-preserved : goal.loop-low-preserved
loop-low-preserved c =
    let within : c.loop-low.low + (c.loop-low.high - c.loop-low.low) / 2 < length c.args.names.now = omega (arith, c.loop-low.invariant.within, c.loop-low-test.true) in
    let greater : text_cmp c.index-names-middle.result c.args.name.now ≡ Greater = ap (λ (x : Text). text_cmp x c.args.name.now) (sym c.as_slice.ensures) ∙ sym c.cmp.ensures ∙ c.in-Greater.is in
    record {
      ordered = omega arith;
      within = omega (arith, within);
      between = lower_half c.args.names.now c.args.name.now c.loop-low.low c.loop-low.high (c.loop-low.low + (c.loop-low.high - c.loop-low.low) / 2) c.index-names-middle.result c.requires within c.index-names-middle.is greater
          c.loop-low.invariant.between;
    }

pub returns : goal.returns
returns c is = none_between c.args.names.now c.args.name.now c.loop-low.low c.loop-low.high c.loop-low-test.false c.loop-low.invariant.between
