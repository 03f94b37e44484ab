use Rattle.std.proofs.Common.{◌≡◌, get_or, refl, sym, arith}
use Rattle.daemon_cpp.proofs.Lines.{capped_from, capped-turn, capped-end}
use Rattle.daemon_cpp.proofs.line.value_of.Goals as goal

pub loop-byte-preserved : goal.loop-byte-preserved
loop-byte-preserved c = record {
  kept = capped-turn c.args.text.now c.loop-byte.byte-index (get_or c.args.text.now c.loop-byte.byte-index 0) 0 c.loop-byte.value c.with_digit-value.result
      (capped_from 0 c.args.text.now) c.loop-byte-test.true refl (sym c.if-not-is_digit.ensures.is) c.with_digit-value.ensures c.loop-byte.invariant.kept;
  small = let e : c.with_digit-value.result ≡ _ = c.with_digit-value.ensures in omega (arith, e);
}

pub returns : goal.returns
returns c =
    capped-end c.args.text.now c.loop-byte.byte-index c.loop-byte.value (omega (arith, c.loop-byte-test.false)) c.loop-byte.invariant.kept
