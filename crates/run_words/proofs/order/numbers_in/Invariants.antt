use Rattle.std.proofs.Common.{◌≡◌, length}
use denote.Text.{Utf8}
use denote.Shadow.{shadow}
use Rattle.run_words.specs.Asked.{numbers_in}
use Rattle.run_words.proofs.Parts.{parts, numbers_behind}
use Rattle.run_words.proofs.order.numbers_in.Given as goal

abbrev pub invariant-loop-part : goal.invariant-loop-part
invariant-loop-part l = record {
  text : shadow (Utf8 l.rest);
  read : numbers_in (parts l.fn.word) ≡ numbers_behind l.numbers.items (numbers_in (parts l.rest));
}

abbrev pub decreases-loop-part : goal.decreases-loop-part
decreases-loop-part l = length l.rest
