use Rattle.std.proofs.Common.{subst, sym, arith}
use Rattle.pp_tokens.specs.parts.Gathered.{IsPart}
use Rattle.pp_tokens.specs.parts.Text.{is_due, part_told}
use Rattle.pp_tokens.proofs.LexSteps.{first_fits, part_at}
use Rattle.pp_tokens.proofs.ShortParts.{short_stretch}
use Rattle.pp_tokens.proofs.lexer.put_part.Goals as goal

pub add-requires-clause-within : goal.add-requires-clause-within
add-requires-clause-within c =
    (first_fits c.args.text.now c.args.at (is_due c.args.gathering.now.before) (part_told c.args.part.0) c.args.part.1 c.requires.at c.requires.part).1

pub add-requires-clause-some : goal.add-requires-clause-some
add-requires-clause-some c =
    (first_fits c.args.text.now c.args.at (is_due c.args.gathering.now.before) (part_told c.args.part.0) c.args.part.1 c.requires.at c.requires.part).0

pub add-requires-clause-part : goal.add-requires-clause-part
add-requires-clause-part c =
    part_at c.args.text.now c.args.at (is_due c.args.gathering.now.before) (part_told c.args.part.0) c.args.part.1 c.requires.at c.requires.part

pub add-requires-clause-short : goal.add-requires-clause-short
add-requires-clause-short c =
    short_stretch c.args.text.now c.args.at c.args.part.1 16777216
    (first_fits c.args.text.now c.args.at (is_due c.args.gathering.now.before) (part_told c.args.part.0) c.args.part.1 c.requires.at c.requires.part).1 c.requires.short

pub overflow_add-result : goal.overflow_add-result
overflow_add-result c =
    omega (arith, (first_fits c.args.text.now c.args.at (is_due c.args.gathering.now.before) (part_told c.args.part.0) c.args.part.1 c.requires.at c.requires.part).1, c.requires.small)

pub stretch-requires : goal.stretch-requires
stretch-requires c =
    (first_fits c.args.text.now c.args.at (is_due c.args.gathering.now.before) (part_told c.args.part.0) c.args.part.1 c.requires.at c.requires.part).1

pub newlines-requires : goal.newlines-requires
newlines-requires c = record {
  part = subst (IsPart (part_told c.args.part.0)) (sym c.stretch.ensures)
      (part_at c.args.text.now c.args.at (is_due c.args.gathering.now.before) (part_told c.args.part.0) c.args.part.1 c.requires.at c.requires.part);
}
