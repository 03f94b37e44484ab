use Rattle.std.proofs.Common.{arith}
use Rattle.pp_tokens.proofs.ExcerptLemmas.{first_within}
use Rattle.pp_tokens.proofs.excerpt.Excerpt.begin.Goals as goal

pub invariant_of-self : goal.invariant_of-self
invariant_of-self c =
    let first = first_within c.self.inside.text.now c.self.inside.places.now c.in-Some.rest.now c.in-Some.place c.self.invariant.2 c.in-Some.ensures in
    (omega arith, omega (arith, first.0, c.start-start.ensures, c.length.ensures), first.1)
