use Rattle.std.proofs.Common.{◌++◌, take, drop, map, List, ℕ, sym, ap, ◌∙◌, arith}
use Rattle.pp_tokens.specs.declared.place.Place.{Place}
use Rattle.pp_tokens.specs.Excerpts.{Excerpted}
use Rattle.pp_tokens.specs.parts.Packed.{place_told}
use Rattle.pp_tokens.specs.parts.Seen.{token_of_place}
use Rattle.pp_tokens.proofs.ExcerptLemmas.{first_within, joined}
use Rattle.pp_tokens.proofs.excerpt.Excerpt.join.Goals as goal

pub stands_between-requires : goal.stands_between-requires
stands_between-requires c =
    let first = first_within c.self.inside.text.now c.self.inside.places.now c.in-Some.rest.now c.in-Some.place c.self.invariant.2 c.in-Some.ensures in
    record { within = omega (arith, first.0, c.start-start.ensures) }

pub invariant_of-self : goal.invariant_of-self
invariant_of-self c =
    let first = first_within c.self.inside.text.now c.self.inside.places.now c.in-Some.rest.now c.in-Some.place c.self.invariant.2 c.in-Some.ensures in
    let behind = (c.stands_between.ensures c.if-not-stands_between.false).0 in
    (omega (arith, c.self.invariant.0, behind), omega (arith, first.0, c.start-start.ensures, c.length.ensures), first.1)

pub returns-clause-joined : goal.returns-clause-joined
returns-clause-joined c _ =
    let e = c.self.inside in
    let place = c.in-Some.place in
    let between = c.args.between.now in
    let stands = c.stands_between.ensures c.if-not-stands_between.false in
    let taken = c.args.self.now.taken in (
      token_of_place e.text.now place,
      (
        ap (λ (s : Excerpted). s.rest) (sym c.self.view_is) ∙ ap (λ (ps : List Place). map (token_of_place e.text.now) ps) c.in-Some.ensures,
        joined e.text.now between e.start e.end c.start-start.result c.length.result c.self.invariant.0 stands.0 stands.1
            ∙ ap (λ (s : Excerpted). s.taken ++ (between ++ take c.length.result (drop c.start-start.result e.text.now))) c.self.view_is
            ∙ ap (λ (n : ℕ). taken ++ (between ++ take n (drop c.start-start.result e.text.now))) c.length.ensures
            ∙ ap (λ (n : ℕ). taken ++ (between ++ take (place_told place).length (drop n e.text.now))) c.start-start.ensures,
      ),
    )
