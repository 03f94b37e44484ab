use Rattle.pp_tokens.proofs.ExcerptLemmas.{first_within}
use Rattle.pp_tokens.proofs.excerpt.Excerpt.first.Goals as goal

pub token_of-requires : goal.token_of-requires
token_of-requires c =
    (first_within c.self.inside.text.now c.self.inside.places.now c.in-Some.field-0-1.now c.in-Some.place c.self.invariant.2 c.in-Some.ensures).0
