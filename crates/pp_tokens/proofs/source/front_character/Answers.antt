use Rattle.std.proofs.Common.{◌≡◌, refl, sym, ◌∙◌, None, Some}
use Rattle.pp_tokens.specs.parts.Pieces.{front_trigraph, front_character}
use Rattle.pp_tokens.proofs.source.front_character.Goals as goal
use Rattle.pp_tokens.proofs.source.front_character.Goals.{then-trigraphs+in_default, else-trigraphs}

pub returns-in-Some-clause-value : goal.returns-in-Some-clause-value
unfolding front_character
returns-in-Some-clause-value c =
    let told : front_trigraph c.args.rest.now ≡ Some c.in-Some.character = sym c.front_trigraph.ensures.value ∙ c.in-Some.is in
    rw (c.if-trigraphs.true, told) refl

pub returns-clause-value : goal.returns-clause-value
unfolding front_character
returns-clause-value c =
    elim c.if-trigraphs.branch [
      | then-trigraphs+in_default w ↦
          (let told : front_trigraph c.args.rest.now ≡ None = sym w.front_trigraph.ensures.value ∙ w.in_default.is in
          rw (w.if-trigraphs.true, told) refl)
      | else-trigraphs w ↦ rw w.if-trigraphs.false refl
    ]
