use Rattle.std.proofs.Common.{◌≡◌, ◌∷◌, ◌++◌, [], drop, List, ℕ, ap, ◌∙◌, arith, inl, inr, eq-eqb}
use Rattle.std.proofs.lemmas.Bool.{ne_eqb}
use Rattle.pp_tokens.specs.parts.Pieces.{newline_length}
use Rattle.pp_tokens.proofs.FrontPieces.{newline_piece, some_rest, read_character, read_splice}
use Rattle.pp_tokens.proofs.source.front_piece.Goals as goal
use Rattle.pp_tokens.proofs.source.front_piece.Goals.{else-character-eq92-via-then-character-eq92+else-next-gt0, else-character-eq92-via-else-character-eq92}

pub returns-then-newline-gt0-clause-front : goal.returns-then-newline-gt0-clause-front
returns-then-newline-gt0-clause-front c =
    λ line. newline_piece c.args.trigraphs line c.newline_length-newline.result (c.args.rest.now ++ (10 ∷ [])) c.newline_length-newline.ensures.value c.if-newline-gt0.true

pub front_character-character-requires : goal.front_character-character-requires
front_character-character-requires c = some_rest c.args.rest.now (omega (arith, c.newline_length-newline.ensures.value))

pub returns-then-next-gt0-clause-front : goal.returns-then-next-gt0-clause-front
returns-then-next-gt0-clause-front c =
    let none : newline_length (c.args.rest.now ++ (10 ∷ [])) ≡ 0 = omega (arith, c.newline_length-newline.ensures.value) in
    λ line. read_splice c.args.trigraphs line c.args.rest.now c.front_character-character.result c.front_character-character.ensures.value none c.front_character-character.ensures.within
    (eq-eqb c.front_character-character.result.0 92 c.if-character-eq92.true) c.newline_length-next.result
    (c.newline_length-next.ensures.value ∙ ap (λ (l : List ℕ). newline_length (l ++ (10 ∷ []))) c.split_at.ensures.back) c.if-next-gt0.true

pub returns-clause-front : goal.returns-clause-front
returns-clause-front c =
    let none : newline_length (c.args.rest.now ++ (10 ∷ [])) ≡ 0 = omega (arith, c.newline_length-newline.ensures.value) in
    λ line. read_character c.args.trigraphs line c.args.rest.now c.front_character-character.result c.front_character-character.ensures.value none c.front_character-character.ensures.within
    (elim c.else-character-eq92.branch [
      | else-character-eq92-via-then-character-eq92+else-next-gt0 w ↦
          (let size : c.newline_length-next.result ≡ newline_length (drop c.front_character-character.result.1 c.args.rest.now ++ (10 ∷ [])) =
          c.newline_length-next.ensures.value ∙ ap (λ (l : List ℕ). newline_length (l ++ (10 ∷ []))) c.split_at.ensures.back in
          inr (omega (arith, size, w.if-next-gt0.false)))
      | else-character-eq92-via-else-character-eq92 w ↦ inl (ne_eqb c.front_character-character.result.0 92 w.if-character-eq92.false)
    ])
