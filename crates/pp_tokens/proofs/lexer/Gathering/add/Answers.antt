use Rattle.std.proofs.Common.{◌≡◌, take, drop, inl, inr, refl, subst, arith}
use Rattle.std.proofs.lemmas.Result.{IfOk-weaker}
use Rattle.pp_tokens.specs.Lines.{token}
use Rattle.pp_tokens.specs.parts.Text.{part_told}
use Rattle.pp_tokens.specs.parts.Packed.{PlaceTold}
use Rattle.pp_tokens.specs.parts.Gathered.{newlines, IsPart, EndsLine, AddsToken, Gathers}
use Rattle.pp_tokens.proofs.OneLine.{short_newlines}
use Rattle.pp_tokens.proofs.LexSteps.{line_gathered, token_placed, white_gathered, comment_gathered, open_gathered}
use Rattle.pp_tokens.proofs.lexer.Gathering.add.Goals as goal

pub returns-in-Newline : goal.returns-in-Newline
returns-in-Newline c =
    let text = c.args.text.now in
    let spelling = take c.args.size (drop c.args.at text) in
    let old = c.args.self.now in
    let new = c.end_line.new.self in
    IfOk-weaker c.end_line.result (λ u. EndsLine old new) (λ u. Gathers text old new (part_told c.args.what) spelling c.args.line)
    (λ u e. rw c.in-Newline.is (line_gathered text spelling c.args.line old new c.requires.gathered e)) c.end_line.ensures

pub new-place-requires-clause-small : goal.new-place-requires-clause-small
new-place-requires-clause-small c =
    let word = take c.args.size (drop c.args.at c.args.text.now) in
    let none : newlines word ≡ 0 = short_newlines (token c.in-Token.kind) word refl (subst (λ w. IsPart (part_told w) word) c.in-Token.is c.requires.part) in
    omega (arith, none, c.requires.short)

pub returns-in-Token : goal.returns-in-Token
returns-in-Token c =
    let text = c.args.text.now in
    let old = c.args.self.now in
    let new = c.add_token.new.self in
    let place = c.new-place.result in
    let told : PlaceTold = record { start = c.args.at; length = c.args.size; line = c.args.line; kind = c.in-Token.kind; space = old.space } in
    IfOk-weaker c.add_token.result (λ u. AddsToken old new place c.stretch.result.now)
    (λ u. Gathers text old new (part_told c.args.what) (take c.args.size (drop c.args.at text)) c.args.line)
    (λ u e. rw c.in-Token.is
    (token_placed text place told old new c.new-place.ensures c.requires.gathered c.requires.within refl (subst (AddsToken old new place) c.stretch.ensures e))) c.add_token.ensures

pub returns-in-White : goal.returns-in-White
returns-in-White c =
    let text = c.args.text.now in
    let spelling = take c.args.size (drop c.args.at text) in
    let old = c.args.self.now in
    elim c.in-White.is [
      | inl is ↦ rw is (white_gathered text spelling c.args.line old c.add_white.new.self c.requires.gathered c.add_white.ensures)
      | inr is ↦ rw is (comment_gathered text spelling c.args.line old c.add_white.new.self c.requires.gathered c.add_white.ensures)
    ]

pub returns-in-OpenComment : goal.returns-in-OpenComment
returns-in-OpenComment c =
    let text = c.args.text.now in
    let spelling = take c.args.size (drop c.args.at text) in
    rw c.in-OpenComment.is
    (open_gathered text spelling c.args.line c.args.self.now c.add_gap.new.self c.requires.gathered c.add_gap.ensures)
