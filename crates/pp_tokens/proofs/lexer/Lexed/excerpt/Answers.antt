use Rattle.std.proofs.Common.{List, ℕ, length, get_or, map, take, drop, ◌-◌, ◌≡◌, ◌∷◌, [], sym, ap, ◌∙◌, subst, arith}
use Rattle.pp_tokens.specs.declared.token.Token.{Token}
use Rattle.pp_tokens.specs.Lines.{LexedFile, all_tokens}
use Rattle.pp_tokens.specs.parts.Seen.{token_of_place, EachWithin}
use Rattle.pp_tokens.proofs.ExcerptLemmas.{front_within, behind_within, stretch_of}
use Rattle.pp_tokens.proofs.FlatPlaces.{all_are}
use Rattle.pp_tokens.proofs.lexer.Lexed.excerpt.Goals as goal

pub over-requires : goal.over-requires
over-requires c =
    let i = c.self.inside in
    let within : EachWithin i.text.items c.deref-2.result.now = subst (EachWithin i.text.items) (sym c.deref-2.ensures.value) c.self.invariant.1 in
    let all : EachWithin i.text.items c.front.result.now = subst (EachWithin i.text.items) (sym c.front.ensures) (front_within i.text.items c.deref-2.result.now c.line_start-all.result within) in
    let later : EachWithin i.text.items c.behind-places.result.now = subst (EachWithin i.text.items) (sym c.behind-places.ensures) (behind_within i.text.items c.front.result.now c.args.from all) in
    rw c.deref-3.ensures.value
    (subst (EachWithin i.text.items) (sym c.front-2.ensures) (front_within i.text.items c.behind-places.result.now c.saturating_sub.result later))

pub returns : goal.returns
returns c =
    let i = c.self.inside in
    let text = i.text.items in
    let all = c.line_start-all.result in
    let size = c.args.end - c.args.from in
    let last : all ≡ get_or (0 ∷ i.ends.items) (length i.ends.items) 0 =
    c.line_start-all.ensures ∙ ap (λ (l : List ℕ). get_or (0 ∷ l) c.len.result 0) c.deref.ensures.value ∙ ap (λ n. get_or (0 ∷ i.ends.items) n 0) (c.len.ensures ∙ i.ends.ok.0) in
    let whole : all - 0 ≡ all = omega arith in
    c.over.ensures
    ∙ ap (λ (ts : List Token). record { taken = []; rest = ts })
    (ap (λ (l : List ℕ). map (token_of_place l) c.front-2.result.now) c.deref-3.ensures.value
    ∙ ap (map (token_of_place text))
    (c.front-2.ensures
    ∙ ap (λ n. take n c.behind-places.result.now) c.saturating_sub.ensures
    ∙ ap (take size) (c.behind-places.ensures ∙ ap (drop c.args.from) (c.front.ensures ∙ ap (take all) c.deref-2.ensures.value)))
    ∙ stretch_of text (take all i.places.items) size c.args.from
    ∙ ap (λ n. take size (drop c.args.from (map (token_of_place text) (take n i.places.items)))) (sym whole)
    ∙ ap (λ (ts : List Token). take size (drop c.args.from ts)) (sym (all_are text i.places.items i.ends.items all c.self.invariant.0 last).0)
    ∙ ap (λ (f : LexedFile). take size (drop c.args.from (all_tokens f))) c.self.view_is)
