use Rattle.std.proofs.Common.{◌≡◌, sym, ◌∙◌, ap, inl, inr, get_or, drop, length, ◌<◌, ◌+◌, ◌∷◌, ℕ, List, [], true, false, ◌==◌, arith}
use Rattle.std.proofs.lemmas.Bool.{eqb-true}
use Rattle.pp_tokens.specs.declared.token.Kind.{Kind}
use Rattle.pp_tokens.specs.Lines.{Part, token, first_part}
use Rattle.pp_tokens.specs.parts.Literals.{opens_literal, literal_kind}
use Rattle.pp_tokens.proofs.Closing.{rest_is}
use Rattle.pp_tokens.proofs.Prefixes.{IsWord, word_placed, behind_placed, word_first, prefixed_first, prefix_alone, known_before}
use Rattle.pp_tokens.proofs.quoted.word_at.Goals as goal
use Rattle.pp_tokens.proofs.quoted.word_at.Goals.{After-split_at-2}

-- the identifier, and what is behind it
word : (c : After-split_at-2)
    → IsWord (get_or c.args.text.now c.args.at 0) (drop (c.args.at + 1) c.args.text.now) c.split_at-2.result.0.now c.split_at-2.result.1.now c.word_length-length.result
word c =
    word_placed c.args.text.now c.split_at.result.1.now c.split_at-2.result.0.now c.split_at-2.result.1.now c.args.at c.word_length-length.result
    c.requires.at c.requires.word c.split_at.ensures.back c.word_length-length.ensures.run c.split_at-2.ensures.front c.split_at-2.ensures.back

-- what stands first, from the first byte and the rest
found : (c : After-split_at-2) (part : Part × ℕ) → first_part false (get_or c.args.text.now c.args.at 0 ∷ drop (c.args.at + 1) c.args.text.now) ≡ part
    → part ≡ first_part false (drop c.args.at c.args.text.now)
found c part h = sym (ap (first_part false) (rest_is c.args.text.now c.args.at c.requires.at) ∙ h)

some_left : (l : List ℕ) → (length l == 0) ≡ false → 0 < length l
some_left [] h = absurd (cc)
some_left (b ∷ bs) h = omega arith

-- what is behind the identifier, by its first byte
behind : (c : After-split_at-2) → (length c.split_at-2.result.1.now == 0) ≡ false
    → c.split_at-2.result.1.now
    ≡ get_or c.args.text.now (c.args.at + c.word_length-length.result) 0 ∷ drop (c.args.at + c.word_length-length.result + 1) c.args.text.now
behind c some =
    behind_placed c.args.text.now c.split_at.result.1.now c.split_at-2.result.1.now c.args.at c.word_length-length.result
    c.split_at.ensures.back c.split_at-2.ensures.back (some_left c.split_at-2.result.1.now some)

pub returns-then-is_empty-clause-part : goal.returns-then-is_empty-clause-part
returns-then-is_empty-clause-part c =
    let s = (goal.at.returns-then-is_empty-clause-part c).After-split_at-2 in
    found s _ (word_first _ _ _ _ _ c.requires.word (word s) (inl (eqb-true _ 0 (sym c.is_empty.ensures ∙ c.if-is_empty.true))))

pub returns-then-not-opens_literal-clause-part : goal.returns-then-not-opens_literal-clause-part
returns-then-not-opens_literal-clause-part c =
    let s = (goal.at.returns-then-not-opens_literal-clause-part c).After-split_at-2 in
    found s _ (word_first _ _ _ _ _ c.requires.word (word s) (inr (sym c.opens_literal.ensures ∙ c.if-not-opens_literal.true)))

pub returns-in-Some-clause-part : goal.returns-in-Some-clause-part
returns-in-Some-clause-part c =
    let s = (goal.at.returns-in-Some-clause-part c).After-split_at-2 in
    let quote : ℕ = get_or c.args.text.now (c.args.at + c.word_length-length.result) 0 in
    let split = behind s (sym c.is_empty.ensures ∙ c.if-is_empty.false) in
    let same : get_or c.split_at-2.result.1.now 0 0 ≡ quote = ap (λ (l : List ℕ). get_or l 0 0) split in
    let opens : opens_literal c.split_at-2.result.0.now quote ≡ true =
    ap (opens_literal c.split_at-2.result.0.now) (sym same) ∙ sym c.opens_literal.ensures ∙ c.if-not-opens_literal.false in
    let size : ℕ = c.word_length-length.result + 1 + c.in-Some.closing in
    ap {B = Part × ℕ} (λ (k : Kind). (token k, size)) (c.literal_kind.ensures ∙ ap literal_kind same)
    ∙ found s _ (prefixed_first _ _ _ _ _ _ quote c.in-Some.closing (word s) split opens (sym c.partner_at.ensures.partner ∙ c.in-Some.is))

pub returns-in-None-clause-part : goal.returns-in-None-clause-part
returns-in-None-clause-part c =
    let s = (goal.at.returns-in-None-clause-part c).After-split_at-2 in
    let quote : ℕ = get_or c.args.text.now (c.args.at + c.word_length-length.result) 0 in
    let split = behind s (sym c.is_empty.ensures ∙ c.if-is_empty.false) in
    let same : get_or c.split_at-2.result.1.now 0 0 ≡ quote = ap (λ (l : List ℕ). get_or l 0 0) split in
    let opens : opens_literal c.split_at-2.result.0.now quote ≡ true =
    ap (opens_literal c.split_at-2.result.0.now) (sym same) ∙ sym c.opens_literal.ensures ∙ c.if-not-opens_literal.false in
    found s _ (prefix_alone _ _ _ _ _ _ quote (word s) split opens (sym c.partner_at.ensures.partner ∙ c.in-None.is))

pub returns-in-Some-clause-known : goal.returns-in-Some-clause-known
returns-in-Some-clause-known c =
    known_before c.partner_at.new.unpaired c.args.text.now c.split_at.result.1.now c.args.at c.word_length-length.result c.split_at.ensures.back
    c.word_length-length.ensures.run c.word_length-length.ensures.within c.partner_at.ensures.known

pub returns-in-None-clause-known : goal.returns-in-None-clause-known
returns-in-None-clause-known c =
    known_before c.partner_at.new.unpaired c.args.text.now c.split_at.result.1.now c.args.at c.word_length-length.result c.split_at.ensures.back
    c.word_length-length.ensures.run c.word_length-length.ensures.within c.partner_at.ensures.known
