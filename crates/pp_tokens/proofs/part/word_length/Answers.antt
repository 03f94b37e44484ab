use Rattle.std.proofs.Common.{◌≡◌, ◌<◌, ◌≤◌, ◌+◌, ℕ, List, length, take_while, drop, subst, sym, ap, ◌∙◌}
use Rattle.pp_tokens.specs.Grammar.{is_identifier_byte}
use Rattle.pp_tokens.proofs.RunLanes.{ends_near, goes_far}
use Rattle.pp_tokens.proofs.part.word_length.Goals as goal

pub returns-then-near-lt-LANES-clause-run : goal.returns-then-near-lt-LANES-clause-run
returns-then-near-lt-LANES-clause-run c =
    c.near_length-near.ensures
    ∙ ends_near is_identifier_byte 16 c.args.bytes.now (subst (λ (n : ℕ). n < 16) c.near_length-near.ensures c.if-near-lt-LANES.true)

pub returns-clause-run : goal.returns-clause-run
returns-clause-run c =
    let behind : c.short_length-2.result ≡ length (take_while is_identifier_byte (drop 16 c.args.bytes.now)) =
    c.short_length-2.ensures.run ∙ ap (λ (bs : List ℕ). length (take_while is_identifier_byte bs)) c.split_at.ensures.back in
    ap (λ (n : ℕ). 16 + n) behind
    ∙ sym (goes_far is_identifier_byte 16 c.args.bytes.now (subst (λ (n : ℕ). 16 ≤ n) c.near_length-near.ensures c.if-near-lt-LANES.false))
