use Rattle.std.proofs.Common.{◌<◌, ◌≤◌, ◌-◌, take, drop, ℕ, ap, ◌∙◌, arith}
use Rattle.pp_tokens.specs.Lines.{all_tokens}
use Rattle.pp_tokens.proofs.ExcerptLemmas.{behind_front, none_behind}
use Rattle.pp_tokens.proofs.tokens.Tokens.split_at.Goals as goal
use Rattle.pp_tokens.proofs.tokens.Tokens.split_at.Goals.{then-count-saturating_sub, else-count-saturating_sub}

pub returns-clause-behind : goal.returns-clause-behind
returns-clause-behind c =
    let ts = all_tokens c.args.self.lexed.now in
    let end = c.args.self.end in
    let behind = λ (n : ℕ). take (end - n) (drop n ts) in
    elim c.if-count-saturating_sub.branch [
      | then-count-saturating_sub w ↦
          let below : c.args.count < end - c.args.self.at = omega (arith, w.if-count-saturating_sub, c.saturating_sub.ensures) in
          ap behind w.middle-is ∙ behind_front ts c.args.self.at end c.args.count below
      | else-count-saturating_sub w ↦
          let past : end - c.args.self.at ≤ c.args.count = omega (arith, w.if-count-saturating_sub, c.saturating_sub.ensures) in
          ap behind w.middle-is ∙ none_behind ts c.args.self.at end c.args.count past
    ]
