use Rattle.std.proofs.Common.{◌≡◌, ◌-◌, ℕ, List, drop, sym, ap, ◌∙◌}
use Rattle.pp_tokens.specs.declared.Token.{Token}
use Rattle.pp_tokens.specs.Tokens.{rest_of}
use Rattle.macro_defs.specs.Defining.{begins_with_pasting, ends_with_pasting}
use Rattle.sheet_build.proofs.Counting.{ends-begins, ended-tokens, whole-tokens}
use Rattle.sheet_build.proofs.definitions.object_tokens.Goals as goal

pub returns-then-begins_with_pasting-2 : goal.returns-then-begins_with_pasting-2
returns-then-begins_with_pasting-2 c =
    let body : List Token = rest_of c.args.body in
    let last : c.begins_with_pasting-2.result ≡ ends_with_pasting body =
    c.begins_with_pasting-2.ensures
    ∙ ap begins_with_pasting (c.split_at.ensures.behind ∙ ap (λ (n : ℕ). drop n body) (c.saturating_sub.ensures ∙ ap (λ (n : ℕ). n - 1) c.len-count.ensures))
    ∙ ends-begins body in
    ended-tokens body (sym c.begins_with_pasting.ensures ∙ c.if-begins_with_pasting.false) (sym last ∙ c.if-begins_with_pasting-2.true)

pub returns : goal.returns
returns c =
    let body : List Token = rest_of c.args.body in
    let last : c.begins_with_pasting-2.result ≡ ends_with_pasting body =
    c.begins_with_pasting-2.ensures
    ∙ ap begins_with_pasting (c.split_at.ensures.behind ∙ ap (λ (n : ℕ). drop n body) (c.saturating_sub.ensures ∙ ap (λ (n : ℕ). n - 1) c.len-count.ensures))
    ∙ ends-begins body in
    c.len-count.ensures ∙ whole-tokens body (sym c.begins_with_pasting.ensures ∙ c.if-begins_with_pasting.false) (sym last ∙ c.if-begins_with_pasting-2.false)
