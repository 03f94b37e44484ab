use Rattle.std.proofs.Common.{sym, ◌∙◌, ap, get_or, drop, ◌+◌, ℕ, false}
use Rattle.pp_tokens.specs.Lines.{Part, token, first_part}
use Rattle.pp_tokens.specs.declared.token.Kind.{Kind}
use Rattle.pp_tokens.proofs.Closing.{rest_is}
use Rattle.pp_tokens.proofs.Opened.{quoted_first, lone_first}
use Rattle.pp_tokens.proofs.quoted.quoted_at.Goals as goal

pub returns-in-Some-clause-part : goal.returns-in-Some-clause-part
returns-in-Some-clause-part c =
    let text = c.args.text.now in
    let found = sym c.partner_at.ensures.partner ∙ c.in-Some.is in
    let size : ℕ = c.in-Some.length + 1 in
    ap {B = Part × ℕ} (λ (k : Kind). (token k, size)) c.literal_kind.ensures
    ∙ sym (ap (first_part false) (rest_is text c.args.at c.requires.at)
    ∙ quoted_first (get_or text c.args.at 0) (drop (c.args.at + 1) text) c.in-Some.length c.requires.quote found)

pub returns-in-None-clause-part : goal.returns-in-None-clause-part
returns-in-None-clause-part c =
    let text = c.args.text.now in
    let none = sym c.partner_at.ensures.partner ∙ c.in-None.is in
    sym (ap (first_part false) (rest_is text c.args.at c.requires.at)
    ∙ lone_first (get_or text c.args.at 0) (drop (c.args.at + 1) text) c.requires.quote none)
