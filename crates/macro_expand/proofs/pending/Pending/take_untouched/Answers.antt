use Rattle.std.proofs.Common.{◌++◌, ◌∷◌, List, map, reverse, refl, ap, sym, ◌∙◌}
use Rattle.std.proofs.lemmas.Option.{IfSome_then}
use Rattle.pp_tokens.specs.declared.token.Token.{Token}
use Rattle.pp_tokens.specs.Tokens.{token_seen}
use Rattle.macro_expand.specs.declared.marked.Marked.{Marked as Kept}
use Rattle.macro_defs.specs.Runs.{run_tokens}
use Rattle.macro_expand.specs.Seen.{kept_plain}
use Rattle.macro_expand.proofs.pending.Pending.take_untouched.Goals as goal

pub returns-then-not-has_none-clause-taken : goal.returns-then-not-has_none-clause-taken
returns-then-not-has_none-clause-taken c =
    IfSome_then c.take_made.result c.take_made.ensures.taken (λ t taken. rw (sym c.self.view_is) (taken (map kept_plain (run_tokens c.self.inside.run))))

pub returns-clause-taken : goal.returns-clause-taken
returns-clause-taken c = (
  kept_plain (token_seen c.in_ok-token.token),
  (
    refl,
    (
      sym c.self.view_is
          ∙ ap (λ (l : List Kept). reverse l ++ map kept_plain (run_tokens c.self.inside.run)) (c.has_none.ensures (cc))
          ∙ ap (λ (l : List Token). map kept_plain l) c.in_ok-token.ensures
          ∙ ap (λ (l : List Kept). kept_plain (token_seen c.in_ok-token.token) ∷ (reverse l ++ map kept_plain (run_tokens c.next.new.self))) (sym (c.has_none.ensures (cc))),
      c.is_untouched.ensures (cc) (kept_plain (token_seen c.in_ok-token.token)) _ refl,
    ),
  ),
)
