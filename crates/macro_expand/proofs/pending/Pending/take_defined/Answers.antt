use Rattle.std.proofs.Common.{◌++◌, ◌∷◌, List, map, reverse, ap, sym, ◌∙◌}
use Rattle.std.proofs.lemmas.List.{map-append}
use Rattle.pp_tokens.specs.declared.token.Token.{Token}
use Rattle.macro_expand.specs.declared.marked.Marked.{Marked as Kept}
use Rattle.macro_defs.specs.Runs.{run_tokens}
use Rattle.macro_expand.specs.Seen.{kept_plain}
use Rattle.macro_expand.proofs.pending.Pending.take_defined.Goals as goal

pub returns-clause-taken : goal.returns-clause-taken
returns-clause-taken c =
    let found = c.in_ok-name.ensures in
    let later = run_tokens c.defined_name.new.run in (
      found.0,
      (
        found.1.0,
        (
          found.1.1.0,
          sym c.self.view_is
              ∙ ap (λ (l : List Kept). reverse l ++ map kept_plain (run_tokens c.self.inside.run)) (c.has_none.ensures (cc))
              ∙ ap (λ (l : List Token). map kept_plain l) found.1.1.1
              ∙ map-append kept_plain (found.0 ∷ found.1.0) later
              ∙ ap (λ (l : List Kept). map kept_plain (found.0 ∷ found.1.0) ++ (reverse l ++ map kept_plain later)) (sym (c.has_none.ensures (cc))),
        ),
      ),
    )
