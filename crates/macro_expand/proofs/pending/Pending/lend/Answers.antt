use Rattle.std.proofs.Common.{◌++◌, map, reverse, sym, refl, arith}
use Rattle.pp_tokens.specs.Tokens.{rest_of}
use Rattle.macro_defs.specs.Table.{lookup}
use Rattle.macro_defs.specs.Runs.{run_tokens}
use Rattle.macro_expand.specs.Seen.{kept_plain}
use Rattle.macro_expand.proofs.PendingLemmas.{takes_stretch}
use Rattle.macro_expand.proofs.pending.Pending.lend.Goals as goal

pub returns-then-not-has_none-clause-taken : goal.returns-then-not-has_none-clause-taken
returns-then-not-has_none-clause-taken c =
    let later = map kept_plain (run_tokens c.self.inside.run) in (
      (reverse c.take_made.new.made.items ++ later, (rw (sym c.self.view_is) (c.in_ok-token.ensures.taken later), refl)),
      omega arith,
    )

pub returns-clause-taken : goal.returns-clause-taken
returns-clause-taken c =
    let taken = c.in_ok-tokens.ensures.taken in (
      rw (sym c.self.view_is, c.has_none.ensures c.if-not-has_none.false, taken.0)
          (takes_stretch (lookup c.args.table.now) c.args.mode (rest_of c.in_ok-tokens.tokens) (run_tokens c.take_stretch.new.run) taken.1),
      c.in_ok-tokens.ensures.some,
    )
