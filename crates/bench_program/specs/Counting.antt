-- The counts of a run of text.
use Rattle.std.specs.Prelude.{◌≡◌, ℕ, ◌+◌, List, length, Result, Ok, Err}
use Rattle.pp_tokens.specs.declared.token.Token.{Token}
use Rattle.macro_expand.specs.Asking.{Failure}
use Rattle.macro_expand.specs.Stream.{Given}
use Rattle.bench_program.specs.declared.counts.Counts.{Counts}

-- the counts are those of these tokens, and of what they became with so many units of work
abbrev pub Counted : ℕ → List Token → Result Given Failure → Counts → Type 0
Counted units run (Ok g) c = (c.tokens ≡ length run) × (c.expanded ≡ length g.tokens) × (c.work + g.units ≡ units)
Counted units run (Err f) c = ⊥
