-- Expansion that gives its tokens one after another (6.10.3): what it still gives, and how it stands after a token, at the end and after an
-- error.
use Rattle.std.specs.Prelude.{◌≡◌, ℕ, ◌+◌, ◌<◌, ◌⊎◌, true, false, List, [], ◌∷◌, ◌++◌, map, length, codes, Option, Some, None, Result, Ok, Err}
use Rattle.pp_tokens.specs.declared.token.Token.{Token}
use Rattle.pp_tokens.specs.Marks.{is_identifier, is_open, is_close, is_word}
use Rattle.pp_tokens.specs.Tokens.{token_seen, rest_of}
use Rattle.macro_defs.specs.Table.{TableEntries, lookup}
use Rattle.macro_expand.specs.declared.answers.Presumed.{Presumed}
use Rattle.macro_expand.specs.declared.lent.Lent.{Lent}
use Rattle.macro_expand.specs.declared.lent.Lent.TheVariants.{Token as Single, Stretch}
use Rattle.macro_expand.specs.declared.marked.Marked.{Marked as Kept}
use Rattle.macro_expand.specs.declared.outcome.Mode.{Mode}
use Rattle.macro_expand.specs.declared.outcome.ExpandError.{ExpandError}
use Rattle.macro_expand.specs.declared.outcome.ExpandError.TheVariants.{Count, Unclosed, Paste, Deep, Work, Memory}
use Rattle.macro_expand.specs.declared.stream.Standing.{Standing}
use Rattle.macro_expand.specs.declared.stream.Standing.TheVariants.{Going, Ended, Refused, NoMemory}
use Rattle.macro_expand.specs.Asking.{Failure}
use Rattle.macro_expand.specs.Expansion.{Expanded, expanded_by}
use Rattle.macro_expand.specs.Seen.{marked_of, kept_token, place_of}

-- tokens, whatever their hide sets, and the units of work left
pub record Given : Type 0 where
  pub tokens : List Token
  pub units : ℕ

abbrev pub given : Result Expanded Failure → Result Given Failure
given (Ok e) = Ok (record { tokens = map (λ m. m.token) e.tokens; units = e.units })
given (Err f) = Err f

-- tokens before those that are given
abbrev pub given_before : List Token → Result Given Failure → Result Given Failure
given_before ts (Ok g) = Ok (record g { tokens = ts ++ g.tokens })
given_before ts (Err f) = Err f

-- An expansion under way: the table and the place that answer, what is expanded, the tokens that were put out and aren't given yet, those
-- that are still to be expanded, and how it stands.
pub record Stream : Type 0 where
  pub table : TableEntries
  pub here : Presumed
  pub mode : Mode
  pub ready : List Kept
  pub pending : List Kept
  pub standing : Standing

-- what an expansion that goes on still gives, with so many units of work
abbrev pub to_come : Stream → ℕ → Result Given Failure
to_come s units = given_before (map kept_token s.ready) (given (expanded_by (lookup s.table) (place_of s.here) s.mode 0 units (map marked_of s.pending)))

-- how many tokens are there, expanded or not
abbrev pub at_hand : Stream → ℕ
at_hand s = length s.ready + length s.pending

-- the tokens that are lent at once
abbrev pub lent_tokens : Lent → List Token
lent_tokens (Single t) = token_seen t ∷ []
lent_tokens (Stretch ts) = rest_of ts

-- tokens, one at least, are the first that are ready, and the others stay
pub record FrontReady (ts : List Token) (old new : Stream) : Type 0 where
  pub given : (units : ℕ) → to_come old units ≡ given_before ts (to_come new units)
  pub fewer : at_hand new + length ts ≡ at_hand old
  pub some : 0 < length ts

-- the operand of a `defined` with this name: the name, or it in parentheses (6.10.1)
abbrev pub IsOperand : Token → List Token → Type 0
IsOperand name ts =
    (is_identifier name ≡ true)
    × ((ts ≡ name ∷ [])
    ⊎ ((before : Token) × ((behind : Token) × (((is_identifier before ≡ false) × ((is_open before ≡ true) × (is_close behind ≡ true)))
    × (ts ≡ before ∷ name ∷ behind ∷ [])))))

-- a `defined` and an operand with this name are the first that are ready, and the others stay
pub record DefinedReady (name : Token) (old new : Stream) : Type 0 where
  pub word : Token
  pub operand : List Token
  pub is_defined : is_word (codes "defined") word ≡ true
  pub is_operand : IsOperand name operand
  pub ready : FrontReady (word ∷ operand) old new

-- a token is the first that is still to come, and none comes where nothing is left but the units
abbrev pub GivesNext : Option Token → Stream → ℕ → Stream → ℕ → Type 0
GivesNext (Some t) old units new left = to_come old units ≡ given_before (t ∷ []) (to_come new left)
GivesNext None old units new left = to_come old units ≡ Ok (record { tokens = []; units = left })

-- after an error the expansion stands refused by it, or, as after want of memory, without memory
abbrev pub StandsAfter : ExpandError → Standing → Type 0
StandsAfter (Count name line) new = (new ≡ Refused (Count name line)) ⊎ (new ≡ NoMemory)
StandsAfter (Unclosed name line) new = (new ≡ Refused (Unclosed name line)) ⊎ (new ≡ NoMemory)
StandsAfter (Paste left right line) new = (new ≡ Refused (Paste left right line)) ⊎ (new ≡ NoMemory)
StandsAfter (Deep line) new = (new ≡ Refused (Deep line)) ⊎ (new ≡ NoMemory)
StandsAfter Work new = (new ≡ Refused Work) ⊎ (new ≡ NoMemory)
StandsAfter Memory new = new ≡ NoMemory

-- how it stands after an answer; the end and want of memory stay, and another error stays or turns into want of memory
abbrev pub StandsAfterAnswer : Standing → Result (Option Token) ExpandError → Standing → Type 0
StandsAfterAnswer Going (Ok (Some t)) new = new ≡ Going
StandsAfterAnswer Going (Ok None) new = new ≡ Ended
StandsAfterAnswer Going (Err e) new = StandsAfter e new
StandsAfterAnswer Ended r new = (r ≡ Ok None) × (new ≡ Ended)
StandsAfterAnswer (Refused e) r new = ((r ≡ Err e) × (new ≡ Refused e)) ⊎ ((r ≡ Err Memory) × (new ≡ NoMemory))
StandsAfterAnswer NoMemory r new = (r ≡ Err Memory) × (new ≡ NoMemory)
