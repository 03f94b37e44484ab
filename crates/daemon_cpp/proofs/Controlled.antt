-- A condition's line, read token by token as it is expanded.
use Rattle.std.specs.Prelude.{map, codes, bytes_eq, Ok, Err}
use Rattle.std.proofs.Common.{◌≡◌, ℕ, Bool, true, false, ◌||◌, List, [], ◌∷◌, ◌++◌, Option, None, Some, Result, refl, sym, ◌∙◌, ap, inl, inr, option_map}
use Rattle.std.specs.List.{list_any}
use Rattle.pp_tokens.specs.declared.Token.{Token}
use Rattle.pp_tokens.specs.Marks.{is_identifier, is_word}
use Rattle.cond_eval.specs.declared.CondError.{CondError}
use Rattle.cond_eval.specs.declared.lexeme.Lexeme.{Lexeme}
use Rattle.std.proofs.lemmas.Bool.{and_parts}
use Rattle.tree_model.specs.Paths.{Text}
use Rattle.macro_defs.specs.Table.{TableEntries, lookup}
use Rattle.macro_expand.specs.Asking.{Failure}
use Rattle.macro_expand.specs.declared.answers.Presumed.{Presumed}
use Rattle.macro_expand.specs.declared.outcome.Mode.{Mode}
use Rattle.macro_expand.specs.declared.stream.Standing.TheVariants.{Going}
use Rattle.macro_expand.specs.Expansion.{expanded_by}
use Rattle.macro_expand.specs.Replacement.{Marked, unmarked}
use Rattle.macro_expand.specs.Seen.{marked_of, kept_plain, place_of}
use Rattle.macro_expand.specs.Stream.{Given, Stream, given, given_before, to_come, IsOperand, DefinedReady, GivesNext}
use Rattle.macro_expand.proofs.PendingLemmas.{plain_unmarked}
use Rattle.macro_expand.proofs.StreamLemmas.{given_before-nothing}
use Rattle.daemon_cpp.specs.parts.Controlling.{StageSoFar, LineSoFar, outside, answer, with_lexeme, with_token, with_tokens, read_from}

line-before : (defined : Text → Bool) (line : LineSoFar) (t : Token) (r : Result Given Failure) →
    read_from defined line (given_before (t ∷ []) r) ≡ read_from defined (with_token defined t line) r
unfolding with_tokens
line-before defined line t (Ok g) = refl
line-before defined line t (Err f) = refl

with_tokens-both : (defined : Text → Bool) (line : LineSoFar) (ts us : List Token) → with_tokens defined (ts ++ us) line ≡ with_tokens defined us (with_tokens defined ts line)
unfolding with_tokens
with_tokens-both defined line [] us = refl
with_tokens-both defined line (t ∷ ts) us = with_tokens-both defined (with_token defined t line) ts us

line-front : (defined : Text → Bool) (line : LineSoFar) (ts : List Token) (r : Result Given Failure) →
    read_from defined line (given_before ts r) ≡ read_from defined (with_tokens defined ts line) r
line-front defined line ts (Ok g) = ap (λ (l : LineSoFar). let q : Result (LineSoFar × ℕ) Failure = Ok (l, g.units) in q) (with_tokens-both defined line ts g.tokens)
line-front defined line ts (Err f) = refl

-- a `defined` and its operand are answered as one
module _ (defined : Text → Bool) (probe : Bool) (lexemes : Result (List Lexeme) CondError) where
  at_rest : LineSoFar
  at_rest = record { stage = outside; probe = probe; lexemes = lexemes }

  answered : (name word : Token) (operand : List Token) → is_word (codes "defined") word ≡ true → IsOperand name operand →
      with_tokens defined (word ∷ operand) at_rest ≡ with_lexeme (Ok (answer (defined name.text))) at_rest
  unfolding with_tokens with_token at_rest
  answered name word operand is_defined (id, inl is) =
      let both = and_parts (is_identifier word) (bytes_eq word.text (codes "defined")) is_defined in
      rw (is, both.0, both.1, id) refl
  answered name word operand is_defined (id, inr (a, (b, (marks, is)))) =
      let both = and_parts (is_identifier word) (bytes_eq word.text (codes "defined")) is_defined in
      rw (is, both.0, both.1, marks.0, marks.1.0, id, marks.1.1) refl

pub defined-turn : (defined : Text → Bool) (line after : LineSoFar) (old new : Stream) (units : ℕ) (name : Token) → line.stage ≡ outside → DefinedReady name old new →
    after ≡ with_lexeme (Ok (answer (defined name.text))) line → read_from defined line (to_come old units) ≡ read_from defined after (to_come new units)
unfolding at_rest
defined-turn defined line after old new units name rests comes is =
    ap (read_from defined line) (comes.ready.given units)
    ∙ line-front defined line (comes.word ∷ comes.operand) (to_come new units)
    ∙ ap (λ (l : LineSoFar). read_from defined l (to_come new units)) (answers ∙ sym is)
  where
    resting : line ≡ record { stage = outside; probe = line.probe; lexemes = line.lexemes }
    resting = ap (λ (s : StageSoFar). let l : LineSoFar = record { stage = s; probe = line.probe; lexemes = line.lexemes } in l) rests

    answers : with_tokens defined (comes.word ∷ comes.operand) line ≡ with_lexeme (Ok (answer (defined name.text))) line
    answers =
        ap (with_tokens defined (comes.word ∷ comes.operand)) resting
        ∙ answered defined line.probe line.lexemes name comes.word comes.operand comes.is_defined comes.is_operand
        ∙ ap (with_lexeme (Ok (answer (defined name.text)))) (sym resting)

-- one token more that was read
pub reads-turn : (defined : Text → Bool) (line : LineSoFar) (old new : Stream) (units left : ℕ) (t : Token) → GivesNext (Some t) old units new left →
    read_from defined line (to_come old units) ≡ read_from defined (with_token defined t line) (to_come new left)
reads-turn defined line old new units left t gives = ap (read_from defined line) gives ∙ line-before defined line t (to_come new left)

-- no token more
pub reads-end : (defined : Text → Bool) (line : LineSoFar) (old new : Stream) (units left : ℕ) → GivesNext None old units new left →
    read_from defined line (to_come old units) ≡ Ok (line, left)
unfolding with_tokens
reads-end defined line old new units left gives = ap (read_from defined line) gives

-- before the first token, all are still to come
pub come-init : (table : TableEntries) (here : Presumed) (mode : Mode) (units : ℕ) (ts : List Token) →
    to_come (record { table = table; here = here; mode = mode; ready = []; pending = map kept_plain ts; standing = Going }) units
    ≡ given (expanded_by (lookup table) (place_of here) mode 0 units (map unmarked ts))
come-init table here mode units ts =
    given_before-nothing (given (expanded_by (lookup table) (place_of here) mode 0 units (map marked_of (map kept_plain ts))))
    ∙ ap (λ (l : List Marked). given (expanded_by (lookup table) (place_of here) mode 0 units l)) (plain_unmarked ts)
