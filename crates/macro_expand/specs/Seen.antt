-- What code's values mean: tables, places, marked tokens and errors.
use Rattle.std.specs.Prelude.{◌≡◌, ℕ, Bool, true, Vec, List, [], ◌∷◌, map, Option, Some, None, Result, Ok, Err}
use Rattle.macro_expand.specs.declared.marked.Marked.{Marked as Kept}
use Rattle.macro_expand.specs.declared.answers.Presumed.{Presumed}
use Rattle.macro_expand.specs.declared.outcome.RunError.{RunError}
use Rattle.macro_expand.specs.declared.outcome.RunError.TheVariants.{Count as CountError, Unclosed as UnclosedError, Paste as PasteError, Deep as DeepError, Work as WorkError, Presumed as PresumedError, Memory}
use Rattle.macro_expand.specs.declared.outcome.ExpandError.{ExpandError}
use Rattle.macro_expand.specs.declared.outcome.ExpandError.TheVariants.{Count as PublicCount, Unclosed as PublicUnclosed, Paste as PublicPaste, Deep as PublicDeep, Work as PublicWork, Memory as PublicMemory}
use Rattle.macro_expand.specs.declared.marked.Piece.{Piece as KeptPiece}
use Rattle.macro_expand.specs.declared.marked.Piece.TheVariants.{Real as KeptReal, Placemarker as KeptPlacemarker, Joining as KeptJoining}
use Rattle.macro_expand.specs.declared.replace.Part.{Part as KeptPart}
use Rattle.macro_expand.specs.declared.replace.Part.TheVariants.{Plain as KeptPlain, Argument as KeptArgument, Spelling as KeptSpelling, Join as KeptJoin}
use Rattle.macro_defs.specs.MacroDefinition.{without_line}
use Rattle.macro_expand.specs.Sets.{names_in}
use Rattle.macro_expand.specs.Asking.{Failure, Count, Unclosed, Paste, Deep, Work}
use Rattle.std.specs.declared.alloc.Global.{Global}
use Rattle.macro_expand.specs.declared.outcome.Mode.{Mode}
use Rattle.pp_tokens.specs.declared.Token.{Token}
use Rattle.macro_expand.specs.Replacement.{PasteOperand, Piece, Real, Placemarker, Joining, Marked, Call, call_in, arguments_of, BodyPart, Plain, Argument, Spelling, Join}
use Rattle.macro_expand.specs.Expansion.{Expanded, Place, call_replacement}
use Rattle.macro_expand.specs.Answered.{Answerer, Answered, ByFailure, ByPresumed, before, expanded_for}

abbrev pub place_of : Presumed → Place
place_of p = record { name = p.name; shift = p.shift }

abbrev pub marked_of : Kept → Marked
marked_of m = record { token = m.token; hidden = names_in m.hidden }

-- a token with no hidden name, as code keeps it
abbrev pub kept_plain : Token → Kept
kept_plain t = record { token = t; hidden = []; stamp = 0 }

abbrev pub kept_token : Kept → Token
kept_token m = m.token

-- an error of code reports this result; want of memory reports nothing
abbrev pub Reports : {A : Type 0} → RunError → Result A Failure → Type 0
Reports (CountError name line) r = r ≡ Err (Count name line)
Reports (UnclosedError name line) r = r ≡ Err (Unclosed name line)
Reports (PasteError left right line) r = r ≡ Err (Paste left right line)
Reports (DeepError line) r = r ≡ Err (Deep line)
Reports WorkError r = r ≡ Err Work
Reports PresumedError r = ⊥
Reports Memory r = Unit {0}

-- lists of marked tokens
abbrev pub lists_of : List (Vec Kept Global) → List (List Marked)
lists_of = map (λ v. map marked_of v.items)

-- a call read after its `(`: its arguments, its `)` and the tokens after it
pub record ReadsCall (count : ℕ) (variadic : Bool) (ts : List Marked) (written : List (List Marked)) (close : Marked) (after : List Marked) : Type 0 where
  pub within : List Marked
  pub read : call_in 0 ts ≡ Some (record { within = within; close = close; after = after })
  pub counted : arguments_of count variadic within ≡ Some written

-- a call that can't be read: it doesn't end, or its arguments are too few or too many
abbrev pub RefusesCall : RunError → Kept → ℕ → Bool → List Marked → Type 0
RefusesCall (CountError name line) t count variadic ts =
    (name ≡ t.token.text) × (line ≡ t.token.line) × ((call : Call) × (call_in 0 ts ≡ Some call) × (arguments_of count variadic call.within ≡ None))
RefusesCall (UnclosedError name line) t count variadic ts =
    (name ≡ t.token.text) × (line ≡ t.token.line) × (call_in 0 ts ≡ None)
RefusesCall (PasteError left right line) t count variadic ts = ⊥
RefusesCall (DeepError line) t count variadic ts = ⊥
RefusesCall WorkError t count variadic ts = ⊥
RefusesCall PresumedError t count variadic ts = ⊥
RefusesCall Memory t count variadic ts = Unit {0}

-- what a call that was read is replaced by
abbrev pub call_replaced_by : Kept → List BodyPart → Option ℕ → List (List Marked) → Marked → List (List Marked) → Result (List Marked) Failure
call_replaced_by t parts variable written close expanded =
    call_replacement (marked_of t) parts variable (record { within = []; close = close; after = [] }) written expanded

-- what is kept of arguments as written gives the same replacements as all of them
abbrev pub KeepsWritten : List BodyPart → List (List Marked) → List (List Marked) → Type 0
KeepsWritten parts written kept =
    (t : Kept) (variable : Option ℕ) (close : Marked) (expanded : List (List Marked)) →
    call_replaced_by t parts variable kept close expanded ≡ call_replaced_by t parts variable written close expanded

-- of arguments, by which of them stand alone somewhere: those are given to be expanded as they were written
abbrev pub SameWhereAlone : List Bool → List (List Marked) → List (List Marked) → Type 0
SameWhereAlone [] [] [] = Unit {0}
SameWhereAlone (b ∷ bs) (w ∷ ws) (g ∷ gs) = (b ≡ true → g ≡ w) × SameWhereAlone bs ws gs
SameWhereAlone _ _ _ = ⊥

-- the parts that code keeps
abbrev pub part_seen : KeptPart → BodyPart
part_seen (KeptPlain t) = Plain (without_line t.now)
part_seen (KeptArgument i space) = Argument i space
part_seen (KeptSpelling i space) = Spelling i space
part_seen KeptJoin = Join

abbrev pub parts_seen : List KeptPart → List BodyPart
parts_seen = map part_seen

-- a run that was stopped by an error of code, in this state; want of memory says nothing
abbrev pub Stops : {A S : Type 0} → RunError → S → Answered A S → Type 0
Stops (CountError name line) s a = a ≡ record { result = Err (ByFailure (Count name line)); state = s }
Stops (UnclosedError name line) s a = a ≡ record { result = Err (ByFailure (Unclosed name line)); state = s }
Stops (PasteError left right line) s a = a ≡ record { result = Err (ByFailure (Paste left right line)); state = s }
Stops (DeepError line) s a = a ≡ record { result = Err (ByFailure (Deep line)); state = s }
Stops WorkError s a = a ≡ record { result = Err (ByFailure Work); state = s }
Stops PresumedError s a = a ≡ record { result = Err ByPresumed; state = s }
Stops Memory s a = Unit {0}

-- what was put out, before what the head and the pending tokens become, is the same after a step
abbrev pub StepKeepsResult : {S : Type 0} → Answerer S → Mode → ℕ → S → ℕ → List Kept → Kept → List Kept → S → ℕ → List Kept → List Kept → Type 0
StepKeepsResult w mode depth s units out t pending u left out' pending' =
    before (map marked_of out) (expanded_for w s mode depth units (marked_of t ∷ map marked_of pending))
    ≡ before (map marked_of out') (expanded_for w u mode depth left (map marked_of pending'))

-- the pieces that code keeps
abbrev pub piece_of : KeptPiece → Piece
piece_of (KeptReal m) = Real (marked_of m)
piece_of KeptPlacemarker = Placemarker
piece_of KeptJoining = Joining

abbrev pub paste_operand : Option Kept → PasteOperand
paste_operand None = None
paste_operand (Some m) = Some (marked_of m)

-- what two tokens are pasted to, where their spellings make this one token or none
abbrev pub pasted_as : Kept → Kept → Option Kept → Result PasteOperand (List ℕ × List ℕ)
pasted_as left right None = Err (left.token.text, right.token.text)
pasted_as left right (Some m) = Ok (Some (marked_of m))

-- an error that two spellings can't be pasted, at this line
abbrev pub ReportsPaste : {A : Type 0} → RunError → ℕ → Result A (List ℕ × List ℕ) → Type 0
ReportsPaste (CountError name line) l r = ⊥
ReportsPaste (UnclosedError name line) l r = ⊥
ReportsPaste (PasteError left right line) l r = (line ≡ l) × (r ≡ Err (left, right))
ReportsPaste (DeepError line) l r = ⊥
ReportsPaste WorkError l r = ⊥
ReportsPaste PresumedError l r = ⊥
ReportsPaste Memory l r = Unit {0}

-- a result with these tokens, whatever their hide sets, and these units left
abbrev pub GivesTokens : Result Expanded Failure → List Token → ℕ → Type 0
GivesTokens (Ok e) ts left = (map (λ m. m.token) e.tokens ≡ ts) × (e.units ≡ left)
GivesTokens (Err f) ts left = ⊥

-- a run that gave these tokens, whatever their hide sets, with these units left, in this state
abbrev pub HasTokens : {S : Type 0} → Answered Expanded S → List Token → ℕ → S → Type 0
HasTokens a ts left s =
    (list : List Marked) × ((a ≡ record { result = Ok (record { tokens = list; units = left }); state = s })
    × (map (λ m. m.token) list ≡ ts))

-- a public error reports this result
abbrev pub ReportsResult : {A : Type 0} → ExpandError → Result A Failure → Type 0
ReportsResult (PublicCount name line) r = r ≡ Err (Count name line)
ReportsResult (PublicUnclosed name line) r = r ≡ Err (Unclosed name line)
ReportsResult (PublicPaste left right line) r = r ≡ Err (Paste left right line)
ReportsResult (PublicDeep line) r = r ≡ Err (Deep line)
ReportsResult PublicWork r = r ≡ Err Work
ReportsResult PublicMemory r = Unit {0}

-- the public name of an error; a presumed name or line is always known to a table
abbrev pub public_of : RunError → ExpandError
public_of (CountError name line) = PublicCount name line
public_of (UnclosedError name line) = PublicUnclosed name line
public_of (PasteError left right line) = PublicPaste left right line
public_of (DeepError line) = PublicDeep line
public_of WorkError = PublicWork
public_of PresumedError = PublicMemory
public_of Memory = PublicMemory
