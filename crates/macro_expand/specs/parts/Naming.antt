-- What code reads of a name: what the name and the tokens after it become (6.10.3).
use Rattle.std.specs.Prelude.{◌≡◌, ◌<◌, ℕ, Bool, false, List, [], ◌∷◌, map, length, get_or, None, Ok}
use Rattle.macro_expand.specs.declared.outcome.Mode.{Mode}
use Rattle.macro_expand.specs.declared.outcome.RunError.{RunError}
use Rattle.macro_expand.specs.declared.marked.Marked.{Marked as Kept}
use Rattle.macro_expand.specs.declared.marked.Role.TheVariants.{Name}
use Rattle.macro_expand.specs.declared.name.MacroCall.{MacroCall}
use Rattle.macro_expand.specs.declared.name.ReadName.{ReadName}
use Rattle.macro_expand.specs.declared.name.ReadName.TheVariants.{Itself, Object, Lent, Call}
use Rattle.pp_tokens.specs.declared.Token.{Token}
use Rattle.macro_defs.specs.declared.run.Run.{Run}
use Rattle.macro_defs.specs.Runs.{run_tokens}
use Rattle.macro_defs.specs.MacroDefinition.{without_line}
use Rattle.macro_expand.specs.Sets.{names_in}
use Rattle.macro_expand.specs.Replacement.{Marked, BodyPart, stands_alone, unmarked, put_in_for}
use Rattle.macro_expand.specs.Expansion.{Expanded, head_role, object_replacement}
use Rattle.macro_expand.specs.Answered.{Answerer, Answered, answered_and_then, before, expanded_for, charged_for, arguments_for}
use Rattle.macro_expand.specs.Seen.{marked_of, lists_of, call_replaced_by, Stops}
use Rattle.macro_expand.specs.parts.Parts.{parts_told}

-- which of so many arguments stand alone somewhere
abbrev pub StandAlone : List Bool → ℕ → List BodyPart → Type 0
StandAlone alone count parts =
    (length alone ≡ count) × ((i : ℕ) → i < count → get_or alone i false ≡ stands_alone i None parts)

-- what becomes of a call with these arguments and the tokens after it
unfoldable pub called_for : {S : Type 0} → Answerer S → S → Mode → ℕ → ℕ → Kept → MacroCall → List (List Marked) → List Marked → Answered Expanded S
called_for w s mode depth units t call written rest =
    answered_and_then (arguments_for w s mode depth t.token (parts_told call.parts) 0 units written) (λ e u.
    charged_for w u mode depth e.units
    (call_replaced_by t (parts_told call.parts) call.variable (lists_of call.read.written.items) (marked_of call.read.close) e.lists) rest)

-- the tokens of a replacement list that are put in for a name where they are lent
abbrev pub lent_told : Kept → List (List ℕ) → Run → List Marked
lent_told t hidden body = put_in_for t.token (names_in hidden) (map unmarked (map without_line (run_tokens body)))

-- what a name that was read and the tokens after it become
abbrev pub named_for : {S : Type 0} → Answerer S → S → Mode → ℕ → ℕ → Kept → ReadName → List Marked → Answered Expanded S
named_for w s mode depth units t Itself rest = before (marked_of t ∷ []) (expanded_for w s mode depth units rest)
named_for w s mode depth units t (Object made) rest = charged_for w s mode depth units (Ok (map marked_of made.items)) rest
named_for w s mode depth units t (Lent hidden body) rest = charged_for w s mode depth units (Ok (lent_told t hidden body)) rest
named_for w s mode depth units t (Call written call) rest = called_for w s mode depth units t call (lists_of written.items) rest

-- a call's arguments are those of which is known whether they stand alone
abbrev pub KnowsAlone : ReadName → Type 0
KnowsAlone Itself = Unit {0}
KnowsAlone (Object made) = Unit {0}
KnowsAlone (Lent hidden body) = Unit {0}
KnowsAlone (Call written call) = StandAlone call.alone.items (length written.items) (parts_told call.parts)

-- a name stands for an object-like macro's replacement with this list
abbrev pub ReadsObject : Kept → List Token → ReadName → Type 0
ReadsObject t body Itself = ⊥
ReadsObject t body (Object made) = object_replacement (marked_of t) body ≡ Ok (map marked_of made.items)
ReadsObject t body (Lent hidden run) = object_replacement (marked_of t) body ≡ Ok (lent_told t hidden run)
ReadsObject t body (Call written call) = ⊥

-- a name that isn't hidden and the pending tokens become what was read becomes, with the tokens that are left
abbrev pub ReadsName : {S : Type 0} → Answerer S → S → Kept → List Kept → ReadName → S → List Kept → Type 0
ReadsName w s t pending name u rest =
    (mode : Mode) (depth units : ℕ) → head_role mode (marked_of t) (map marked_of pending) ≡ Name →
    expanded_for w s mode depth units (marked_of t ∷ map marked_of pending) ≡ named_for w u mode depth units t name (map marked_of rest)

-- a name that isn't hidden was stopped by this error, in this state
abbrev pub NameStops : {S : Type 0} → Answerer S → S → Kept → List Kept → RunError → S → Type 0
NameStops w s t pending e u =
    (mode : Mode) (depth units : ℕ) → head_role mode (marked_of t) (map marked_of pending) ≡ Name →
    Stops e u (expanded_for w s mode depth units (marked_of t ∷ map marked_of pending))
