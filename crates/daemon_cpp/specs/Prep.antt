-- Preprocessing a job: translation phases 1 to 4 (ISO C 5.1.1.2, 6.10), as a recursion on the groups of a file, with what
-- entering an included file does as a parameter, and on the depth of includes left.
use Rattle.std.specs.Prelude.{◌≤◌, ℕ, zero, suc, ◌+◌, ◌-◌, ◌==◌, Bool, true, false, not, ◌&&◌, ◌||◌, List, [], ◌∷◌, ◌++◌, length, map, Option, None, Some, Result, Ok, Err, cond, if◌then◌else◌, nat_le, nat_lt, is_some, unwrap_or, ℤ, pos, ◌+ℤ◌, ◌-ℤ◌, codes, bytes_eq}
use Rattle.std.specs.List.{list_any, list_all, flat_map}
use Rattle.base_types.specs.Limits.{include_depth_limit, work_limit, diagnostic_limit, body_limit, text_limit}
use Rattle.pp_tokens.specs.declared.Kind.TheVariants as kind
use Rattle.pp_tokens.specs.declared.Token.{Token}
use Rattle.pp_tokens.specs.Marks.{is_identifier, is_word, is_open, is_close}
use Rattle.pp_tokens.specs.Lines.{lexed, LexedFile}
use Rattle.directive_scan.specs.declared.HeaderName.{HeaderName}
use Rattle.directive_scan.specs.declared.Target.{Target}
use Rattle.directive_scan.specs.declared.Target.TheVariants.{Plain, Computed}
use Rattle.directive_scan.specs.declared.Directive.{Directive}
use Rattle.directive_scan.specs.declared.Directive.TheVariants as named
use Rattle.directive_scan.specs.declared.Piece.{Piece}
use Rattle.directive_scan.specs.declared.Piece.TheVariants.{Run, Line}
use Rattle.directive_scan.specs.declared.Malformed.{Malformed}
use Rattle.directive_scan.specs.declared.Malformed.TheVariants as malformed
use Rattle.directive_scan.specs.declared.ConditionPart.{ConditionPart}
use Rattle.directive_scan.specs.declared.ConditionPart.TheVariants.{Written, Probe}
use Rattle.directive_scan.specs.Directives.{pieces}
use Rattle.directive_scan.specs.HeaderNames.{header_named, is_plain_string, between}
use Rattle.directive_scan.specs.Operands.{parts_of}
use Rattle.directive_scan.specs.Groups.{Group, nothing, one, conditional, Branches, ended, branch, Outline, whole, stray, after_else, unended, role_of, outline, malformed_by}
use Rattle.macro_defs.specs.MacroDefinition.{MacroDefinition}
use Rattle.macro_defs.specs.declared.DefineError.{DefineError}
use Rattle.macro_defs.specs.declared.DefineError.TheVariants as define_error
use Rattle.macro_defs.specs.Defining.{Named, defined_by, names_macro}
use Rattle.macro_defs.specs.Table.{lookup, initial_entries, is_always_defined}
use Rattle.macro_expand.specs.declared.Mode.{Mode}
use Rattle.macro_expand.specs.declared.Mode.TheVariants as mode
use Rattle.macro_expand.specs.Asking.{Failure, Count, Unclosed, Paste, Deep, Work}
use Rattle.macro_expand.specs.Replacement.{unmarked}
use Rattle.macro_expand.specs.Expansion.{Expanded, Table, Place, expanded_by}
use Rattle.cond_eval.specs.declared.Num.{Num}
use Rattle.cond_eval.specs.declared.CondError.{CondError}
use Rattle.cond_eval.specs.declared.CondError.TheVariants as cond_error
use Rattle.cond_eval.specs.Constants.{value_behind, is_digit_in}
use Rattle.cond_eval.specs.Value.{expression_value}
use Rattle.cpp_output.specs.Layout.{Event, enter, back, mark, put, pragma}
use Rattle.cpp_output.specs.Laid.{Laid, begun, after_events, finished}
use Rattle.tree_model.specs.Paths.{Text, Path, spelled, is_same_path}
use Rattle.tree_model.specs.Trees.{FileTree}
use Rattle.tree_model.specs.Bodies.{body_at_path}
use Rattle.tree_model.specs.Shown.{presumed_name}
use Rattle.tree_model.specs.declared.walk.Located.{Located}
use Rattle.search_path.specs.SetupOf.{SetupData, absolute}
use Rattle.search_path.specs.Asks.{header_ask, forced_ask, source_ask}
use Rattle.search_path.specs.Search.{Hit, search}
use Rattle.search_path.specs.declared.asking.Found.{Found}
use Rattle.search_path.specs.declared.asking.Visit.{Visit}
use Rattle.search_path.specs.declared.asking.Ask.{Ask}
use Rattle.job_words.specs.JobOf.{JobData}
use Rattle.job_words.specs.declared.MacroWord.{MacroWord}
use Rattle.job_words.specs.declared.MacroWord.TheVariants as word
use Rattle.daemon_cpp.specs.declared.line.NewLine.{NewLine}
use Rattle.daemon_cpp.specs.declared.outcome.Outcome.{Outcome}
use Rattle.daemon_cpp.specs.declared.outcome.Outcome.TheVariants as outcome
use Rattle.daemon_cpp.specs.Diagnostics as complaint
use Rattle.daemon_cpp.specs.Diagnostics.{Complaint, NoSource, TooLarge, OpenComment, NotFound, TooNested, NoHeaderName, ErrorLine, UnknownDirective, BadName, BadParameters, PasteAtEnd, LoneHash, BadLine, NoIdentifier, BadProbe, BadExpression, WrongCount, UnendedCall, BadPaste, DeepArguments, WorkLimit, TextLimit, Diagnostic, diagnostic_text}

-- ---- the world: all that preprocessing asks of a tree ----

-- the searches, and the bytes of files; and whether trigraphs are read
pub record World : Type 0 where
  pub find : Ask → Option Hit
  pub body : Path → Text
  pub trigraphs : Bool

-- a tree, with what a job's words say of searches
abbrev pub world_of : FileTree → SetupData → World
world_of tree setup = record { find = search tree setup; body = body_at_path tree; trigraphs = setup.trigraphs }

-- ---- macros ----

-- a table where a name has this definition, or none
abbrev pub with_macro : Table → Text → Option MacroDefinition → Table
with_macro table name definition = λ other. if bytes_eq name other then definition else table other

-- the macros that every translation begins with, and then the words' in order
abbrev pub with_word : MacroWord → Table → Table
with_word (word.Define name definition) table = with_macro table name (Some definition)
with_word (word.Undef name) table = with_macro table name None

unfoldable pub with_words : List MacroWord → Table → Table
with_words [] table = table
with_words (w ∷ ws) table = with_words ws (with_word w table)

abbrev pub first_table : List MacroWord → Table
first_table words = with_words words (lookup initial_entries)

-- whether a name counts as defined (6.10.1)
abbrev pub is_defined : Table → Text → Bool
is_defined table name = is_some (table name) || is_always_defined name

-- ---- the state ----

-- the file that is read: its place, how it was found, and its path behind all links; its presumed name, and what is added to a
-- physical line for the presumed one (6.10.4)
pub record Here : Type 0 where
  pub place : Path
  pub found : Found
  pub real : Path
  pub name : Text
  pub shift : ℤ

abbrev pub here_at : Hit → Here
here_at hit = record { place = hit.0.place; found = hit.0.found; real = hit.1.real; name = presumed_name hit.0.place; shift = pos 0 }

-- the file that is read, as one that asks
abbrev pub visit_of : Here → Visit
visit_of here = record { place = here.place; found = here.found }

-- what `__FILE__` and `__LINE__` go by there
abbrev pub place_here : Here → Place
place_here here = record { name = here.name; shift = here.shift }

abbrev pub presumed_line : Here → ℕ → ℤ
presumed_line here line = pos line +ℤ here.shift

-- the source's place, the output so far, the work left, the searches that succeeded, the places of the files opened, the macros, the
-- real paths of the files that are read once, and the file that is read
pub record State : Type 0 where
  pub source : Path
  pub output : Laid
  pub left : ℕ
  pub touched : List Located
  pub opened : List Path
  pub macros : Table
  pub once : List Path
  pub here : Here

-- preprocessing goes on in a state, or the first diagnostic ended it in one
pub data PrepStep : Type 0 where
  Go : State → PrepStep
  Stop : Diagnostic → State → PrepStep

abbrev pub and_then : (State → PrepStep) → PrepStep → PrepStep
and_then next (Go state) = next state
and_then next (Stop diagnostic state) = Stop diagnostic state

-- a value, and preprocessing goes on in a state; or the first diagnostic ended it in one
pub data Reached (A : Type 0) : Type 0 where
  Gives : A → State → Reached A
  Ends : Diagnostic → State → Reached A

-- what follows a value
abbrev pub with_value : {A : Type 0} → (A → State → PrepStep) → Reached A → PrepStep
with_value next (Gives x state) = next x state
with_value next (Ends diagnostic state) = Stop diagnostic state

abbrev pub reach : {A B : Type 0} → (A → State → Reached B) → Reached A → Reached B
reach next (Gives x state) = next x state
reach next (Ends diagnostic state) = Ends diagnostic state

-- a diagnostic at a line of the file that is read, and at the source as a whole
abbrev pub at_line : ℕ → Complaint → State → Diagnostic
at_line at complaint state = record { place = spelled state.here.place; at = at; complaint = complaint }

abbrev pub of_job : Complaint → State → Diagnostic
of_job complaint state = record { place = spelled state.source; at = 0; complaint = complaint }

abbrev pub complain : ℕ → Complaint → State → PrepStep
complain at complaint state = Stop (at_line at complaint state) state

abbrev pub complain_of_job : Complaint → State → PrepStep
complain_of_job complaint state = Stop (of_job complaint state) state

abbrev pub refuse : {A : Type 0} → ℕ → Complaint → State → Reached A
refuse at complaint state = Ends (at_line at complaint state) state

-- the text may not pass its limit
abbrev pub limited : State → PrepStep
limited state = cond (nat_le (length state.output.text) text_limit) (Go state) (complain_of_job TextLimit state)

-- more output
abbrev pub say : List Event → State → PrepStep
say events state = limited (record state { output = after_events state.output events })

abbrev pub touch : Located → State → State
touch located state = record state { touched = state.touched ++ located ∷ [] }

-- what entering a file does, from an include on a line
abbrev pub Entering : Type 0
Entering = ℕ → Hit → State → PrepStep

-- ---- expansion ----

abbrev pub tokens_of : Expanded → List Token
tokens_of e = map (λ m. m.token) e.tokens

-- tokens as they are expanded in the file that is read, with the work that is left
abbrev pub expanded_in : Mode → List Token → State → Result Expanded Failure
expanded_in mode tokens state = expanded_by state.macros (place_here state.here) mode 0 state.left (map unmarked tokens)

-- the line of the name whose expansion failed
abbrev pub failure_line : Failure → ℕ
failure_line (Count name line) = line
failure_line (Unclosed name line) = line
failure_line (Paste left right line) = line
failure_line (Deep line) = line
failure_line Work = 0

-- a failed expansion: at a line of the file, or for want of work
abbrev pub failure_at : ℕ → Failure → State → Diagnostic
failure_at at (Count name line) state = at_line at (WrongCount name) state
failure_at at (Unclosed name line) state = at_line at (UnendedCall name) state
failure_at at (Paste left right line) state = at_line at (BadPaste left right) state
failure_at at (Deep line) state = at_line at DeepArguments state
failure_at at Work state = of_job WorkLimit state

-- tokens of text that were expanded (6.10.3), before any of them is laid out
abbrev pub text_expanded : Result Expanded Failure → State → PrepStep
text_expanded (Ok e) state = say (map put (tokens_of e)) (record state { left = e.units })
text_expanded (Err failure) state = Stop (failure_at (failure_line failure) failure state) state

abbrev pub text_step : List Token → State → PrepStep
text_step tokens state = text_expanded (expanded_in mode.Text tokens state) state

-- tokens of a directive that were expanded; what fails is told at the directive's line
abbrev pub line_expanded : ℕ → Result Expanded Failure → State → Reached (List Token)
line_expanded at (Ok e) state = Gives (tokens_of e) (record state { left = e.units })
line_expanded at (Err failure) state = Ends (failure_at at failure state) state

abbrev pub expand_line : ℕ → Mode → List Token → State → Reached (List Token)
expand_line at mode tokens state = line_expanded at (expanded_in mode tokens state) state

-- ---- definitions ----

abbrev pub define_complaint : DefineError → Complaint
define_complaint define_error.Name = BadName
define_complaint define_error.Params = BadParameters
define_complaint define_error.PasteEnd = PasteAtEnd
define_complaint define_error.Hash = LoneHash
define_complaint define_error.Memory = BadName

-- a definition that was read (6.10.3); no reading is want of memory
abbrev pub define_step : ℕ → Result Named DefineError → State → PrepStep
define_step at (Ok found) state = Go (record state { macros = with_macro state.macros found.name (Some found.definition) })
define_step at (Err error) state = complain at (define_complaint error) state

-- a name loses its definition, if it may have one (6.10.3.5 paragraph 2)
abbrev pub undef_named : ℕ → Text → Bool → State → PrepStep
undef_named at name true state = Go (record state { macros = with_macro state.macros name None })
undef_named at name false state = complain at BadName state

abbrev pub undef_step : ℕ → List Token → State → PrepStep
undef_step at [] state = complain at BadName state
undef_step at (t ∷ ts) state = undef_named at t.text (names_macro t) state

-- ---- lines ----

-- a number of digits alone, from 1 to 2,147,483,647 (6.10.4 paragraph 3)
abbrev pub line_number : Token → Option ℕ
line_number t =
    let value = value_behind 10 0 t.text in
    if (elim t.kind [ kind.Number ↦ true | _ ↦ false ]) && list_all (is_digit_in 10) t.text && nat_lt 0 value && nat_le value 2147483647
    then Some value else None

-- what a line directive says: a number, and maybe a name
abbrev pub number_and_name : Option ℕ → Option Text → Option NewLine
number_and_name None name = None
number_and_name (Some number) name = Some (record { number = number; name = name })

unfoldable pub new_line : List Token → Option NewLine
new_line [] = None
new_line (t ∷ []) = number_and_name (line_number t) None
new_line (t ∷ u ∷ []) = if is_plain_string u then number_and_name (line_number t) (Some (between u.text)) else None
new_line (t ∷ u ∷ v ∷ ts) = None

-- the file goes on with a presumed line behind the directive, and maybe under another name
abbrev pub renumbered : ℕ → NewLine → Here → Here
renumbered at new here = record here { name = unwrap_or new.name here.name; shift = pos new.number -ℤ pos (at + 1) }

-- a marker of the file that is read, behind a directive on a line
abbrev pub mark_here : ℕ → State → PrepStep
mark_here at state = say (mark state.here.name (presumed_line state.here (at + 1)) at ∷ []) state

-- a number and maybe a name, or nothing that a line directive may say
abbrev pub line_told : ℕ → Option NewLine → State → Reached NewLine
line_told at None state = refuse at BadLine state
line_told at (Some new) state = Gives new state

-- as written, or else as expanded (6.10.4 paragraph 5)
abbrev pub line_written : ℕ → Option NewLine → List Token → State → Reached NewLine
line_written at (Some new) tokens state = Gives new state
line_written at None tokens state = reach (λ ts after. line_told at (new_line ts) after) (expand_line at mode.Text tokens state)

abbrev pub line_read : ℕ → List Token → State → Reached NewLine
line_read at tokens state = line_written at (new_line tokens) tokens state

-- the file goes on as a line directive says
abbrev pub line_set : ℕ → NewLine → State → PrepStep
line_set at new state = mark_here at (record state { here = renumbered at new state.here })

abbrev pub line_step : ℕ → List Token → State → PrepStep
line_step at tokens state = with_value (λ new after. line_set at new after) (line_read at tokens state)

-- ---- files that are asked for ----

-- the name that an include or an operand gives, as written or as expanded (6.10.2)
abbrev pub header_reached : ℕ → Target → State → Reached (Option HeaderName)
header_reached at (Plain header) state = Gives (Some header) state
header_reached at (Computed tokens) state = reach (λ ts after. Gives (header_named ts) after) (expand_line at mode.Text tokens state)

-- a file that is read once, by its real path
abbrev pub is_marked : Path → State → Bool
is_marked real state = list_any (is_same_path real) state.once

-- ---- conditions (6.10.1) ----

-- how far the operand of a `defined` was read: no `defined` stands open; behind one; behind its `(`; behind its name there
pub data DefinedStage : Type 0 where
  outside : DefinedStage
  named_next : Token → DefinedStage
  in_parentheses : Token → DefinedStage
  closing_next : Token → Text → DefinedStage

-- a number in the place of a token
abbrev pub answer_token : Token → Bool → Token
answer_token t true = record t { kind = kind.Number; text = codes "1" }
answer_token t false = record t { kind = kind.Number; text = codes "0" }

abbrev pub token_more : Token → Option (List Token) → Option (List Token)
token_more t None = None
token_more t (Some ts) = Some (t ∷ ts)

-- what a `defined` and its operand are made of
pub data DefinedSort : Type 0 where
  defining : DefinedSort
  naming : DefinedSort
  opening_mark : DefinedSort
  closing_mark : DefinedSort
  plain : DefinedSort

unfoldable pub defined_sort_of : Token → DefinedSort
defined_sort_of t =
    if is_word (codes "defined") t then defining
    else (if is_identifier t then naming
    else (if is_open t then opening_mark
    else (if is_close t then closing_mark
    else plain)))

module _ (defined : Text → Bool) where
  -- a token, by what it is; each `defined` with its operand becomes 1 or 0
  abbrev pub defined_before : (DefinedStage → Option (List Token)) → Token → DefinedSort → DefinedStage → Option (List Token)
  defined_before next t defining outside = next (named_next t)
  defined_before next t naming outside = token_more t (next outside)
  defined_before next t opening_mark outside = token_more t (next outside)
  defined_before next t closing_mark outside = token_more t (next outside)
  defined_before next t plain outside = token_more t (next outside)
  defined_before next t defining (named_next d) = token_more (answer_token d (defined t.text)) (next outside)
  defined_before next t naming (named_next d) = token_more (answer_token d (defined t.text)) (next outside)
  defined_before next t opening_mark (named_next d) = next (in_parentheses d)
  defined_before next t closing_mark (named_next d) = None
  defined_before next t plain (named_next d) = None
  defined_before next t defining (in_parentheses d) = next (closing_next d t.text)
  defined_before next t naming (in_parentheses d) = next (closing_next d t.text)
  defined_before next t opening_mark (in_parentheses d) = None
  defined_before next t closing_mark (in_parentheses d) = None
  defined_before next t plain (in_parentheses d) = None
  defined_before next t closing_mark (closing_next d name) = token_more (answer_token d (defined name)) (next outside)
  defined_before next t defining (closing_next d name) = None
  defined_before next t naming (closing_next d name) = None
  defined_before next t opening_mark (closing_next d name) = None
  defined_before next t plain (closing_next d name) = None

  abbrev pub at_line_end : DefinedStage → Option (List Token)
  at_line_end outside = Some []
  at_line_end (named_next d) = None
  at_line_end (in_parentheses d) = None
  at_line_end (closing_next d name) = None

  unfoldable pub defined_from : DefinedStage → List Token → Option (List Token)
  defined_from stage [] = at_line_end stage
  defined_from stage (t ∷ ts) = defined_before (λ next. defined_from next ts) t (defined_sort_of t) stage

-- the tokens with each `defined X` and `defined (X)` answered; None where a `defined` has no operand
unfoldable pub with_defined : (Text → Bool) → List Token → Option (List Token)
with_defined defined tokens = defined_from defined outside tokens

-- the identifiers that are left are 0 (6.10.1 paragraph 4)
abbrev pub zeroed : Token → Token
zeroed t = if is_identifier t then answer_token t false else t

abbrev pub cond_complaint : CondError → Complaint
cond_complaint cond_error.Syntax = BadExpression
cond_complaint cond_error.ZeroDivisor = complaint.ZeroDivisor
cond_complaint cond_error.NotInteger = complaint.NotInteger
cond_complaint cond_error.TooWide = complaint.TooWide
cond_complaint cond_error.TooDeep = complaint.TooDeep
cond_complaint cond_error.Memory = BadExpression

-- an expression's value isn't 0; no value is want of memory
abbrev pub truth_of : ℕ → Result Num CondError → State → Reached Bool
truth_of at (Ok n) state = Gives (not (n.bits == 0)) state
truth_of at (Err error) state = refuse at (cond_complaint error) state

-- an expanded line, whose `defined`s were answered: no `__has_include` may be left (6.10.1)
abbrev pub probe_free : ℕ → Bool → List Token → State → Reached Bool
probe_free at true tokens state = refuse at BadProbe state
probe_free at false tokens state = truth_of at (expression_value (map zeroed tokens)) state

abbrev pub defined_answered : ℕ → Option (List Token) → State → Reached Bool
defined_answered at None state = refuse at BadExpression state
defined_answered at (Some tokens) state = probe_free at (list_any (is_word (codes "__has_include")) tokens) tokens state

abbrev pub expanded_condition : ℕ → List Token → State → Reached Bool
expanded_condition at tokens state = defined_answered at (with_defined (is_defined state.macros) tokens) state

-- a line whose operands of `__has_include` were answered
abbrev pub answered_condition : ℕ → List Token → State → Reached Bool
answered_condition at tokens state = reach (λ ts after. expanded_condition at ts after) (expand_line at mode.Condition tokens state)

-- a search whose answer is all that is asked for
abbrev pub probed : Option Hit → State → Reached Bool
probed None state = Gives false state
probed (Some hit) state = Gives true (touch hit.1 state)

module _ (world : World) where
  -- whether the file of an operand's name is found
  abbrev pub probe_named : ℕ → Option HeaderName → State → Reached Bool
  probe_named at None state = refuse at BadProbe state
  probe_named at (Some header) state = probed (world.find (header_ask (visit_of state.here) false header.angle header.name)) state

  abbrev pub probe : ℕ → Target → State → Reached Bool
  probe at target state = reach (λ header after. probe_named at header after) (header_reached at target state)

  -- the line with its operands answered, from left to right
  unfoldable pub answer_parts : ℕ → List ConditionPart → State → Reached (List Token)
  answer_parts at [] state = Gives [] state
  answer_parts at (Written t ∷ parts) state = reach (λ ts after. Gives (t ∷ ts) after) (answer_parts at parts state)
  answer_parts at (Probe t target ∷ parts) state =
      reach (λ yes after. reach (λ ts more. Gives (answer_token t yes ∷ ts) more) (answer_parts at parts after)) (probe at target state)

  -- a line, by its parts; a malformed operand is told before any is searched
  abbrev pub parts_condition : ℕ → Option (List ConditionPart) → State → Reached Bool
  parts_condition at None state = refuse at BadProbe state
  parts_condition at (Some parts) state = reach (λ ts after. answered_condition at ts after) (answer_parts at parts state)

  -- the condition of an if or an elif
  unfoldable pub condition : ℕ → List Token → State → Reached Bool
  condition at tokens state = parts_condition at (parts_of tokens) state

-- that of an ifdef or an ifndef: whether the first token, an identifier, is defined, or isn't
abbrev pub name_condition : ℕ → Bool → List Token → State → Reached Bool
name_condition at wanted [] state = refuse at NoIdentifier state
name_condition at wanted (t ∷ ts) state =
    if is_identifier t then Gives (if wanted then is_defined state.macros t.text else not (is_defined state.macros t.text)) state
    else refuse at NoIdentifier state

module _ (world : World) where
  -- whether the group behind a line of a conditional is read, where none before it was (6.10.1)
  abbrev pub directive_test : ℕ → Directive → State → Reached Bool
  directive_test at (named.If tokens) state = condition world at tokens state
  directive_test at (named.Elif tokens) state = condition world at tokens state
  directive_test at (named.Ifdef tokens) state = name_condition at true tokens state
  directive_test at (named.Ifndef tokens) state = name_condition at false tokens state
  directive_test at _ state = Gives true state

  abbrev pub piece_test : Piece → State → Reached Bool
  piece_test (Run tokens) state = Gives true state
  piece_test (Line at what) state = directive_test at what state

-- ---- a file ----

module _ (world : World) (entering : Entering) where
  -- a file that was found: nothing more happens where it is read once and was marked
  abbrev pub unless_marked : Bool → ℕ → Hit → State → PrepStep
  unless_marked true at hit state = Go state
  unless_marked false at hit state = entering at hit state

  -- a name on a line, in angles or else in quotes, whose search gave this
  abbrev pub found_file : ℕ → Bool → Text → State → Option Hit → PrepStep
  found_file at angle name state None = complain at (NotFound angle name) state
  found_file at angle name state (Some hit) = unless_marked (is_marked hit.1.real state) at hit (touch hit.1 state)

  -- an include, or an include_next, of a name on a line (6.10.2)
  abbrev pub include_named : Bool → ℕ → Option HeaderName → State → PrepStep
  include_named next at None state = complain at NoHeaderName state
  include_named next at (Some header) state = found_file at header.angle header.name state (world.find (header_ask (visit_of state.here) next header.angle header.name))

  abbrev pub include : Bool → ℕ → Target → State → PrepStep
  include next at target state = with_value (λ header after. include_named next at header after) (header_reached at target state)

  -- a directive on a line (6.10); the lines of conditionals stand in no group by themselves
  abbrev pub directive_step : ℕ → Directive → State → PrepStep
  directive_step at (named.Include target) state = include false at target state
  directive_step at (named.Next target) state = include true at target state
  directive_step at (named.Define tokens) state = define_step at (defined_by tokens) state
  directive_step at (named.Undef tokens) state = undef_step at tokens state
  directive_step at (named.If tokens) state = Go state
  directive_step at (named.Ifdef tokens) state = Go state
  directive_step at (named.Ifndef tokens) state = Go state
  directive_step at (named.Elif tokens) state = Go state
  directive_step at named.Else state = Go state
  directive_step at named.Endif state = Go state
  directive_step at (named.Line tokens) state = line_step at tokens state
  directive_step at (named.Error tokens) state = complain at (ErrorLine tokens) state
  directive_step at named.Warning state = Go state
  directive_step at named.Once state = Go (record state { once = state.once ++ state.here.real ∷ [] })
  directive_step at (named.Pragma tokens) state = say (pragma at tokens ∷ []) state
  directive_step at named.Null state = Go state
  directive_step at named.Unknown state = complain at UnknownDirective state

  abbrev pub piece_step : Piece → State → PrepStep
  piece_step (Run tokens) state = text_step tokens state
  piece_step (Line at what) state = directive_step at what state

  -- a group, or what stands behind it
  abbrev pub group_or : (State → PrepStep) → (State → PrepStep) → Bool → State → PrepStep
  group_or group behind true state = group state
  group_or group behind false state = behind state

  -- The pieces of a group in order. Of a conditional the first group whose line holds is read, or none; lines behind that aren't
  -- evaluated, and the other groups aren't read (6.10.1 paragraphs 5 and 6).
  unfoldable mutual
    pub run_group : Group → State → PrepStep
    run_group nothing state = Go state
    run_group (one piece group) state = and_then (λ after. run_group group after) (piece_step piece state)
    run_group (conditional opening group branches behind) state =
        and_then (λ after. run_group behind after)
        (with_value (λ holds after. group_or (λ more. run_group group more) (λ more. run_branches branches more) holds after) (piece_test world opening state))

    pub run_branches : Branches → State → PrepStep
    run_branches (ended last) state = Go state
    run_branches (branch line group branches) state =
        with_value (λ holds after. group_or (λ more. run_group group more) (λ more. run_branches branches more) holds after) (piece_test world line state)

  -- a file whose conditionals don't nest (6.10)
  abbrev pub malformed_step : Option Malformed → State → PrepStep
  malformed_step None state = Go state
  malformed_step (Some (malformed.WithoutIf name at)) state = complain at (complaint.WithoutIf name) state
  malformed_step (Some (malformed.AfterElse name at)) state = complain at (complaint.AfterElse name) state
  malformed_step (Some (malformed.Unended at)) state = complain at complaint.Unended state

  -- the groups of a file, behind these events
  abbrev pub run_outline : List Event → Outline → State → PrepStep
  run_outline events (whole group) state = and_then (λ after. run_group group after) (say events state)
  run_outline events (stray piece) state = malformed_step (malformed_by (stray piece)) state
  run_outline events (after_else piece) state = malformed_step (malformed_by (after_else piece)) state
  run_outline events (unended piece) state = malformed_step (malformed_by (unended piece)) state

  -- a file with its comment that never ends, if it has one
  abbrev pub run_file : List Event → LexedFile → Option ℕ → State → PrepStep
  run_file events file None state = run_outline events (outline role_of (pieces file.lines)) state
  run_file events file (Some line) state = complain line OpenComment state

  -- work that costs so many units
  abbrev pub paid : ℕ → (State → PrepStep) → State → PrepStep
  paid cost next state =
      cond (nat_le cost state.left) (next (record state { left = state.left - cost })) (complain_of_job WorkLimit state)

  -- opening a file costs a unit, and one for each of its tokens
  abbrev pub opening_cost : LexedFile → ℕ
  opening_cost file = suc (length (flat_map (λ line. line) file.lines))

  -- a file is opened, and read behind these events
  unfoldable pub open_file : List Event → Hit → State → PrepStep
  open_file events hit state =
      let body = world.body hit.1.real in
      let file = lexed world.trigraphs body in
      let inside = record state { here = here_at hit; opened = state.opened ++ hit.0.place ∷ [] } in
      cond (nat_le (length body) body_limit)
      (paid (opening_cost file) (run_file events file file.unended) inside)
      (complain 0 TooLarge inside)

-- back in the file that was read before, from its line
abbrev pub back_in : Here → ℕ → State → PrepStep
back_in here at state = say (back here.name (presumed_line here (at + 1)) at ∷ []) (record state { here = here })

-- entering an included file, with so many levels of includes left
unfoldable pub enter_file : World → ℕ → Entering
enter_file world zero at hit state = complain at TooNested state
enter_file world (suc depth) at hit state =
    and_then (λ after. back_in state.here at after)
    (open_file world (enter_file world depth) (enter (presumed_name hit.0.place) ∷ []) hit state)

-- ---- a job ----

-- what preprocessing a job gives: its outcome, the searches that succeeded, and the places of the files opened, up to
-- the end or the first diagnostic
pub record Prepared : Type 0 where
  pub outcome : Outcome
  pub touched : List Located
  pub opened : List Path

-- the whole text, which may not pass its limit
abbrev pub outcome_of_text : Path → Text → Outcome
outcome_of_text source text =
    cond (nat_le (length text) text_limit)
    (outcome.Text text)
    (outcome.Diag (diagnostic_text (record { place = spelled source; at = 0; complaint = TextLimit })))

abbrev pub prepared : PrepStep → Prepared
prepared (Go state) = record { outcome = outcome_of_text state.source (finished state.output); touched = state.touched; opened = state.opened }
prepared (Stop diagnostic state) = record { outcome = outcome.Diag (diagnostic_text diagnostic); touched = state.touched; opened = state.opened }

-- the state before the source is opened: the output has its marker, and the macros are those of the words
abbrev pub first_state : List MacroWord → Hit → State
first_state macros hit = record {
  source = hit.0.place;
  output = begun (presumed_name hit.0.place);
  left = work_limit;
  touched = hit.1 ∷ [];
  opened = [];
  macros = first_table macros;
  once = [];
  here = here_at hit;
}

-- the files of the job's words, one after another, each as by an include on line 0 of the source
unfoldable pub run_forced : World → Entering → List Text → State → PrepStep
run_forced world entering [] state = Go state
run_forced world entering (name ∷ names) state =
    and_then (λ after. run_forced world entering names after) (found_file world entering 0 false name state (world.find (forced_ask name)))

-- the source, in front of all else
abbrev pub open_source : World → Hit → State → PrepStep
open_source world hit state = open_file world (enter_file world include_depth_limit) [] hit state

-- a job whose source's search gave this
abbrev pub run_job : World → JobData → Option Hit → Prepared
run_job world job None = record {
  outcome = outcome.Diag (diagnostic_text (record { place = absolute job.setup.cwd job.source; at = 0; complaint = NoSource }));
  touched = [];
  opened = [];
}
run_job world job (Some hit) =
    prepared (and_then (λ state. open_source world hit state)
    (and_then (λ state. run_forced world (enter_file world include_depth_limit) job.forced state) (limited (first_state job.macros hit))))

unfoldable pub prep : World → JobData → Prepared
prep world job = run_job world job (world.find (source_ask job.source))

-- preprocessing a job over a tree
abbrev pub outcome_over : FileTree → JobData → Outcome
outcome_over tree job = (prep (world_of tree job.setup) job).outcome

-- a text of at most 67,108,864 bytes, or a diagnostic of 1 to 65,536
abbrev pub OutcomeFits : Outcome → Type 0
OutcomeFits (outcome.Text text) = length text ≤ text_limit
OutcomeFits (outcome.Diag words) = (1 ≤ length words) × (length words ≤ diagnostic_limit)
