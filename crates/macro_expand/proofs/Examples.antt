-- Worked examples of macro expansion, computed from the definitions (6.10.3.5).
use Rattle.std.specs.Prelude.{◌≡◌, ℕ, Bool, true, false, not, ◌&&◌, ◌||◌, List, [], ◌∷◌, ◌++◌, map, length, ◌==◌, nat_le, if◌then◌else◌, Option, Some, None, Result, Ok, Err, codes, bytes_eq, refl, pos, is_some}
use Rattle.std.specs.List.{list_any}
use Rattle.pp_tokens.specs.declared.Kind.{Kind}
use Rattle.pp_tokens.specs.declared.Kind.TheVariants.{Ident, Number, Punct}
use Rattle.macro_expand.specs.declared.outcome.Mode.{Mode}
use Rattle.macro_expand.specs.declared.outcome.Mode.TheVariants.{Text, Condition}
use Rattle.pp_tokens.specs.declared.Token.{Token}
use Rattle.macro_defs.specs.declared.definition.Shape.TheVariants.{Object, Function}
use Rattle.macro_defs.specs.MacroDefinition.{MacroDefinition}
use Rattle.macro_expand.specs.Asking.{Failure, Count, Unclosed, Paste, Work, then_with}
use Rattle.pp_tokens.specs.Marks.{mark_of}
use Rattle.pp_tokens.specs.Grammar.{kind_of, is_identifier, is_number, number_goes_on, is_character, is_string, closes, is_punctuator}
use Rattle.macro_expand.specs.Replacement.{Marked, unmarked, call_in, arguments_of, replacement, joins_made, pieces_of, parts_after, one_joins, cut_at_outer_commas, stands_alone, pasted, escaped, spellings}
use Rattle.macro_expand.specs.Expansion.{Expanded, expansion, expansion_within, expansion_step, head_role, role_expanded, built_in, name_replaced, macro_replaced, function_replaced, called, counted, call_replacement, object_replacement, argument_expanded, charged, go_on, put_out, arguments_expanded, Table, Place, by_table}
use Rattle.macro_expand.specs.Choice.{Sets, Ending, Gave, Failed, Presumed, complete_runs, computed_runs, choices_taken}

-- a small lexer for the examples: words, one-byte punctuators and `##`, all on line 1
is_letter : ℕ → Bool
is_letter b = (nat_le 97 b && nat_le b 122) || (nat_le 65 b && nat_le b 90) || (b == 95)

is_digit : ℕ → Bool
is_digit b = nat_le 48 b && nat_le b 57

token : Kind → List ℕ → Bool → Token
token kind text space = record { kind = kind; text = text; line = 1; space = space }

word_kind : List ℕ → Kind
unfolding is_digit
word_kind [] = Ident
word_kind (b ∷ bs) = if is_digit b then Number else Ident

-- to put out the word that was read
flush : List ℕ → Bool → List Token → List Token
unfolding token word_kind
flush [] space rest = rest
flush (b ∷ bs) space rest = token (word_kind (b ∷ bs)) (b ∷ bs) space ∷ rest

data Byte : Type 0 where
  InWord : Byte
  Blank : Byte
  Sharp : Byte
  Single : Byte

byte_of : ℕ → Byte
unfolding is_letter is_digit
byte_of b = if is_letter b || is_digit b then InWord else (if b == 32 then Blank else (if b == 35 then Sharp else Single))

lexed_from : List ℕ → Bool → List ℕ → List Token
unfolding flush byte_of token
lexed_from word space [] = flush word space []
lexed_from word space (b ∷ bs) =
    elim (byte_of b) [
      | InWord ↦ lexed_from (word ++ b ∷ []) space bs
      | Blank ↦ flush word space (lexed_from [] true bs)
      | Single ↦ flush word space (token Punct (b ∷ []) (elim word [ [] ↦ space | x ∷ xs ↦ false ]) ∷ lexed_from [] false bs)
      | Sharp ↦ flush word space (joined_sharps (elim word [ [] ↦ space | x ∷ xs ↦ false ]) (lexed_from [] false bs))
    ]
  where
    joined_sharps : Bool → List Token → List Token
    joined_sharps space [] = token Punct (35 ∷ []) space ∷ []
    joined_sharps space (t ∷ ts) =
        if bytes_eq t.text (35 ∷ []) && not t.space then token Punct (35 ∷ 35 ∷ []) space ∷ ts
        else token Punct (35 ∷ []) space ∷ t ∷ ts

lexed : List ℕ → List Token
unfolding lexed_from
lexed = lexed_from [] true

-- the text of tokens on one line
is_tight : List ℕ → Bool
is_tight text = list_any (bytes_eq text) (codes "(" ∷ codes ")" ∷ codes "[" ∷ codes "]" ∷ codes "{" ∷ codes "}" ∷ codes "," ∷ codes ";" ∷ [])

shown_after : Option Token → List Marked → List ℕ
unfolding is_tight
shown_after left [] = []
shown_after left (t ∷ ts) =
    (elim left [ None ↦ [] | Some l ↦ if t.token.space || (not (is_tight l.text) && not (is_tight t.token.text)) then 32 ∷ [] else [] ])
    ++ t.token.text ++ shown_after (Some t.token) ts

-- tables
object : List ℕ → MacroDefinition
unfolding lexed
object body = record { shape = Object; body = lexed body }

function : List (List ℕ) → Bool → List ℕ → MacroDefinition
unfolding lexed
function params variadic body = record { shape = Function params variadic; body = lexed body }

table_of : List (List ℕ × MacroDefinition) → Table
table_of [] name = None
table_of (e ∷ es) name = if bytes_eq e.0 name then Some e.1 else table_of es name

here : Place
here = record { name = codes "/w/a.c"; shift = pos 0 }

shown : Result Expanded Failure → Result (List ℕ × ℕ) Failure
unfolding shown_after
shown (Ok e) = Ok (shown_after None e.tokens, e.units)
shown (Err e) = Err e

expanded : ℕ → Mode → Table → List ℕ → Result (List ℕ × ℕ) Failure
unfolding shown expansion lexed here by_table expansion_within expansion_step head_role role_expanded built_in name_replaced macro_replaced function_replaced called counted call_replacement object_replacement argument_expanded charged go_on put_out call_in mark_of arguments_of then_with arguments_expanded replacement joins_made pieces_of parts_after one_joins cut_at_outer_commas stands_alone pasted escaped spellings kind_of is_identifier is_number number_goes_on is_character is_string closes is_punctuator
expanded units mode table text = shown (by_table table here (expansion mode 0 units (map unmarked (lexed text))))

example : Table
unfolding table_of object function
example = table_of (
    (codes "x", object (codes "2")) ∷
    (codes "f", function (codes "a" ∷ []) false (codes "f(x * (a))")) ∷
    (codes "g", object (codes "f")) ∷
    (codes "z", object (codes "z[0]")) ∷
    (codes "h", object (codes "g(~")) ∷
    (codes "m", function (codes "a" ∷ []) false (codes "a(w)")) ∷
    (codes "w", object (codes "0,1")) ∷
    (codes "t", function (codes "a" ∷ []) false (codes "a")) ∷
    (codes "p", function [] false (codes "int")) ∷
    (codes "q", function (codes "x" ∷ []) false (codes "x")) ∷
    (codes "r", function (codes "x" ∷ codes "y" ∷ []) false (codes "x ## y")) ∷
    (codes "str", function (codes "x" ∷ []) false (codes "# x")) ∷ [])

line_15 : expanded 1000 Text example (codes "f(y+1) + f(f(z)) % t(t(g)(0) + t)(1);") ≡ Ok (codes "f(2 * (y + 1)) + f(2 * (f(2 * (z[0])))) % f(2 * (0)) + t(1);", 921)
unfolding expanded example
line_15 = refl

line_16 : expanded 1000 Text example (codes "g(x+(3,4)-w) | h 5) & m (f)^m(m);") ≡ Ok (codes "f(2 * (2 +(3,4)- 0,1)) | f(2 * (~ 5)) & f(2 * (0,1))^ m(0,1);", 922)
unfolding expanded example
line_16 = refl

line_18 : expanded 100 Text example (codes "p() i[q()] = { q(1), r(2,3), r(4,), r(,5), r(,) };") ≡ Ok (codes "int i[] = { 1, 23, 4, 5, };", 88)
unfolding expanded example
line_18 = refl

line_19 : expanded 100 Text example (codes "char c[2][6] = { str(hello), str() };") ≡ Ok (codes "char c[2][6] = { " ++ 34 ∷ codes "hello" ++ 34 ∷ codes ", " ++ 34 ∷ 34 ∷ codes " };", 96)
unfolding expanded example
line_19 = refl

variable : Table
unfolding table_of function object
variable = table_of (
    (codes "L", function (codes "f" ∷ []) false (codes "f")) ∷
    (codes "j", function (codes "a" ∷ codes "b" ∷ []) false (codes "a##b")) ∷
    (codes "V", function (codes "f" ∷ codes "a" ∷ []) true (codes "p(f, ## a)")) ∷
    (codes "W", function (codes "__VA_ARGS__" ∷ []) true (codes "q(__VA_ARGS__) #__VA_ARGS__")) ∷
    (codes "F", object (codes "__FILE__")) ∷
    (codes "D", object (codes "defined")) ∷ [])

-- two marks that make one, and a name and a number
good_pastes : expanded 100 Text variable (codes "j(-,>) j(&,&) j(x,1) j(.,1)") ≡ Ok (codes "-> && x1 .1", 92)
unfolding expanded variable
good_pastes = refl

variable_left_out : expanded 100 Text variable (codes "V(1) V(1,2)") ≡ Ok (codes "p(1) p(1, 2)", 88)
unfolding expanded variable
variable_left_out = refl

unclosed : expanded 100 Text variable (codes "x L(1") ≡ Err (Unclosed (codes "L") 1)
unfolding expanded variable
unclosed = refl

count : expanded 100 Text variable (codes "j(1)") ≡ Err (Count (codes "j") 1)
unfolding expanded variable
count = refl

bad_paste : expanded 100 Text variable (codes "j(+,*)") ≡ Err (Paste (codes "+") (codes "*") 1)
unfolding expanded variable
bad_paste = refl

paste_before_work : expanded 0 Text variable (codes "j(+,*)") ≡ Err (Paste (codes "+") (codes "*") 1)
unfolding expanded variable
paste_before_work = refl

work : expanded 2 Text variable (codes "j(a,b) j(a,b)") ≡ Err Work
unfolding expanded variable
work = refl

place : expanded 100 Text variable (codes "F") ≡ Ok (34 ∷ codes "/w/a.c" ++ 34 ∷ [], 96)
unfolding expanded variable
place = refl

defined_name : expanded 100 Condition variable (codes "defined F || D (F)") ≡ Ok (codes "defined F | | defined (F)", 98)
unfolding expanded variable
defined_name = refl

-- a `defined` without an operand is a name as any other
odd : Table
unfolding table_of object
odd = table_of (
    (codes "defined", object (codes "1")) ∷
    (codes "x", object (codes "2")) ∷ [])

no_operand : expanded 100 Condition odd (codes "defined + defined x + x") ≡ Ok (codes "1 + defined x + 2", 96)
unfolding expanded odd
no_operand = refl

all_variable : expanded 100 Text variable (codes "W() W(1,(2,3))") ≡ Ok (codes "q() " ++ 34 ∷ 34 ∷ codes " q(1,(2,3)) " ++ 34 ∷ codes "1,(2,3)" ++ 34 ∷ [], 83)
unfolding expanded variable
all_variable = refl

-- Runs under sets.

sets_of : List (List ℕ × List MacroDefinition) → Sets
sets_of [] name = []
sets_of (e ∷ es) name = if bytes_eq e.0 name then e.1 else sets_of es name

ended_text : Ending Expanded → Option (List ℕ)
unfolding shown_after
ended_text (Gave e) = Some (shown_after None e.tokens)
ended_text (Failed e) = None
ended_text Presumed = None

-- for each complete run: how many choices it uses, and its text
runs_text : Sets → Option (List ℕ) → List ℕ → List (ℕ × Option (List ℕ))
unfolding ended_text expansion lexed complete_runs expansion_within expansion_step head_role role_expanded built_in name_replaced macro_replaced function_replaced called counted call_replacement object_replacement argument_expanded charged go_on put_out call_in mark_of arguments_of then_with arguments_expanded replacement joins_made pieces_of parts_after one_joins cut_at_outer_commas stands_alone pasted escaped spellings kind_of is_identifier is_number number_goes_on is_character is_string closes is_punctuator
runs_text sets file text = map (λ r. (length r.choices, ended_text r.ending)) (computed_runs sets file (lexed text))

other_sets : Sets
unfolding sets_of object
other_sets = sets_of (
    (codes "sys", object (codes "other") ∷ []) ∷
    (codes "H", object (codes "<sys/x.h>") ∷ []) ∷ [])

three_runs : runs_text other_sets None (codes "H")
    ≡ (1, Some (codes "H")) ∷ (2, Some (codes "< sys / x . h >")) ∷ (2, Some (codes "< other / x . h >")) ∷ []
unfolding runs_text other_sets
three_runs = refl

-- the answers of a table within these sets, for the names that have definitions there
answers : List ℕ → List Bool
unfolding other_sets sets_of object expansion lexed here choices_taken expansion_within expansion_step head_role role_expanded built_in name_replaced macro_replaced function_replaced called counted call_replacement object_replacement argument_expanded charged go_on put_out call_in mark_of arguments_of then_with arguments_expanded replacement joins_made pieces_of parts_after one_joins cut_at_outer_commas stands_alone pasted escaped spellings kind_of is_identifier is_number number_goes_on is_character is_string closes is_punctuator table_of
answers text = map is_some (choices_taken other_sets (table_of ((codes "H", object (codes "<sys/x.h>")) ∷ [])) here (expansion Text 0 100 (map unmarked (lexed text))))

two_answers : answers (codes "H x") ≡ true ∷ false ∷ []
unfolding answers
two_answers = refl

line_presumed : runs_text other_sets None (codes "__LINE__") ≡ (0, None) ∷ []
unfolding runs_text
line_presumed = refl

file_known : runs_text other_sets (Some (codes "/w/a.c")) (codes "__FILE__") ≡ (0, Some (34 ∷ codes "/w/a.c" ++ 34 ∷ [])) ∷ []
unfolding runs_text
file_known = refl

file_presumed : runs_text other_sets None (codes "__FILE__") ≡ (0, None) ∷ []
unfolding runs_text
file_presumed = refl

-- six names with four definitions each, in a header's name
digits_sets : Sets
unfolding sets_of object
digits_sets = sets_of (
    (codes "A", object (codes "1") ∷ object (codes "2") ∷ object (codes "3") ∷ object (codes "4") ∷ []) ∷
    (codes "B", object (codes "1") ∷ object (codes "2") ∷ object (codes "3") ∷ object (codes "4") ∷ []) ∷
    (codes "H", object (codes "<A/B>") ∷ []) ∷ [])

twenty_six_runs : length (runs_text digits_sets None (codes "H")) ≡ 26
unfolding runs_text digits_sets
twenty_six_runs = refl
