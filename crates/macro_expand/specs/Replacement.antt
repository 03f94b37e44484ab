-- Replacement of one macro call (6.10.3.1 to 6.10.3.3).
use Rattle.std.specs.Prelude.{ℕ, zero, suc, ◌-◌, Bool, true, false, not, ◌&&◌, ◌||◌, List, [], ◌∷◌, ◌++◌, map, length, ◌==◌, if◌then◌else◌, Option, Some, None, Result, Ok, Err, bytes_eq, slice_index_or}
use Rattle.base_types.specs.Ascii as ascii
use Rattle.pp_tokens.specs.declared.Kind.TheVariants.{Str}
use Rattle.pp_tokens.specs.declared.Token.{Token}
use Rattle.pp_tokens.specs.Marks.{is_literal, is_open, is_comma, Opening, Closing, Comma, Hash, Pasting, mark_of}
use Rattle.pp_tokens.specs.Grammar.{kind_of}
use Rattle.macro_defs.specs.Arguments.{argument_named}
use Rattle.macro_expand.specs.Asking.{Failure, Paste}

-- A set of names, by its test of membership.
abbrev pub Names : Type 0
Names = List ℕ → Bool

abbrev pub no_names : Names
no_names = λ _. false

abbrev pub with_name : List ℕ → Names → Names
with_name name names = λ n. bytes_eq n name || names n

abbrev pub common_names : Names → Names → Names
common_names a b = λ n. a n && b n

abbrev pub all_names : Names → Names → Names
all_names a b = λ n. a n || b n

-- A token with its hide set: the names that don't replace it any more (6.10.3.4).
pub record Marked : Type 0 where
  pub token : Token
  pub hidden : Names

abbrev pub unmarked : Token → Marked
unmarked t = record { token = t; hidden = no_names }

-- Calls (6.10.3 p10, p11).

-- A call's text after its `(`: the tokens within, the `)` that matches, and the tokens after it.
pub record Call : Type 0 where
  pub within : List Marked
  pub close : Marked
  pub after : List Marked

abbrev pub call_with : Marked → Option Call → Option Call
call_with t None = None
call_with t (Some c) = Some (record c { within = t ∷ c.within })

-- the call that the tokens after a `(` begin, `nesting` parentheses deep; none where the `)` is missing
unfoldable pub call_in : ℕ → List Marked → Option Call
call_in nesting [] = None
call_in nesting (t ∷ ts) =
    elim (mark_of t.token) [
      | Opening ↦ call_with t (call_in (suc nesting) ts)
      | Closing ↦ elim nesting [
        | zero ↦ Some (record { within = []; close = t; after = ts })
        | suc less ↦ call_with t (call_in less ts)
      ]
      | _ ↦ call_with t (call_in nesting ts)
    ]

-- the tokens after the `(` that they begin with
abbrev pub after_open : List Marked → Option (List Marked)
after_open [] = None
after_open (t ∷ ts) = if is_open t.token then Some ts else None

-- to put a token before the first argument
abbrev pub argument_with : Marked → List (List Marked) → List (List Marked)
argument_with t [] = (t ∷ []) ∷ []
argument_with t (a ∷ rest) = (t ∷ a) ∷ rest

-- the tokens, cut at the first `cuts` commas that stand outside parentheses
unfoldable pub cut_at_outer_commas : ℕ → ℕ → List Marked → List (List Marked)
cut_at_outer_commas cuts nesting [] = [] ∷ []
cut_at_outer_commas cuts nesting (t ∷ ts) =
    elim (mark_of t.token) [
      | Opening ↦ argument_with t (cut_at_outer_commas cuts (suc nesting) ts)
      | Closing ↦ argument_with t (cut_at_outer_commas cuts (nesting - 1) ts)
      | Comma ↦ elim (if nesting == 0 then cuts else 0) [
        | zero ↦ argument_with t (cut_at_outer_commas cuts nesting ts)
        | suc less ↦ [] ∷ cut_at_outer_commas less nesting ts
      ]
      | _ ↦ argument_with t (cut_at_outer_commas cuts nesting ts)
    ]

-- the arguments of a macro that has `count` parameters; where it is variadic, the last is all that follows the others, with its
-- commas, and may be left out. None where their number is wrong.
unfoldable pub arguments_of : ℕ → Bool → List Marked → Option (List (List Marked))
arguments_of count true within =
    let pieces = cut_at_outer_commas (count - 1) 0 within in
    (if length pieces == count then Some pieces
    else (if suc (length pieces) == count then Some (pieces ++ [] ∷ []) else None))
arguments_of zero false within = elim within [ [] ↦ Some [] | t ∷ ts ↦ None ]
arguments_of (suc count) false within =
    let pieces = cut_at_outer_commas (length within) 0 within in
    if length pieces == suc count then Some pieces else None

-- Parts of a replacement list.

-- What a token of a replacement list stands for: itself, an argument (with the space of its parameter), the spelling of an
-- argument (`#`), or a join (`##`).
pub data BodyPart : Type 0 where
  Plain : Token → BodyPart
  Argument : ℕ → Bool → BodyPart
  Spelling : ℕ → Bool → BodyPart
  Join : BodyPart

-- what stands for the tokens of a function-like macro's replacement list; `hash` is the space of a `#` that stands right before
unfoldable pub parts_after : Option Bool → List (List ℕ) → List Token → List BodyPart
parts_after hash names [] = []
parts_after None names (t ∷ ts) =
    elim (mark_of t) [
      | Pasting ↦ Join ∷ parts_after None names ts
      | Hash ↦ parts_after (Some t.space) names ts
      | _ ↦ (elim (argument_named names t) [ None ↦ Plain t | Some i ↦ Argument i t.space ]) ∷ parts_after None names ts
    ]
parts_after (Some space) names (t ∷ ts) =
    (elim (argument_named names t) [ None ↦ Plain t | Some i ↦ Spelling i space ]) ∷ parts_after None names ts

-- the parts of an object-like macro's replacement list
abbrev pub object_parts : List Token → List BodyPart
object_parts = map (λ t. elim (mark_of t) [ Pasting ↦ Join | _ ↦ Plain t ])

abbrev pub is_join : Option BodyPart → Bool
is_join None = false
is_join (Some p) = elim p [ Join ↦ true | _ ↦ false ]

abbrev pub first_body_part : List BodyPart → Option BodyPart
first_body_part [] = None
first_body_part (p ∷ ps) = Some p

-- the parts with `##` several times in a row as one; `joined` says that one stands right before them (6.10.3.3)
unfoldable pub one_joins : Bool → List BodyPart → List BodyPart
one_joins joined [] = []
one_joins joined (p ∷ ps) = (if joined && is_join (Some p) then [] else p ∷ []) ++ one_joins (is_join (Some p)) ps

-- the parts of a function-like macro's replacement list, by its parameters' names
abbrev pub body_parts : List (List ℕ) → List Token → List BodyPart
body_parts names body = one_joins false (parts_after None names body)

-- whether this part, between these, is argument `i` beside no `##`, so that it is expanded by itself (6.10.3.1)
abbrev pub is_alone : ℕ → Option BodyPart → BodyPart → List BodyPart → Bool
is_alone i left (Plain t) right = false
is_alone i left (Argument j space) right = (i == j) && not (is_join left) && not (is_join (first_body_part right))
is_alone i left (Spelling j space) right = false
is_alone i left Join right = false

-- whether argument `i` stands alone somewhere in these parts, after this one
unfoldable pub stands_alone : ℕ → Option BodyPart → List BodyPart → Bool
stands_alone i left [] = false
stands_alone i left (p ∷ ps) = is_alone i left p ps || stands_alone i (Some p) ps

-- The pieces that `##` joins: tokens, placemarkers and the joins between them (6.10.3.3).
pub data Piece : Type 0 where
  Real : Marked → Piece
  Placemarker : Piece
  Joining : Piece

-- `\` before each `\` and `"`
unfoldable pub escaped : List ℕ → List ℕ
escaped [] = []
escaped (b ∷ bs) = (if (b == ascii.backslash) || (b == ascii.quote) then ascii.backslash ∷ b ∷ [] else b ∷ []) ++ escaped bs

abbrev pub spelling_of : Token → List ℕ
spelling_of t = if is_literal t then escaped t.text else t.text

-- the spellings of an argument, with one space where white space stood between two tokens (6.10.3.2)
unfoldable pub spellings : Bool → List Marked → List ℕ
spellings first [] = []
spellings first (t ∷ ts) =
    (if t.token.space && not first then ascii.space ∷ spelling_of t.token else spelling_of t.token) ++ spellings false ts

-- the string literal that `#` makes; its line is set with the whole replacement's
abbrev pub stringized : Bool → List Marked → Marked
stringized space ts = unmarked (record { kind = Str; text = ascii.quote ∷ spellings true ts ++ ascii.quote ∷ []; line = 0; space = space })

abbrev pub with_space : Bool → List Marked → List Marked
with_space space [] = []
with_space space (t ∷ ts) = record t { token = record t.token { space = space } } ∷ ts

abbrev pub as_pieces : List Marked → List Piece
as_pieces [] = Placemarker ∷ []
as_pieces (t ∷ ts) = map Real (t ∷ ts)

-- The arguments of one call: as written, and expanded by themselves where a parameter stands alone.
pub record Arguments : Type 0 where
  pub written : List (List Marked)
  pub expanded : List (List Marked)
  -- the number of the variable argument
  pub variable : Option ℕ

abbrev pub is_variable : Arguments → Option BodyPart → Bool
is_variable args None = false
is_variable args (Some p) =
    elim p [
      | Argument i space ↦ elim args.variable [ None ↦ false | Some v ↦ i == v ]
      | _ ↦ false
    ]

abbrev pub is_comma_part : Option BodyPart → Bool
is_comma_part None = false
is_comma_part (Some p) = elim p [ Plain t ↦ is_comma t | _ ↦ false ]

abbrev pub rest_parts : List BodyPart → List BodyPart
rest_parts [] = []
rest_parts (p ∷ ps) = ps

abbrev pub argument_at : ℕ → List (List Marked) → List Marked
argument_at i args = slice_index_or args i []

abbrev pub is_empty_argument : Arguments → Bool
is_empty_argument args =
    elim args.variable [ None ↦ false | Some v ↦ elim (argument_at v args.written) [ [] ↦ true | t ∷ ts ↦ false ] ]

-- the pieces of one part that stands between these; `, ## V` drops the comma where V has no tokens, and joins nothing (GNU)
abbrev pub pieces_of_part : Arguments → Option BodyPart → BodyPart → List BodyPart → List Piece
pieces_of_part args left (Plain t) right =
    if is_comma t && is_join (first_body_part right) && is_variable args (first_body_part (rest_parts right)) && is_empty_argument args
    then [] else Real (unmarked t) ∷ []
pieces_of_part args left (Argument i space) right =
    if is_join left || is_join (first_body_part right) then as_pieces (with_space space (argument_at i args.written))
    else map Real (with_space space (argument_at i args.expanded))
pieces_of_part args left (Spelling i space) right = Real (stringized space (argument_at i args.written)) ∷ []
pieces_of_part args left Join right =
    if is_comma_part left && is_variable args (first_body_part right) then [] else Joining ∷ []

unfoldable pub pieces_of : Arguments → Option BodyPart → List BodyPart → List Piece
pieces_of args left [] = []
pieces_of args left (p ∷ ps) = pieces_of_part args left p ps ++ pieces_of args (Some p) ps

-- Pasting (6.10.3.3).

-- a token or a placemarker
abbrev pub PasteOperand : Type 0
PasteOperand = Option Marked

abbrev pub operand_tokens : PasteOperand → List Marked
operand_tokens None = []
operand_tokens (Some t) = t ∷ []

-- what `##` makes of its two sides, or the two spellings that it can't paste
unfoldable pub pasted : PasteOperand → PasteOperand → Result PasteOperand (List ℕ × List ℕ)
pasted None right = Ok right
pasted (Some a) None = Ok (Some a)
pasted (Some a) (Some b) =
    elim (kind_of (a.token.text ++ b.token.text)) [
      | None ↦ Err (a.token.text, b.token.text)
      | Some kind ↦ Ok (Some (record {
        token = record { kind = kind; text = a.token.text ++ b.token.text; line = a.token.line; space = a.token.space };
        hidden = common_names a.hidden b.hidden;
      }))
    ]

abbrev pub before_joined : PasteOperand → Result (List Marked) (List ℕ × List ℕ) → Result (List Marked) (List ℕ × List ℕ)
before_joined left (Ok ts) = Ok (operand_tokens left ++ ts)
before_joined left (Err e) = Err e

-- the pieces with their joins made from left to right; `joining` says that a `##` stands right after `left`
unfoldable pub joins_made : PasteOperand → Bool → List Piece → Result (List Marked) (List ℕ × List ℕ)
joins_made left joining [] = Ok (operand_tokens left)
joins_made left joining (Joining ∷ ps) = joins_made left true ps
joins_made left false (Real t ∷ ps) = before_joined left (joins_made (Some t) false ps)
joins_made left false (Placemarker ∷ ps) = before_joined left (joins_made None false ps)
joins_made left true (Placemarker ∷ ps) = joins_made left false ps
joins_made left true (Real t ∷ ps) = elim (pasted left (Some t)) [ Ok made ↦ joins_made made false ps | Err e ↦ Err e ]

-- The tokens as they are put in for the name `t`: its line, its space on the first, and the hide set (6.10.3.4).
abbrev pub put_in_for : Token → Names → List Marked → List Marked
put_in_for t hidden ts =
    with_space t.space (map (λ m. record {
      token = record m.token { line = t.line };
      hidden = all_names m.hidden hidden;
    }) ts)

-- what the name `t` is replaced by, or its paste error
unfoldable pub replacement : Token → Names → List BodyPart → Arguments → Result (List Marked) Failure
replacement t hidden parts args =
    elim (joins_made None false (pieces_of args None parts)) [
      | Ok ts ↦ Ok (put_in_for t hidden ts)
      | Err pair ↦ Err (Paste pair.0 pair.1 t.line)
    ]
