-- How code reads the operand of `defined` and a call, token by token (6.10.1, 6.10.3).
use Rattle.std.specs.Prelude.{◌≡◌, ℕ, zero, suc, ◌-◌, Bool, true, false, ◌&&◌, List, [], ◌∷◌, ◌==◌, ◌++◌, map, length, nat_lt, if◌then◌else◌, Vec, Option, Some, None}
use Rattle.std.specs.declared.alloc.Global.{Global}
use Rattle.pp_tokens.specs.declared.Token.{Token}
use Rattle.pp_tokens.specs.Marks.{is_identifier, is_open, is_close, Mark, Opening, Closing, Comma, Hash, Pasting, NoMark, mark_of}
use Rattle.macro_expand.specs.Replacement.{Marked, argument_with, argument_at, call_in, cut_at_outer_commas}
use Rattle.macro_expand.specs.declared.marked.Marked.{Marked as Kept}
use Rattle.macro_expand.specs.declared.call.CallMark.{CallMark}
use Rattle.macro_expand.specs.declared.call.CallMark.TheVariants.{Opens, Closes, Parts, Plain}
use Rattle.macro_expand.specs.declared.call.ReadCall.{ReadCall}
use Rattle.macro_expand.specs.declared.call.Cutting.{Cutting}
use Rattle.macro_expand.specs.Seen.{marked_of, lists_of}

-- whether there is a token at this place that passes the test
abbrev pub holds_at : (Token → Bool) → ℕ → List Marked → Bool
holds_at test place [] = false
holds_at test zero (t ∷ ts) = test t.token
holds_at test (suc place) (t ∷ ts) = holds_at test place ts

-- whether a name in parentheses stands first (6.10.1)
abbrev pub begins_with_name_in_parentheses : List Marked → Bool
begins_with_name_in_parentheses ts = holds_at is_open 0 ts && holds_at is_identifier 1 ts && holds_at is_close 2 ts

-- what a token with this mark is in a call (6.10.3 p10, p11)
abbrev pub mark_in_call : Mark → CallMark
mark_in_call Opening = Opens
mark_in_call Closing = Closes
mark_in_call Comma = Parts
mark_in_call Hash = Plain
mark_in_call Pasting = Plain
mark_in_call NoMark = Plain

abbrev pub call_mark : Token → CallMark
call_mark t = mark_in_call (mark_of t)

-- how many parentheses deep the tokens stand that follow such a token (6.10.3 p10)
abbrev pub nesting_after : ℕ → CallMark → ℕ
nesting_after nesting mark = elim mark [ Opens ↦ suc nesting | Closes ↦ nesting - 1 | _ ↦ nesting ]

-- whether such a token is the `)` that ends the call (6.10.3 p10)
abbrev pub ends_call : ℕ → CallMark → Bool
ends_call nesting mark = (nesting == 0) && (elim mark [ Closes ↦ true | _ ↦ false ])

-- whether such a token is a comma to cut at, where so many cuts are left (6.10.3 p11)
abbrev pub is_cut : ℕ → ℕ → CallMark → Bool
is_cut cuts nesting mark = nat_lt 0 cuts && (nesting == 0) && (elim mark [ Parts ↦ true | _ ↦ false ])

-- the arguments, with these tokens before the first
abbrev pub arguments_with : List Marked → List (List Marked) → List (List Marked)
arguments_with [] args = args
arguments_with (t ∷ ts) args = argument_with t (arguments_with ts args)

-- the pieces that are whole, and what the growing piece and these tokens are cut into
abbrev pub cut_from : Cutting → List Marked → List (List Marked)
cut_from c ts = lists_of c.pieces.items ++ arguments_with (map marked_of c.piece.items) (cut_at_outer_commas c.cuts c.nesting ts)

-- the call after a `(` and the tokens behind it, the call cut at its first `cuts` commas outside parentheses; none where it doesn't end
abbrev pub CutsCall : ℕ → List Marked → Option ReadCall → List Marked → Type 0
CutsCall cuts ts None after = call_in 0 ts ≡ None
CutsCall cuts ts (Some call) after =
    (within : List Marked)
    × (call_in 0 ts ≡ Some (record { within = within; close = marked_of call.close; after = after }))
    × (lists_of call.written.items ≡ cut_at_outer_commas cuts 0 within)

-- at how many commas a call of a macro with `count` parameters is cut, at most: where it is variadic, at those that part its arguments;
-- else at one more than a right call has, so that too many show
abbrev pub cuts_for : ℕ → Bool → ℕ
cuts_for count true = count - 1
cuts_for count false = count

-- the arguments that these pieces of a call are; none where their number is wrong
abbrev pub arguments_cut : ℕ → Bool → List (List Marked) → Option (List (List Marked))
arguments_cut count true pieces =
    if length pieces == count then Some pieces
    else (if suc (length pieces) == count then Some (pieces ++ [] ∷ []) else None)
arguments_cut zero false pieces = elim (argument_at 0 pieces) [ [] ↦ Some [] | t ∷ ts ↦ None ]
arguments_cut (suc count) false pieces = if length pieces == suc count then Some pieces else None

-- the arguments that code keeps, where their number is right
abbrev pub read_arguments : Option (Vec (Vec Kept Global) Global) → Option (List (List Marked))
read_arguments None = None
read_arguments (Some written) = Some (lists_of written.items)
