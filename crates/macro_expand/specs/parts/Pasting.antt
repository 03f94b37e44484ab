-- How code joins pieces one by one (6.10.3.3).
use Rattle.std.specs.Prelude.{◌≡◌, ℕ, true, List, ◌++◌, map, Some, IfSome, Result, Ok, Err}
use Rattle.pp_tokens.specs.Grammar.{kind_of}
use Rattle.macro_expand.specs.declared.marked.Marked.{Marked as Kept}
use Rattle.macro_expand.specs.declared.paste.Joining.{Joining}
use Rattle.macro_expand.specs.Replacement.{Marked, Piece, joins_made}
use Rattle.macro_expand.specs.Seen.{marked_of, paste_operand}

-- tokens before others
unfoldable pub tokens_in_front : List Marked → Result (List Marked) (List ℕ × List ℕ) → Result (List Marked) (List ℕ × List ℕ)
tokens_in_front ts (Ok us) = Ok (ts ++ us)
tokens_in_front ts (Err e) = Err e

-- the tokens that are whole, before what these pieces become behind the operand on the left
abbrev pub joined_from : Joining → List Piece → Result (List Marked) (List ℕ × List ℕ)
joined_from j ps = tokens_in_front (map marked_of j.out.items) (joins_made (paste_operand j.left) j.joining ps)

-- the spelling is that of one token, of this kind (6.10.3.3 paragraph 3)
abbrev pub IsOneToken : Kept → Type 0
IsOneToken m = kind_of m.token.text ≡ Some m.token.kind

-- where a join made the operand on the left, it is one token
abbrev pub MadeIsOne : Joining → Type 0
MadeIsOne j = j.made ≡ true → IfSome j.left IsOneToken
