-- The tests of preprocessing tokens that directives and macros are read by (ISO C 6.4, 6.10).
use Rattle.std.specs.Prelude.{ℕ, Bool, true, false, ◌&&◌, ◌||◌, List, if◌then◌else◌, nat_eq, codes, bytes_eq}
use Rattle.std.specs.List.{starts_with}
use Rattle.pp_tokens.specs.declared.token.Kind.{Kind}
use Rattle.pp_tokens.specs.declared.token.Kind.TheVariants.{Ident, Char, Str, Punct}
use Rattle.pp_tokens.specs.declared.token.Token.{Token}

-- whether the kind is that of identifiers (6.4.2)
abbrev pub names : Kind → Bool
names k = elim k [ Ident ↦ true | _ ↦ false ]

-- whether the token is an identifier (6.4.2)
abbrev pub is_identifier : Token → Bool
is_identifier t = names t.kind

-- whether the token is a string literal (6.4.5)
abbrev pub is_string : Token → Bool
is_string t = elim t.kind [ Str ↦ true | _ ↦ false ]

-- whether the token is a string literal or a character constant (6.4.5, 6.4.4.4)
abbrev pub is_literal : Token → Bool
is_literal t = elim t.kind [ Str ↦ true | Char ↦ true | _ ↦ false ]

-- whether the kind is that of punctuators (6.4.6)
abbrev pub punctuates : Kind → Bool
punctuates k = elim k [ Punct ↦ true | _ ↦ false ]

-- whether the token is a punctuator (6.4.6)
abbrev pub is_punctuator : Token → Bool
is_punctuator t = punctuates t.kind

-- whether the token is the punctuator with this spelling (6.4.6)
abbrev pub is_mark : List ℕ → Token → Bool
is_mark spelling t = is_punctuator t && bytes_eq t.text spelling

-- whether the token is this identifier (6.4.2)
abbrev pub is_word : List ℕ → Token → Bool
is_word spelling t = is_identifier t && bytes_eq t.text spelling

-- whether the token is an identifier that begins with two underscores, as only the implementation's names do (7.1.3)
abbrev pub is_reserved : Token → Bool
is_reserved t = is_identifier t && starts_with nat_eq t.text (codes "__")

abbrev pub is_comma : Token → Bool
is_comma = is_mark (codes ",")

abbrev pub is_open : Token → Bool
is_open = is_mark (codes "(")

abbrev pub is_close : Token → Bool
is_close = is_mark (codes ")")

abbrev pub is_ellipsis : Token → Bool
is_ellipsis = is_mark (codes "...")

-- `#`, and its digraph (6.4.6, 6.10.3.2)
abbrev pub is_hash : Token → Bool
is_hash t = is_mark (codes "#") t || is_mark (codes "%:") t

-- `##`, and its digraph (6.4.6, 6.10.3.3)
abbrev pub is_pasting : Token → Bool
is_pasting t = is_mark (codes "##") t || is_mark (codes "%:%:") t

-- The punctuators that macro expansion tells apart.
pub data Mark : Type 0 where
  Opening : Mark
  Closing : Mark
  Comma : Mark
  Hash : Mark
  Pasting : Mark
  NoMark : Mark

-- which of them a token is
unfoldable pub mark_of : Token → Mark
mark_of t =
    if is_open t then Opening
    else (if is_close t then Closing
    else (if is_comma t then Comma
    else (if is_hash t then Hash
    else (if is_pasting t then Pasting
    else NoMark))))
