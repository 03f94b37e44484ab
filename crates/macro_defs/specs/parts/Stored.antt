-- How maps and sets of names are seen, and what a definition keeps beside its value.
use Rattle.std.specs.Prelude.{ℕ, List, [], ◌∷◌, map, Option, None, if◌then◌else◌, bytes_eq}
use Rattle.std.specs.Borrow.{Bor}
use Rattle.indexmap.specs.IndexMap.{IndexMap, get_by}
use Rattle.pp_tokens.specs.declared.Token.{Token}
use Rattle.pp_tokens.specs.Marks.{is_identifier}
use Rattle.macro_defs.specs.declared.params.Names.{Names}
use Rattle.macro_defs.specs.declared.params.Names.TheVariants as names
use Rattle.macro_defs.specs.Arguments.{argument_named}

-- the spellings in a set of names
abbrev pub spellings_of : List (Bor (List ℕ)) → List (List ℕ)
spellings_of names = map (λ n. n.now) names

-- the names that are looked up
abbrev pub names_held : Names → List (List ℕ)
names_held (names.Few ns) = ns.now
names_held (names.Many known) = spellings_of known.keys

-- the number that a map has for a name
abbrev pub number_for_name : {S : Type 0} → IndexMap (Bor (List ℕ)) ℕ S → List ℕ → Option ℕ
number_for_name numbers name = get_by (λ n. bytes_eq name n.now) numbers

-- the number that a map has for the name that a token is
abbrev pub number_named : {S : Type 0} → IndexMap (Bor (List ℕ)) ℕ S → Token → Option ℕ
number_named numbers t = if is_identifier t then number_for_name numbers t.text else None

-- for each token of a replacement list the argument that it names; nothing where there are no parameters
abbrev pub numbers_kept : List (List ℕ) → List Token → List (Option ℕ)
numbers_kept [] body = []
numbers_kept (name ∷ names) body = map (argument_named (name ∷ names)) body
